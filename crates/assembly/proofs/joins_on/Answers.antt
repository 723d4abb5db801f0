use Prim.Native.Nat.{ℕ, ◌+◌}
use mathlib.Core.Bool.{Bool, cond}
use mathlib.Core.Path.{◌≡◌, ap}
use native.Mathlib.Omega.{arith}
use Rattle.assembly.specs.Placements.{placement_at, join_of, join_on, joins_on}
use Rattle.assembly.specs.Work.{own_on}
use Rattle.assembly.specs.Degrees.{joins_zero}
use Rattle.assembly.proofs.Walks.{own_none, joins_next}
use Rattle.assembly.proofs.joins_on.Goals as goal
use Rattle.assembly.proofs.joins_on.Goals.{After-is_on, then-is_on, else-is_on}

-- what a turn adds
turn : (c : After-is_on) → let a = c.args in let joins = join_on (placement_at a.xs.now) in
    c.loop-k.total + cond c.is_on.result 1 0 + own_on joins (c.loop-k.k + 1) a.p a.a ≡ joins_on joins (c.loop-k.k + 1) a.p a.a + own_on joins a.last a.p a.a
unfolding placement_at join_of
turn c = let a = c.args in
    omega (arith, ap (λ (t : Bool). cond {A = ℕ} t 1 0) c.is_on.ensures, joins_next (join_on (placement_at a.xs.now)) a.p a.a c.loop-k.k)

pub loop-k-init : goal.loop-k-init
loop-k-init c = let a = c.args in
    let joins = join_on (placement_at a.xs.now) in
    (omega (arith, c.own_on-total.ensures.0, joins_zero joins a.p a.a, own_none joins a.p a.a), omega arith)

pub loop-k-preserved : goal.loop-k-preserved
loop-k-preserved c =
    let more = turn (goal.at.loop-k-preserved c).After-is_on in
    elim c.if-is_on.branch [
      | then-is_on w ↦ (omega (arith, w.total-is, more, ap (λ (t : Bool). cond {A = ℕ} t 1 0) w.if-is_on.true), omega (arith, w.total-is))
      | else-is_on w ↦ (omega (arith, w.total-is, more, ap (λ (t : Bool). cond {A = ℕ} t 1 0) w.if-is_on.false), omega (arith, w.total-is))
    ]

pub returns : goal.returns
returns c = let a = c.args in
    let joins = join_on (placement_at a.xs.now) in
    let e : c.loop-k.k ≡ a.last = omega arith in
    (omega (arith, rw e at c.loop-k.invariant.0), omega arith)

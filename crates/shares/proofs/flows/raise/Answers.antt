use Prim.Native.Nat.{ℕ, ◌*◌}
use mathlib.Core.Path.{◌≡◌, ap}
use native.Mathlib.Nat.{le_refl}
use native.Mathlib.Omega.{arith}
use lib.ListN.{get_or}
use Rattle.block.specs.Lent.{filled_none, filled_same, filled_store}
use Rattle.shares.proofs.flows.raise.Goals as goal
use Rattle.shares.proofs.flows.raise.Goals.{In-loop-k}

pub returns-then-f-eq1 : goal.returns-then-f-eq1
returns-then-f-eq1 c = filled_same (λ k l. omega (arith, ap (λ (x : ℕ). get_or c.args.out.now k 0 * x) c.if-f-eq1.true))

pub loop-k-init : goal.loop-k-init
loop-k-init c = (omega arith, filled_none)

pub bounds-out-k : goal.bounds-out-k
bounds-out-k c = omega (arith, c.loop-k.invariant.1.same)

-- the entry at hand is as it was
old : (c : In-loop-k) → get_or c.loop-k.out c.loop-k.k 0 * c.args.f ≡ get_or c.args.out.now c.loop-k.k 0 * c.args.f
old c = ap (λ (x : ℕ). x * c.args.f) (c.loop-k.invariant.1.kept c.loop-k.k (le_refl c.loop-k.k))

pub overflow_mul-out : goal.overflow_mul-out
overflow_mul-out c = omega (arith, old (goal.at.overflow_mul-out c).In-loop-k, c.requires.1 c.loop-k.k c.loop-k-test.true)

pub bounds-out-k-in-loop-k : goal.bounds-out-k-in-loop-k
bounds-out-k-in-loop-k c = omega (arith, c.loop-k.invariant.1.same)

pub loop-k-preserved : goal.loop-k-preserved
loop-k-preserved c = let l = c.loop-k in (omega arith, filled_store l.invariant.1 (omega (arith, l.invariant.1.same)) _ (old (goal.at.loop-k-preserved c).In-loop-k))

pub shape_of-out : goal.shape_of-out
shape_of-out c = c.loop-k.invariant.1.same

pub returns : goal.returns
returns c = let e : c.loop-k.k ≡ c.args.m = omega arith in rw e at c.loop-k.invariant.1

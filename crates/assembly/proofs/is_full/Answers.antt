use Prim.Native.Nat.{ℕ, ◌+◌, ◌-◌}
use mathlib.Core.Path.{◌≡◌, sym, ap}
use native.Mathlib.Omega.{arith}
use borrow.Author.Tests.{le-leb, lt-leb}
use lib.Dec.{leb}
use Rattle.block.specs.Block.{limit}
use Rattle.assembly.specs.Placements.{placement_at, join_on, joins_on}
use Rattle.assembly.specs.Degrees.{joins_zero}
use Rattle.assembly.proofs.is_full.Goals as goal

-- `assembly::is_full` meets its contract. Assumes nothing.
pub returns-then-ends-ge-LIMIT : goal.returns-then-ends-ge-LIMIT
returns-then-ends-ge-LIMIT c = let a = c.args in sym (le-leb limit (a.ends + joins_on (join_on (placement_at a.xs.now)) (a.k - 1) a.p a.a) (omega arith))

pub returns-then-k-eq0 : goal.returns-then-k-eq0
returns-then-k-eq0 c =
    let a = c.args in
    let joins = join_on (placement_at a.xs.now) in
    let e : a.k - 1 ≡ 0 = omega arith in
    sym (lt-leb limit (a.ends + joins_on joins (a.k - 1) a.p a.a) (omega (arith, ap (λ (n : ℕ). joins_on joins n a.p a.a) e, joins_zero joins a.p a.a)))

pub returns : goal.returns
returns c = let a = c.args in ap (λ (n : ℕ). leb limit (a.ends + n)) c.joins_on.ensures.0

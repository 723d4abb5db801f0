use Prim.Native.Nat.{ℕ, zero, suc, ◌≤◌}
use mathlib.Core.Path.{◌≡◌, refl}
use native.Mathlib.Omega.{arith}
use Rattle.whole.specs.Work.{joins_of}
use Rattle.whole.proofs.joins_of.Goals as goal

-- `whole::joins_of` meets its contract.
later : (k : ℕ) → 1 ≤ k → 1 ≡ joins_of k
unfolding joins_of
later zero h = absurd (omega arith)
later (suc k) h = refl

pub returns-then-k-eq0 : goal.returns-then-k-eq0
unfolding joins_of
returns-then-k-eq0 c = let e : c.args.k ≡ 0 = omega (arith, c.if-k-eq0.true) in rw e (refl, omega arith)

pub returns : goal.returns
returns c = (later c.args.k (omega (arith, c.if-k-eq0.false)), omega arith)

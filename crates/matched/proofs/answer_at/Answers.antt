use Prim.Native.Nat.{ℕ, zero, suc}
use mathlib.Core.Path.{◌≡◌, refl}
use native.Mathlib.Omega.{arith}
use Rattle.matched.specs.Matched.{answer_at}
use Rattle.matched.specs.declared.Match.TheVariants.{Differs}
use Rattle.matched.proofs.answer_at.Goals as goal

-- `matched::answer_at` meets its contract. Assumes nothing.
later : (p : ℕ) → (p ≡ 0 → ⊥) → Differs p ≡ answer_at p
later zero n = absurd (n refl)
later (suc p) n = refl

pub returns-then-place-eq0 : goal.returns-then-place-eq0
returns-then-place-eq0 c = let e : c.args.place ≡ 0 = omega (arith, c.if-place-eq0.true) in rw e

pub returns : goal.returns
returns c = later c.args.place (λ e. omega (arith, c.if-place-eq0.false, e))

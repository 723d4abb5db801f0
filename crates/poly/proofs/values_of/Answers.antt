use Prim.Native.Nat.{ℕ}
use mathlib.Core.Path.{◌≡◌, refl, ap, ap₂, ◌∙◌}
use mathlib.Core.Bool.{Bool, true, false, not, ◌&&◌}
use lib.Ieee.{Float, of_bits, lt, le}
use Rattle.reply.specs.Read.{read, ◌then◌, refuse_if, as_result}
use Rattle.poly.specs.Poly.{zero_f, one_f, pairs_counted, polynomial_values, polynomial_at}
use Rattle.poly.proofs.Usable.{two_tests}
use Rattle.poly.proofs.values_of.Goals as goal
use Rattle.poly.proofs.values_of.Goals.{then-x+else-x-2, else-x}
use Rattle.std.specs.Prelude.{Ok, Err}

-- `poly::values_of` meets its contract: the two tests are those of `unusable`, the other way round, and each value is what `value_of` ensures.
-- the reply, by what the two tests gave
chosen : (n : ℕ → ℕ) (x : Float) (a b : Bool) → lt zero_f x ≡ a → le x one_f ≡ b
    → as_result (refuse_if (not (a && b)) 10 0 then λ _. read (polynomial_values n x)) ≡ as_result (polynomial_at n x)
unfolding polynomial_at
chosen n x a b p q = rw (two_tests x, p, q)

pub returns-then-x-2 : goal.returns-then-x-2
unfolding of_bits polynomial_values
returns-then-x-2 c =
    ap₂ (λ (e o : Float). Ok (record { even = e; odd = o })) c.value_of-even.ensures c.value_of-odd.ensures
    ∙ chosen (pairs_counted c.args.counts) c.args.x true true c.if-x.true c.if-x-2.true

pub returns : goal.returns
unfolding of_bits
returns c =
    let chosen = chosen (pairs_counted c.args.counts) c.args.x in
    ap Err c.at.ensures ∙ elim c.if-x.branch [
      | then-x+else-x-2 w ↦ chosen true false w.if-x.true w.if-x-2.false
      | else-x w ↦ chosen false (le c.args.x one_f) w.if-x.false refl
    ]

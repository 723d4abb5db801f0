use Prim.Native.Nat.{ℕ, ◌+◌}
use mathlib.Core.Path.{sym, ◌∙◌, ap}
use native.Mathlib.Omega.{arith}
use Rattle.deck.specs.Placed.{deck_of}
use Rattle.deck.specs.Present.{present}
use Rattle.matched.specs.Matched.{placed_number}
use Rattle.matched.proofs.number_in.Goals as goal

-- `matched::number_in` meets its contract. Assumes nothing.
pub returns-then-is_missing : goal.returns-then-is_missing
unfolding placed_number
returns-then-is_missing c = rw (sym c.is_missing.ensures ∙ c.if-is_missing.true)

pub overflow_sub-p : goal.overflow_sub-p
overflow_sub-p c =
    let a = c.args in
    omega (arith, (present a.d.now (deck_of a.deck) a.p a.a (sym c.is_missing.ensures ∙ c.if-is_missing.false)).number.low)

pub returns : goal.returns
unfolding placed_number
returns c = rw (sym c.is_missing.ensures ∙ c.if-is_missing.false) (ap (λ (n : ℕ). n + c.args.a) c.start_of.ensures.0)

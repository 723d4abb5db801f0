use Prim.Native.Nat.{◌-◌}
use mathlib.Core.Path.{sym, ◌∙◌}
use native.Mathlib.Omega.{arith}
use Rattle.block.specs.Faults.{inside}
use Rattle.deck.specs.Placed.{is_missing}
use Rattle.deck.specs.Placed.{deck_of}
use Rattle.deck.proofs.Reading.{block-atoms}
use Rattle.deck.proofs.is_missing.Goals as goal

-- `deck::is_missing` meets its contract: the placement's number, then the atom's.
pub returns-then-is_outside : goal.returns-then-is_outside
unfolding is_missing
returns-then-is_outside c = rw (sym c.is_outside.ensures ∙ c.if-is_outside.true)

pub overflow_sub-k : goal.overflow_sub-k
overflow_sub-k c = let a = c.args in omega (arith, inside a.deck.placements a.k (sym c.is_outside.ensures ∙ c.if-is_outside.false))

pub returns : goal.returns
unfolding is_missing
returns c =
    let a = c.args in
    let b = c.block_at-b in
    rw (sym c.is_outside.ensures ∙ c.if-is_outside.false, block-atoms a.d.now (deck_of a.deck) (a.k - 1) b.result b.ensures) c.is_outside-2.ensures

use mathlib.Core.Path.{◌∙◌, ap}
use Rattle.assembly.specs.Book.{find}
use Rattle.assembly.specs.declared.Placement.{Placement}
use Rattle.deck.specs.Molecule.{placed_in}
use Rattle.deck.specs.Placed.{deck_of}
use Rattle.deck.proofs.block_at.Goals as goal

-- `deck::block_at` meets its contract: the block whose number the placement has.
pub returns : goal.returns
unfolding placed_in
returns c =
    let a = c.args in
    c.find_block.ensures ∙ ap (λ (q : Placement). find (deck_of a.deck).blocks q.block) c.placement-p.ensures

use mathlib.Core.Path.{◌≡◌, refl, ◌∙◌}
use lib.ListN.{get_or}
use Rattle.assembly.specs.Book.{no_block}
use Rattle.catalogue.specs.Library.{core_number}
use Rattle.stock.specs.Stock.{core_at}
use Rattle.library.proofs.core_by.Goals as goal

-- `library::core_by` meets its contract. Assumes nothing.
pub returns-then-b-le16_at : goal.returns-then-b-le16_at
unfolding core_at
returns-then-b-le16_at c =
    let e : (get_or c.args.blocks 0 no_block).number ≡ core_number c.args.xs.now = c.if-b-le16_at.true ∙ c.le16_at.ensures in
    c.core_in.ensures ∙ rw (c.atoms_of.ensures, c.requires, e) refl

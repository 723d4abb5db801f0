use Rattle.sdfile.proofs.Items.{items_begin}
use Rattle.sdfile.proofs.items_from.Goals as goal

-- `sdfile::items_from` meets its contract. Assumes nothing.
pub returns : goal.returns
returns c = items_begin _ _ _ _ c.rest_place-from.ensures c.line_from-end.ensures c.next_line.ensures

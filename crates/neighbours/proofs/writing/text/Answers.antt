use Rattle.text.proofs.Putting.{both}
use Rattle.adjacency.specs.Written.{text_by}
use Rattle.neighbours.proofs.writing.text.Goals as goal

-- `text` meets its contract: its parts are put one after the other.
pub returns : goal.returns
unfolding text_by
returns c = both (both (both c.number-a.ensures c.put_byte-b.ensures) c.lines-c.ensures) c.put.ensures

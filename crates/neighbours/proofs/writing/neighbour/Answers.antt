use mathlib.Core.Path.{sym, ◌∙◌}
use Rattle.text.proofs.Putting.{none, both}
use Rattle.adjacency.proofs.Putting.{listed_none, listed_one}
use Rattle.neighbours.proofs.writing.neighbour.Goals as goal

-- `neighbour` meets its contract. Assumes nothing.
pub returns-then-is_greater : goal.returns-then-is_greater
returns-then-is_greater c = rw (sym c.is_greater.ensures ∙ c.if-is_greater.true, listed_one c.args.j) (both c.put_byte-next.ensures c.number.ensures)

pub returns : goal.returns
returns c = rw (sym c.is_greater.ensures ∙ c.if-is_greater.false, listed_none) none

use Rattle.text.specs.Laws.{said_next}
use Rattle.sdfile.proofs.next_line.Goals as goal

-- `sdfile::next_line` meets its contract. Assumes nothing.
pub returns : goal.returns
returns c = let a = c.args in said_next a.d.now a.at c.line_at-seen.ensures

-- It goes on from the place, and what is left of the text falls.
use Rattle.std.proofs.Common.{length, ◌-◌, ◌≤◌}
use Rattle.lines.proofs.table.line_end.Given as goal

abbrev pub invariant-loop-at : goal.invariant-loop-at
invariant-loop-at l = l.fn.from ≤ l.at

abbrev pub decreases-loop-at : goal.decreases-loop-at
decreases-loop-at l = length l.text - l.at

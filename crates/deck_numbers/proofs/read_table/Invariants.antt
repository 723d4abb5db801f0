-- What is left of the text falls.
use Rattle.std.proofs.Common.{length, ◌-◌}
use Rattle.deck_numbers.proofs.read_table.Given as goal

abbrev pub decreases-loop-at : goal.decreases-loop-at
decreases-loop-at g l = length l.text - l.at

-- What is left of the text falls.
use Rattle.std.proofs.Common.{length, ◌-◌}
use Rattle.numbers.proofs.read_table.Given as goal

abbrev pub decreases_loop_at : goal.decreases-loop-at
decreases_loop_at g l = length l.text - l.at

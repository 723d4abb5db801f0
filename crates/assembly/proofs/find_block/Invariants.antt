use mathlib.Core.Path.{◌≡◌}
use lib.ListN.{take, drop}
use Rattle.assembly.specs.Book.{find}
use Rattle.assembly.proofs.find_block.Given as goal

-- `assembly::find_block` meets its contract. The loop's invariant: what is found among the blocks that are left is what is found among all. Assumes nothing.
abbrev pub invariant-loop-i : goal.invariant-loop-i
invariant-loop-i l = find (take l.count l.blocks) l.number ≡ find (drop l.i (take l.count l.blocks)) l.number

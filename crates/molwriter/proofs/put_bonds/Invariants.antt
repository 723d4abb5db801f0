use Prim.Native.Nat.{◌+◌, ◌-◌, ◌*◌, ◌/◌, ◌≤◌}
use mathlib.Core.List.{List, ◌++◌}
use mathlib.Core.Path.{◌≡◌}
use lib.ListN.{length, drop}
use Rattle.graph.specs.Graph.{Bond}
use Rattle.block.specs.Block.{bonds_of}
use Rattle.text.specs.Put.{Puts}
use Rattle.molwriter.specs.Pieces.{bonds_text}
use Rattle.molwriter.proofs.put_bonds.Given as goal

-- `molwriter::put_bonds` meets its contract. The loop's invariant: some bonds are put, and those from k on are left.
abbrev pub invariant-loop-k : goal.invariant-loop-k
invariant-loop-k l = (l.k ≤ l.m) × (l.m ≡ length l.bonds / 2) × (length l.out ≡ length l.initial.out) × ((done : List Bond) × Puts l.initial.out l.at (bonds_text done) l.out l.at_end × (done ++ bonds_of (drop (2 * l.k) l.bonds) ≡ bonds_of l.bonds))

use Prim.Native.Nat.{◌-◌, ◌≤◌}
use mathlib.Core.Path.{◌≡◌}
use lib.ListN.{length}
use Rattle.text.specs.Put.{Puts}
use Rattle.molwriter.specs.Pieces.{atoms_text}
use Rattle.molwriter.proofs.put_atoms.Given as goal

-- `molwriter::put_atoms` meets its contract. The loop's invariant: so many atom lines are put.
abbrev pub invariant-loop : goal.invariant-loop
invariant-loop l = (l.counter ≤ l.n) × (length l.out ≡ length l.initial.out) × Puts l.initial.out l.at (atoms_text l.counter) l.out l.k

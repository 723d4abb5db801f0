use Prim.Native.Nat.{ℕ, ◌-◌, ◌≤◌}
use mathlib.Core.List.{List}
use mathlib.Core.Path.{◌≡◌}
use lib.ListN.{length}
use Rattle.reply.specs.Read.{read}
use Rattle.molfile.specs.Molfile.{atom_line_place, hydrogen_at, in_turn, atom_reply}
use Rattle.molfile.specs.Work.{mark_of}
use Rattle.molfile.proofs.Filling.{Holds}
use Rattle.molfile.proofs.atoms.Given as goal

-- `molfile::atoms` meets its contract. The loop's invariant: i atom lines are there and marked, and the next begins at `at`.
-- the mark of the atom line i
abbrev pub mark : List ℕ → ℕ → ℕ
mark d i = mark_of (hydrogen_at d (atom_line_place d i))

abbrev pub invariant-loop-i : goal.invariant-loop-i
invariant-loop-i l = (l.i ≤ l.n) × (l.at ≡ atom_line_place l.d l.i) × (in_turn l.i (atom_reply l.d) ≡ read tt) × (length l.marks ≡ length l.initial.marks) × Holds (mark l.d) l.i l.marks

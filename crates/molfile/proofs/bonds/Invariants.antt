use Prim.Native.Nat.{ℕ, ◌-◌, ◌≤◌}
use mathlib.Core.List.{List}
use mathlib.Core.Path.{◌≡◌}
use lib.ListN.{length}
use Rattle.reply.specs.Read.{read}
use Rattle.molfile.specs.Molfile.{bond_line_place, bond_of_line, in_turn, bond_reply_of}
use Rattle.molfile.proofs.Filling.{Holds}
use Rattle.molfile.proofs.bonds.Given as goal

-- `molfile::bonds` meets its contract. The loop's invariant: k bond lines are read, their ends are stored, and the next begins at `at`.
-- the ends of the bond k
abbrev pub one : List ℕ → ℕ → ℕ
one d k = (bond_of_line d k).one

abbrev pub two : List ℕ → ℕ → ℕ
two d k = (bond_of_line d k).two

abbrev pub invariant-loop-k : goal.invariant-loop-k
invariant-loop-k l = (l.k ≤ l.m) × (l.at ≡ bond_line_place l.d l.k) × (in_turn l.k (bond_reply_of l.d) ≡ read tt) × (length l.ones ≡ length l.initial.ones) × (length l.twos ≡ length l.initial.twos) × Holds (one l.d) l.k l.ones × Holds (two l.d) l.k l.twos

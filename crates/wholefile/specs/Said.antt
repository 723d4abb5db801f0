-- Definitions. What is lent after reading, and what bonds say of two atoms.
use Rattle.std.specs.Prelude.{ℕ, List}
use Rattle.graph.specs.Graph.{Bond, any_joins, degree}
use Rattle.molfile.specs.Said.{file_numbers}
use Rattle.wholefile.specs.Whole.{molecule_reply}
use Rattle.wholefile.specs.declared.Seen.{Seen}

-- the lent numbers afterwards: those of the kept bonds, and later ones as they were; a refusal changes none
abbrev pub whole_numbers : List ℕ → List ℕ → List ℕ
whole_numbers = file_numbers molecule_reply

-- what bonds say of two atoms
abbrev pub seen_by : List Bond → ℕ → ℕ → Seen
seen_by bs a b = record { joined = any_joins bs a b; one = degree bs a; two = degree bs b }

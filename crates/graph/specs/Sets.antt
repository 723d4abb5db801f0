-- Definitions. Sets of atoms as numbers: atom v is in the set whose binary digit at v - 1 is 1.
use Rattle.std.specs.Prelude.{ℕ, ◌-◌, ◌/◌, ◌%◌, ◌^◌, Bool, eqb}

-- whether atom v is in the set m
unfoldable pub has : ℕ → ℕ → Bool
has m v = eqb (m / 2 ^ (v - 1) % 2) 1

-- the set of v alone, and that of the atoms 1 to n
abbrev pub alone : ℕ → ℕ
alone v = 2 ^ (v - 1)

abbrev pub firsts : ℕ → ℕ
firsts n = 2 ^ n - 1

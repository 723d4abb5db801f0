-- Laws. Entries that are stored one after the other. Assumes nothing.
use Prim.Native.Nat.{ℕ, ◌+◌, ◌<◌}
use mathlib.Core.List.{List}
use mathlib.Core.Path.{◌≡◌, refl, ◌∙◌}
use native.Mathlib.Omega.{arith}
use native.Mathlib.Decide.{ℕ_discrete}
use lib.ListN.{length, get_or, set}
use lib.Seq.{get_or-set_same, get_or-set_other}
use Rattle.text.specs.Text.{next_line, later_line}
use Rattle.text.specs.Laws.{later_more}
use Rattle.molfile.specs.Molfile.{atom_line_place, atom_line_count, bond_line_place}

-- the entries below i are those that P says
abbrev pub Holds : (ℕ → ℕ) → ℕ → List ℕ → Type 0
Holds P i l = (j : ℕ) → j < i → get_or l j 0 ≡ P j

pub holds_none : (P : ℕ → ℕ) (l : List ℕ) → Holds P 0 l
holds_none P l j h = absurd (omega arith)

pub holds_more : (P : ℕ → ℕ) (l : List ℕ) (i v : ℕ) → i < length l → Holds P i l → v ≡ P i → Holds P (i + 1) (set l i v)
holds_more P l i v r h e j k = go (ℕ_discrete j i)
  where
    go : Dec (j ≡ i) → get_or (set l i v) j 0 ≡ P j
    go (yes p) = rw p (get_or-set_same l i v 0 r ∙ e)
    go (no p) = get_or-set_other l i j v 0 p ∙ h j (omega arith)

-- the atom lines one after the other
pub atom_next : (d : List ℕ) (i : ℕ) → atom_line_place d (i + 1) ≡ next_line d (atom_line_place d i)
atom_next d i = let e : 4 + (i + 1) ≡ 4 + i + 1 = omega arith in rw e (later_more d 0 (4 + i))

pub bonds_begin : (d : List ℕ) → bond_line_place d 0 ≡ atom_line_place d (atom_line_count d)
unfolding later_line
bonds_begin d = refl

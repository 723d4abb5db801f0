-- Work. What is seen from the ends of the joins is put for all ends at one atom of one block at once.
use Rattle.std.specs.Prelude.{ℕ, ◌+◌, ◌*◌, ◌/◌, ◌%◌, ◌≤◌, ◌<◌, cond, List, [], ◌≡◌, eqb, get_or}
use Rattle.sighted.specs.Sighted.{steps_in}
use Rattle.summaries.specs.Ready.{end_of, joins_in, count_row, seen_from}

-- the number of the placement that has an end
unfoldable pub home_of : List ℕ → ℕ → ℕ
home_of ls e = cond (eqb (e % 2) 0) (e / 2 + 1) (joins_in ls (e / 2)).parent

-- e is an end of one of the joins
pub record IsEnd (count e : ℕ) : Type 0 where
  pub low : 2 ≤ e
  pub high : e < 2 * count

-- a row with the steps to the atoms of placement number home that others are joined to; the rest is as it was
pub record Stepped (ls : List ℕ) (count : ℕ) (from : List ℕ) (home : ℕ) (old new : List ℕ) : Type 0 where
  pub here : (z : ℕ) → home ≤ z → z < count → (joins_in ls z).parent ≡ home → get_or new z 0 ≡ steps_in from (joins_in ls z).site
  pub kept : (z : ℕ) → ((joins_in ls z).parent ≡ home → ⊥) → get_or new z 0 ≡ get_or old z 0

module _ (b ls : List ℕ) (count : ℕ) where
  -- what stands for an end is what is seen from it
  pub record Right (rs vs : List (List ℕ)) (e : ℕ) : Type 0 where
    pub counts : get_or vs e [] ≡ count_row (seen_from b (end_of ls e)).counts
    pub steps : (z : ℕ) → 1 ≤ z → z < count → (joins_in ls z).parent ≡ home_of ls e → get_or (get_or rs (e / 2) []) z 0 ≡ steps_in (seen_from b (end_of ls e)).row (joins_in ls z).site

  -- so it is for the ends before e, and for those that count an atom: at first none does, and what is seen from an atom counts the atom itself
  pub record Known (rs vs : List (List ℕ)) (e : ℕ) : Type 0 where
    pub before : (g : ℕ) → IsEnd count g → g < e → Right rs vs g
    pub marked : (g : ℕ) → IsEnd count g → (get_or (get_or vs g []) 3 0 ≡ 0 → ⊥) → Right rs vs g

  -- What is seen from x was put for the ends from e to f that are x. What was right stays so, and nothing is put for others.
  pub record Put (x e f : ℕ) (rs vs rt vt : List (List ℕ)) : Type 0 where
    pub keeps : (g : ℕ) → IsEnd count g → Right rs vs g → Right rt vt g
    pub puts : (g : ℕ) → IsEnd count g → e ≤ g → g < f → end_of ls g ≡ x → Right rt vt g
    pub others : (g : ℕ) → (end_of ls g ≡ x → ⊥) → get_or vt g [] ≡ get_or vs g []

-- none of the ends from e to f is x
pub record Nowhere (ls : List ℕ) (x e f : ℕ) : Type 0 where
  pub other : (g : ℕ) → e ≤ g → g < f → end_of ls g ≡ x → ⊥

-- no end counts an atom
pub record Unmarked (vs : List (List ℕ)) : Type 0 where
  pub none : (g : ℕ) → get_or (get_or vs g []) 3 0 ≡ 0

-- Definitions. Sets of the members of a list no two of which are related, and how many there are: the Hosoya and the Merrifield-Simmons index.
use Rattle.std.specs.Prelude.{ℕ, zero, suc, ◌+◌, Bool, true, false, not, ◌&&◌, ◌||◌, cond, List, [], ◌∷◌, ◌++◌, eqb}
use Rattle.graph.specs.Graph.{Graph, Bond, bonded}

-- each set with x in it besides
unfoldable pub with_one : {A : Type 0} → A → List (List A) → List (List A)
with_one x [] = []
with_one x (s ∷ ss) = (x ∷ s) ∷ with_one x ss

-- every set of the members of a list, once each: those without the first, then those with it
unfoldable pub subsets : {A : Type 0} → List A → List (List A)
subsets [] = [] ∷ []
subsets (x ∷ xs) = let r = subsets xs in r ++ with_one x r

-- how many members pass
unfoldable pub passing : {A : Type 0} → (A → Bool) → List A → ℕ
passing p [] = 0
passing p (x ∷ xs) = cond (p x) 1 0 + passing p xs

-- whether some member passes
unfoldable pub some : {A : Type 0} → (A → Bool) → List A → Bool
some p [] = false
some p (x ∷ xs) = p x || some p xs

-- whether no two members are related
unfoldable pub apart : {A : Type 0} → (A → A → Bool) → List A → Bool
apart related [] = true
apart related (x ∷ xs) = not (some (related x) xs) && apart related xs

-- the number of sets of members no two of which are related; the empty set is one
unfoldable pub sets_apart : {A : Type 0} → (A → A → Bool) → List A → ℕ
sets_apart related xs = passing (apart related) (subsets xs)

-- whether v is an end of a bond, and whether two bonds share an atom
unfoldable pub touches : Bond → ℕ → Bool
touches b v = eqb b.one v || eqb b.two v

unfoldable pub share_atom : Bond → Bond → Bool
share_atom b c = touches b c.one || touches b c.two

-- the atoms n to 1
unfoldable pub atoms_down : ℕ → List ℕ
atoms_down zero = []
atoms_down (suc n) = suc n ∷ atoms_down n

-- all sets of bonds that share no atom
unfoldable pub hosoya : Graph → ℕ
hosoya g = sets_apart share_atom g.bonds

-- all sets of atoms no two of which are bonded
unfoldable pub merrifield_simmons : Graph → ℕ
merrifield_simmons g = sets_apart (bonded g) (atoms_down g.atoms)

-- Laws. The bonds placement by placement are those of the molecule written out; numbers put one after the other. Assumes nothing.
use Prim.Native.Nat.{ℕ, zero, suc, ◌+◌, ◌*◌, ◌-◌, ◌≤◌}
use Rattle.std.specs.Prelude.{List, [], ◌∷◌, ◌++◌, ◌≡◌, refl, length, set, drop, get_or}
use Rattle.std.proofs.Common.{append-nil, ◌∙◌, ap₂, add-one, length-drop, drop-cons}
use Rattle.std.proofs.Math.Path.{sym, ap}
use native.Mathlib.Omega.{arith}
use Rattle.std.proofs.lemmas.List.Edits.{sets}
use Rattle.graph.specs.Graph.{Bond, bond, Graph}
use Rattle.graph.specs.Assembly.{Join, shifted, joined, start_at, written}
use Rattle.whole.specs.Whole.{pair_numbers}
use Rattle.block.specs.Block.{bonds_of}
use Rattle.block.specs.Numbered.{bonds_short}
use Rattle.whole.specs.Work.{block_numbers, joining, brought, bonds_before}

-- atoms that are counted from 1 on
pub shifted_none : (bs : List Bond) → shifted 0 bs ≡ bs
unfolding shifted
shifted_none [] = refl
shifted_none (b ∷ bs) =
    let one : 0 + b.one ≡ b.one = omega arith in
    let two : 0 + b.two ≡ b.two = omega arith in
    ap₂ (λ (c : Bond) (l : List Bond). c ∷ l) (ap₂ bond one two) (shifted_none bs)

pub shifted-length : (n : ℕ) (bs : List Bond) → length (shifted n bs) ≡ length bs
unfolding shifted
shifted-length n [] = refl
shifted-length n (b ∷ bs) = ap suc (shifted-length n bs)

pub start_none : (blocks : ℕ → Graph) → start_at blocks 0 ≡ 0
unfolding start_at
start_none blocks = refl

pub start_more : (blocks : ℕ → Graph) (i : ℕ) → start_at blocks (i + 1) ≡ start_at blocks i + (blocks i).atoms
unfolding start_at
start_more blocks i = rw (add-one i)

module _ (blocks : ℕ → Graph) (joins : ℕ → Join) where
  -- as many atoms as stand before the next placement
  pub written-atoms : (k : ℕ) → (written blocks joins k).atoms ≡ start_at blocks (suc k)
  unfolding written joined start_at
  written-atoms zero = omega arith
  written-atoms (suc k) = ap (λ (n : ℕ). n + (blocks (suc k)).atoms) (written-atoms k)

  -- the bonds of the placements before an index are those of their molecule
  pub written-bonds : (k : ℕ) → (written blocks joins k).bonds ≡ bonds_before blocks joins (suc k)
  unfolding written joined bonds_before brought joining start_at
  written-bonds zero = sym (append-nil _ ∙ shifted_none (blocks 0).bonds)
  written-bonds (suc k) = rw (written-atoms k, written-bonds k)

-- how many numbers bonds take
pub pairs_length : (bs : List Bond) → length (pair_numbers bs) ≡ 2 * length bs
unfolding pair_numbers
pairs_length [] = refl
pairs_length (b ∷ bs) = let e = pairs_length bs in omega arith

pub pairs_append : (bs cs : List Bond) → pair_numbers (bs ++ cs) ≡ pair_numbers bs ++ pair_numbers cs
unfolding pair_numbers
pairs_append [] cs = refl
pairs_append (b ∷ bs) cs = ap (λ (l : List ℕ). b.one ∷ b.two ∷ l) (pairs_append bs cs)

-- bonds written as numbers are read back
pub pairs_back : (bs : List Bond) → bonds_of (pair_numbers bs) ≡ bs
unfolding pair_numbers bonds_of
pairs_back [] = refl
pairs_back (b ∷ bs) = ap (λ (l : List Bond). b ∷ l) (pairs_back bs)

-- numbers put behind numbers
pub sets_append : (out : List ℕ) (at : ℕ) (xs ys : List ℕ) → sets (sets out at xs) (at + length xs) ys ≡ sets out at (xs ++ ys)
sets_append out at [] ys = let e : at + 0 ≡ at = omega arith in rw e
sets_append out at (x ∷ xs) ys = let e : at + suc (length xs) ≡ suc at + length xs = omega arith in rw e (sets_append (set out at x) (suc at) xs ys)

-- the next bond of a block, and none where there is no room for one
pub numbers_next : (start : ℕ) (xs : List ℕ) (i : ℕ) → 2 ≤ length xs - i
    → block_numbers start (drop i xs) ≡ (start + get_or xs i 0) ∷ ((start + get_or xs (i + 1) 0) ∷ block_numbers start (drop (i + 2) xs))
unfolding block_numbers pair_numbers shifted bonds_of
numbers_next start xs i h =
    let one : i + 1 ≡ suc i = omega arith in
    let two : i + 2 ≡ suc (suc i) = omega arith in
    rw (drop-cons xs i 0 (omega arith), drop-cons xs (suc i) 0 (omega arith), one, two)

pub numbers_none : (out : List ℕ) (at start : ℕ) (xs : List ℕ) (i : ℕ) → length xs - i ≤ 1 → sets out at (block_numbers start (drop i xs)) ≡ out
unfolding block_numbers pair_numbers shifted
numbers_none out at start xs i h = rw (bonds_short (drop i xs) (omega (arith, length-drop i xs)))

pub numbers_step : (out next : List ℕ) (at start : ℕ) (xs : List ℕ) (i one two : ℕ) → 2 ≤ length xs - i → one ≡ start + get_or xs i 0 → two ≡ start + get_or xs (i + 1) 0
    → next ≡ sets out (at + i) (one ∷ (two ∷ [])) → sets next (at + (i + 2)) (block_numbers start (drop (i + 2) xs)) ≡ sets out (at + i) (block_numbers start (drop i xs))
numbers_step out next at start xs i one two h e f g =
    let j : at + (i + 2) ≡ suc (suc (at + i)) = omega arith in
    rw (g, e, f, j, numbers_next start xs i h)

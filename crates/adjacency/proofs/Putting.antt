-- Laws. The text of a block part by part, and how long it is. Assumes nothing.
use Prim.Native.Nat.{ℕ, zero, suc, ◌+◌, ◌*◌, ◌/◌, ◌%◌, ◌<◌, ◌≤◌}
use Rattle.std.specs.Prelude.{Bool, true, false, cond, List, [], ◌∷◌, ◌++◌, map, ◌≡◌, refl, ltb, length}
use Rattle.std.proofs.Common.{append-nil, append_assoc, sym, ◌∙◌, ap, add-one, ltb-true, ltb-false}
use native.Mathlib.Omega.{arith}
use Rattle.std.proofs.Math.ListN.{length-append}
use Rattle.graph.specs.Graph.{Bond, bond}
use Rattle.text.specs.Text.{ascii, decimal}
use Rattle.text.proofs.Written.{decimal_one, decimal_two}
use Rattle.adjacency.specs.Written.{up_to, is_greater, greater, listed, line, lines, text_by}
use Rattle.adjacency.specs.Canonical.{bonds_up_to}

-- numbers below 100
pub one_digit : (v : ℕ) → v < 10 → decimal v ≡ (48 + v) ∷ []
one_digit v h = let e : v % 10 ≡ v = omega arith in decimal_one v h ∙ rw e

pub two_digits : (v : ℕ) → 10 ≤ v → v < 100 → decimal v ≡ (48 + v / 10) ∷ (48 + v % 10) ∷ []
two_digits v l h = let e : v / 10 % 10 ≡ v / 10 = omega arith in decimal_two v l h ∙ rw e

decimal_short : (v : ℕ) → v < 100 → length (decimal v) ≤ 2
decimal_short v h = go (ltb v 10) refl
  where
    go : (t : Bool) → ltb v 10 ≡ t → length (decimal v) ≤ 2
    go true e = rw (one_digit v (ltb-true v 10 e)) (omega arith)
    go false e = rw (two_digits v (ltb-false v 10 e) h) (omega arith)

-- each number of a list is below 100
unfoldable pub BelowHundred : List ℕ → Type 0
BelowHundred [] = Unit {0}
BelowHundred (x ∷ xs) = (x < 100) × BelowHundred xs

pub below_append : (xs ys : List ℕ) → BelowHundred xs → BelowHundred ys → BelowHundred (xs ++ ys)
unfolding BelowHundred
below_append [] ys p q = q
below_append (x ∷ xs) ys p q = (p.0, below_append xs ys p.1 q)

-- the atoms that pass are at most n, so below 100
up_below : (n m : ℕ) (p : ℕ → Bool) → n ≤ 64 → m ≤ n → BelowHundred (up_to m p)
unfolding up_to BelowHundred
up_below n zero p h l = tt
up_below n (suc m) p h l = below_append (up_to m p) (cond (p (suc m)) (suc m ∷ []) []) (up_below n m p h (omega arith)) (one (p (suc m)))
  where
    one : (t : Bool) → BelowHundred (cond t (suc m ∷ []) [])
    one true = (omega arith, tt)
    one false = tt

pub greater_below : (joined : ℕ → ℕ → Bool) (n : ℕ) → n ≤ 64 → (i : ℕ) → BelowHundred (greater joined n i)
unfolding greater
greater_below joined n h i = up_below n n (is_greater joined i) h (omega arith)

-- neighbours one after the other
pub listed_none : listed [] ≡ []
unfolding listed
listed_none = refl

pub listed_one : (j : ℕ) → listed (j ∷ []) ≡ ascii " " ++ decimal j
unfolding listed
listed_one j = ap (λ (l : List ℕ). 32 ∷ l) (append-nil (decimal j))

listed_append : (xs ys : List ℕ) → listed (xs ++ ys) ≡ listed xs ++ listed ys
unfolding listed
listed_append [] ys = refl
listed_append (x ∷ xs) ys = ap (λ (l : List ℕ). 32 ∷ l) (ap (λ (l : List ℕ). decimal x ++ l) (listed_append xs ys) ∙ sym (append_assoc (decimal x) (listed xs) (listed ys)))

-- one atom more
up_next : (j : ℕ) (p : ℕ → Bool) → up_to (j + 1) p ≡ up_to j p ++ cond (p (j + 1)) ((j + 1) ∷ []) []
unfolding up_to
up_next j p = rw (add-one j)

pub lines_next : (joined : ℕ → ℕ → Bool) (n m : ℕ) → lines joined n (m + 1) ≡ lines joined n m ++ line (m + 1) (greater joined n (m + 1))
unfolding lines
lines_next joined n m = rw (add-one m)

pub up_count : (j : ℕ) (p : ℕ → Bool) → length (up_to (j + 1) p) ≡ length (up_to j p) + cond (p (j + 1)) 1 0
up_count j p = ap length (up_next j p) ∙ length-append (up_to j p) (cond (p (j + 1)) ((j + 1) ∷ []) []) ∙ ap (λ (k : ℕ). length (up_to j p) + k) (one (p (j + 1)))
  where
    one : (t : Bool) → length (cond t ((j + 1) ∷ []) []) ≡ cond t 1 0
    one true = refl
    one false = refl

pub up_short : (n : ℕ) (p : ℕ → Bool) → length (up_to n p) ≤ n
unfolding up_to
up_short zero p = omega arith
up_short (suc n) p = omega (arith, up_short n p, length-append (up_to n p) (cond (p (suc n)) (suc n ∷ []) []), one (p (suc n)))
  where
    one : (t : Bool) → length (cond t (suc n ∷ []) []) ≤ 1
    one true = omega arith
    one false = omega arith

pub listed_next : (j : ℕ) (p : ℕ → Bool) → listed (up_to j p) ++ listed (cond (p (j + 1)) ((j + 1) ∷ []) []) ≡ listed (up_to (j + 1) p)
listed_next j p = sym (ap listed (up_next j p) ∙ listed_append (up_to j p) (cond (p (j + 1)) ((j + 1) ∷ []) []))

-- the line of an atom
pub line_none : (i : ℕ) (js : List ℕ) → length js ≡ 0 → line i js ≡ []
unfolding line
line_none i [] e = refl
line_none i (j ∷ js) e = absurd (omega arith)

pub line_some : (i : ℕ) (js : List ℕ) → (length js ≡ 0 → ⊥) → line i js ≡ decimal i ++ listed js ++ ascii " 0\n"
unfolding line
line_some i [] e = absurd (e refl)
line_some i (j ∷ js) e = refl

-- how long a text is
listed_short : (xs : List ℕ) → BelowHundred xs → length (listed xs) ≤ 3 * length xs
unfolding listed BelowHundred
listed_short [] b = omega arith
listed_short (x ∷ xs) b = omega (arith, listed_short xs b.1, decimal_short x b.0, length-append (decimal x) (listed xs))

line_short : (i : ℕ) (js : List ℕ) → i < 100 → BelowHundred js → length (line i js) ≤ 5 + 3 * length js
unfolding line
line_short i [] h b = omega arith
line_short i (j ∷ js) h b =
    let e : length (decimal i ++ listed (j ∷ js) ++ ascii " 0\n") ≤ 5 + 3 * length (j ∷ js) =
    omega (arith, decimal_short i h, listed_short (j ∷ js) b, length-append (decimal i ++ listed (j ∷ js)) (ascii " 0\n"), length-append (decimal i) (listed (j ∷ js))) in
    e

map-length : (f : ℕ → Bond) (js : List ℕ) → length (map f js) ≡ length js
map-length f [] = refl
map-length f (j ∷ js) = ap suc (map-length f js)

module _ (joined : ℕ → ℕ → Bool) (n : ℕ) (h : n ≤ 64) where
  lines_short : (m : ℕ) → m ≤ n → length (lines joined n m) ≤ 5 * m + 3 * length (bonds_up_to joined n m)
  unfolding lines bonds_up_to
  lines_short zero l = omega arith
  lines_short (suc m) l =
      let js = greater joined n (suc m) in
      omega (
        arith,
        lines_short m (omega arith),
        line_short (suc m) js (omega arith) (greater_below joined n h (suc m)),
        length-append (lines joined n m) (line (suc m) js),
        length-append (bonds_up_to joined n m) (map (bond (suc m)) js),
        map-length (bond (suc m)) js,
      )

  pub text_short : length (text_by joined n) ≤ 5 + 5 * n + 3 * length (bonds_up_to joined n n)
  unfolding text_by
  text_short =
      omega (
        arith,
        lines_short n (omega arith),
        decimal_short n (omega arith),
        length-append (decimal n ++ ascii "\n" ++ lines joined n n) (ascii "0\n"),
        length-append (decimal n ++ ascii "\n") (lines joined n n),
        length-append (decimal n) (ascii "\n"),
      )

-- Laws. A written text is read again. Assumes nothing.
use Prim.Native.Nat.{ℕ, zero, suc, ◌+◌, ◌/◌, ◌%◌, ◌<◌, ◌≤◌}
use Rattle.std.specs.Prelude.{Bool, true, false, ltb, length}
use mathlib.Core.List.{List, [], ◌∷◌, ◌++◌}
use Rattle.std.proofs.Math.Path.{◌≡◌, refl, ap}
use Rattle.std.proofs.Common.{◌∙◌, le-ltb, le-leb, ltb-true, ltb-false}
use native.Mathlib.Omega.{arith}
use Rattle.text.specs.Text.{ascii, decimal}
use Rattle.adjacency.specs.Neighbours.{TextNumber, most_value, numbers, is_good, good_bytes, large_at, fault_at, steps, bonds_in, block_of, neighbours_reply}
use Rattle.adjacency.specs.Written.{greater, listed, line, lines, text_by}
use Rattle.adjacency.specs.Canonical.{bonds_up_to}
use Rattle.adjacency.specs.Work.{any_high}
use Rattle.adjacency.proofs.Putting.{one_digit, two_digits, BelowHundred, below_append, greater_below}
use Rattle.adjacency.proofs.Values.{values_of, values_are, line_values, lines_values, text_says}
use Rattle.adjacency.proofs.Shapes.{shape_fine, bonds_are, none_high}
use Rattle.adjacency.proofs.Blocks.{reply_block}

-- every byte is good
unfoldable Good : List ℕ → Type 0
Good [] = Unit {0}
Good (b ∷ bs) = (is_good b ≡ true) × Good bs

good_append : (v w : List ℕ) → Good v → Good w → Good (v ++ w)
unfolding Good
good_append [] w p q = q
good_append (b ∷ v) w p q = (p.0, good_append v w p.1 q)

all_good : (t : List ℕ) → Good t → good_bytes t ≡ length t
unfolding Good good_bytes
all_good [] g = refl
all_good (b ∷ bs) g = rw g.0 (ap suc (all_good bs g.1))

good_digit : (v : ℕ) → v < 10 → is_good (48 + v) ≡ true
good_digit v h = rw (le-leb 48 (48 + v) (omega arith), le-leb (48 + v) 57 (omega arith))

good_number : (v : ℕ) → v < 100 → Good (decimal v)
unfolding Good
good_number v h = go (ltb v 10) refl
  where
    go : (t : Bool) → ltb v 10 ≡ t → Good (decimal v)
    go true e = let l = ltb-true v 10 e in rw (one_digit v l) (good_digit v l, tt)
    go false e = rw (two_digits v (ltb-false v 10 e) h) (good_digit (v / 10) (omega arith), (good_digit (v % 10) (omega arith), tt))

good_listed : (js : List ℕ) → BelowHundred js → Good (listed js)
unfolding Good BelowHundred listed
good_listed [] b = tt
good_listed (j ∷ js) b = (refl, good_append (decimal j) (listed js) (good_number j b.0) (good_listed js b.1))

good_line : (i : ℕ) (js : List ℕ) → i < 100 → BelowHundred js → Good (line i js)
unfolding Good line
good_line i [] h b = tt
good_line i (j ∷ js) h b = good_append (decimal i ++ listed (j ∷ js)) (ascii " 0\n") (good_append (decimal i) (listed (j ∷ js)) (good_number i h) (good_listed (j ∷ js) b)) (refl, (refl, (refl, tt)))

below_line : (i : ℕ) (js : List ℕ) → i < 100 → BelowHundred js → BelowHundred (line_values i js)
unfolding BelowHundred line_values
below_line i [] h b = tt
below_line i (j ∷ js) h b = (h, (b.0, below_append js (0 ∷ []) b.1 (omega arith, tt)))

small : (last : ℕ) (xs : List TextNumber) → BelowHundred (values_of xs) → large_at last xs ≡ last
unfolding BelowHundred values_of large_at
small last [] b = refl
small last (x ∷ xs) b = let l = b.0 in rw (le-ltb most_value x.value (omega arith)) (small last xs b.1)

module _ (joined : ℕ → ℕ → Bool) (n : ℕ) (h : n ≤ 64) where
  good_lines : (m : ℕ) → m ≤ n → Good (lines joined n m)
  unfolding Good lines
  good_lines zero l = tt
  good_lines (suc m) l = good_append (lines joined n m) (line (suc m) (greater joined n (suc m))) (good_lines m (omega arith)) (good_line (suc m) (greater joined n (suc m)) (omega arith) (greater_below joined n h (suc m)))

  good_text : Good (text_by joined n)
  unfolding Good text_by
  good_text =
      good_append (decimal n ++ ascii "\n" ++ lines joined n n) (ascii "0\n")
      (good_append (decimal n ++ ascii "\n") (lines joined n n) (good_append (decimal n) (ascii "\n") (good_number n (omega arith)) (refl, tt)) (good_lines n (omega arith)))
      (refl, (refl, tt))

  below_lines : (m : ℕ) → m ≤ n → BelowHundred (lines_values joined n m)
  unfolding BelowHundred lines_values
  below_lines zero l = tt
  below_lines (suc m) l = below_append (lines_values joined n m) (line_values (suc m) (greater joined n (suc m))) (below_lines m (omega arith)) (below_line (suc m) (greater joined n (suc m)) (omega arith) (greater_below joined n h (suc m)))

  says : values_of (numbers (text_by joined n)) ≡ n ∷ (lines_values joined n n ++ 0 ∷ [])
  says = values_are (text_by joined n) ∙ text_says joined n h

  below_text : BelowHundred (n ∷ (lines_values joined n n ++ 0 ∷ []))
  unfolding BelowHundred
  below_text = (omega arith, below_append (lines_values joined n n) (0 ∷ []) (below_lines n (omega arith)) (omega arith, tt))

  no_fault : length (text_by joined n) ≤ fault_at (text_by joined n)
  unfolding fault_at
  no_fault =
      let g = all_good (text_by joined n) good_text in
      let s = small (length (text_by joined n)) (numbers (text_by joined n)) (rw says below_text) in
      omega (arith, g, s)

  -- the reply to a written text is the one to its bonds, in the order of the text
  pub record Reread (room : ℕ) : Type 0 where
    pub rest : List TextNumber
    pub reply : neighbours_reply (text_by joined n) room ≡ block_of n (steps rest) room
    pub bonds : bonds_in (steps rest) ≡ bonds_up_to joined n n
    pub low : any_high n (steps rest) ≡ false

  pub reread : (room : ℕ) → Reread room
  unfolding values_of
  reread room = go (numbers (text_by joined n)) refl says
    where
      go : (xs : List TextNumber) → numbers (text_by joined n) ≡ xs → values_of xs ≡ n ∷ (lines_values joined n n ++ 0 ∷ []) → Reread room
      go [] e s = let z : ◌≡◌ {A = ℕ} 0 1 = cc in absurd (omega arith)
      go (x ∷ ys) e s =
          let v : x.value ≡ n = cc in
          let w : values_of ys ≡ lines_values joined n n ++ 0 ∷ [] = cc in
          record {
            rest = ys;
            reply = reply_block (text_by joined n) room no_fault x.value x.place ys e (shape_fine joined n h ys w (length (text_by joined n))) ∙ ap (λ (k : ℕ). block_of k (steps ys) room) v;
            bonds = bonds_are joined n h ys w;
            low = none_high joined n h ys w;
          }

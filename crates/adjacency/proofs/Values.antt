-- Laws. What the numbers of a written text say. Assumes nothing.
use Prim.Native.Nat.{ℕ, zero, suc, ◌+◌, ◌/◌, ◌%◌, ◌<◌, ◌≤◌}
use Rattle.std.specs.Prelude.{Bool, ◌≡◌}
use Rattle.std.proofs.Math.Bool.{true, false}
use mathlib.Core.List.{List, [], ◌∷◌, ◌++◌, append_assoc}
use Rattle.std.proofs.Math.Path.{refl, sym, ap}
use Rattle.std.proofs.Common.{◌∙◌}
use native.Mathlib.Omega.{arith}
use borrow.Author.Tests.{ltb-true, ltb-false, le-leb}
use Rattle.std.proofs.Math.Dec.{ltb}
use Rattle.reply.specs.Read.{if_else}
use Rattle.text.specs.Text.{ascii, decimal, is_digit}
use Rattle.adjacency.specs.Neighbours.{TextNumber, grown, Run, none, run, longer, numbers_from}
use Rattle.adjacency.specs.Written.{greater, listed, line, lines, text_by}
use Rattle.adjacency.proofs.Putting.{one_digit, two_digits, BelowHundred, greater_below}

-- the values alone, whatever the places
unfoldable pub values_of : List TextNumber → List ℕ
values_of [] = []
values_of (x ∷ xs) = x.value ∷ values_of xs

data Held : Type 0 where
  nothing : Held
  held : ℕ → Held

abbrev held_of : Run → Held
held_of none = nothing
held_of (run x) = held x.value

abbrev grows : Held → ℕ → Held
grows nothing b = held (grown 0 b)
grows (held v) b = held (grown v b)

abbrev ends : Held → List ℕ → List ℕ
ends nothing xs = xs
ends (held v) xs = v ∷ xs

unfoldable values_from : Held → List ℕ → List ℕ
values_from h [] = ends h []
values_from h (b ∷ bs) = if_else (is_digit b) (λ _. values_from (grows h b) bs) (λ _. ends h (values_from nothing bs))

pub values : List ℕ → List ℕ
values text = values_from nothing text

place_free : (r : Run) (at : ℕ) (t : List ℕ) → values_of (numbers_from r at t) ≡ values_from (held_of r) t
unfolding numbers_from values_from values_of
place_free none at [] = refl
place_free (run x) at [] = refl
place_free none at (b ∷ bs) = go (is_digit b) (place_free (longer none at b) (at + 1) bs) (place_free none (at + 1) bs)
  where
    go : (t : Bool) → values_of (numbers_from (longer none at b) (at + 1) bs) ≡ values_from (grows nothing b) bs → values_of (numbers_from none (at + 1) bs) ≡ values_from nothing bs
        → values_of (if_else t (λ _. numbers_from (longer none at b) (at + 1) bs) (λ _. numbers_from none (at + 1) bs)) ≡ if_else t (λ _. values_from (grows nothing b) bs) (λ _. values_from nothing bs)
    go true p q = p
    go false p q = q
place_free (run x) at (b ∷ bs) = go (is_digit b) (place_free (longer (run x) at b) (at + 1) bs) (place_free none (at + 1) bs)
  where
    go : (t : Bool) → values_of (numbers_from (longer (run x) at b) (at + 1) bs) ≡ values_from (grows (held x.value) b) bs → values_of (numbers_from none (at + 1) bs) ≡ values_from nothing bs
        → values_of (if_else t (λ _. numbers_from (longer (run x) at b) (at + 1) bs) (λ _. x ∷ numbers_from none (at + 1) bs)) ≡ if_else t (λ _. values_from (grows (held x.value) b) bs) (λ _. x.value ∷ values_from nothing bs)
    go true p q = p
    go false p q = ap (λ (l : List ℕ). x.value ∷ l) q

pub values_are : (t : List ℕ) → values_of (numbers_from none 0 t) ≡ values t
unfolding values
values_are t = place_free none 0 t

-- digits
is_digit_lem : (v : ℕ) → v < 10 → is_digit (48 + v) ≡ true
is_digit_lem v h = rw (le-leb 48 (48 + v) (omega arith), le-leb (48 + v) 57 (omega arith))

one_says : (v : ℕ) → v < 10 → grown 0 (48 + v) ≡ v
one_says v h = omega arith

two_say : (v : ℕ) → v < 100 → grown (v / 10) (48 + v % 10) ≡ v
two_say v h = omega arith

module _ (s : ℕ) (apart : is_digit s ≡ false) (rest : List ℕ) where
  pub passed_over : values (s ∷ rest) ≡ values rest
  unfolding values values_from
  passed_over = rw apart

  pub one_number : (v : ℕ) → v < 100 → values (decimal v ++ s ∷ rest) ≡ v ∷ values rest
  unfolding values values_from
  one_number v h = go (ltb v 10) refl
    where
      go : (t : Bool) → ltb v 10 ≡ t → values_from nothing (decimal v ++ s ∷ rest) ≡ v ∷ values_from nothing rest
      go true e = let l = ltb-true v 10 e in rw (one_digit v l, is_digit_lem v l, apart, one_says v l)
      go false e =
          let l = ltb-false v 10 e in
          let d : v / 10 < 10 = omega arith in
          let m : v % 10 < 10 = omega arith in
          rw (two_digits v l h, is_digit_lem (v / 10) d, is_digit_lem (v % 10) m, apart, one_says (v / 10) d, two_say v h)

-- what a line says
unfoldable pub line_values : ℕ → List ℕ → List ℕ
line_values i [] = []
line_values i (j ∷ js) = i ∷ (j ∷ js) ++ 0 ∷ []

-- a number that another byte than a digit follows
number_then : (v s : ℕ) (rest : List ℕ) → v < 100 → is_digit s ≡ false → values (decimal v ++ s ∷ rest) ≡ v ∷ values (s ∷ rest)
number_then v s rest h a = one_number s a rest v h ∙ ap (λ (l : List ℕ). v ∷ l) (sym (passed_over s a rest))

module _ (s : ℕ) (rest : List ℕ) (a : is_digit s ≡ false) where
  then_list : (v : ℕ) (js : List ℕ) → v < 100 → values (decimal v ++ (listed js ++ s ∷ rest)) ≡ v ∷ values (listed js ++ s ∷ rest)
  unfolding listed
  then_list v [] h = number_then v s rest h a
  then_list v (j ∷ js) h = number_then v 32 _ h refl

  list_says : (js : List ℕ) → BelowHundred js → values (listed js ++ s ∷ rest) ≡ js ++ values rest
  unfolding BelowHundred listed
  list_says [] b = passed_over s a rest
  list_says (j ∷ js) b =
      passed_over 32 refl (decimal j ++ listed js ++ s ∷ rest)
      ∙ ap values (append_assoc (decimal j) (listed js) (s ∷ rest))
      ∙ then_list j js b.0
      ∙ ap (λ (l : List ℕ). j ∷ l) (list_says js b.1)

nothing_said : values [] ≡ []
unfolding values values_from
nothing_said = refl

last_zero : (rest : List ℕ) → values (48 ∷ 10 ∷ rest) ≡ 0 ∷ values rest
last_zero rest = ap (λ (l : List ℕ). values (l ++ 10 ∷ rest)) (sym (one_digit 0 (omega arith))) ∙ one_number 10 refl rest 0 (omega arith)

pub line_says : (i : ℕ) (js rest : List ℕ) → i < 100 → BelowHundred js → values (line i js ++ rest) ≡ line_values i js ++ values rest
unfolding line line_values
line_says i [] rest h b = refl
line_says i (j ∷ js) rest h b =
    ap values (append_assoc (decimal i ++ listed (j ∷ js)) (ascii " 0\n") rest ∙ append_assoc (decimal i) (listed (j ∷ js)) (32 ∷ 48 ∷ 10 ∷ rest))
    ∙ then_list 32 (48 ∷ 10 ∷ rest) refl i (j ∷ js) h
    ∙ ap (λ (l : List ℕ). i ∷ l) (list_says 32 (48 ∷ 10 ∷ rest) refl (j ∷ js) b)
    ∙ ap (λ (l : List ℕ). i ∷ j ∷ (js ++ l)) (last_zero rest)
    ∙ ap (λ (l : List ℕ). i ∷ j ∷ l) (sym (append_assoc js (0 ∷ []) (values rest)))

unfoldable pub lines_values : (ℕ → ℕ → Bool) → ℕ → ℕ → List ℕ
lines_values joined n zero = []
lines_values joined n (suc m) = lines_values joined n m ++ line_values (suc m) (greater joined n (suc m))

module _ (joined : ℕ → ℕ → Bool) (n : ℕ) (h : n ≤ 64) where
  lines_say : (m : ℕ) (rest : List ℕ) → m ≤ n → values (lines joined n m ++ rest) ≡ lines_values joined n m ++ values rest
  unfolding lines lines_values
  lines_say zero rest l = refl
  lines_say (suc m) rest l =
      let w = line (suc m) (greater joined n (suc m)) in
      ap values (append_assoc (lines joined n m) w rest)
      ∙ lines_say m (w ++ rest) (omega arith)
      ∙ ap (λ (x : List ℕ). lines_values joined n m ++ x) (line_says (suc m) (greater joined n (suc m)) rest (omega arith) (greater_below joined n h (suc m)))
      ∙ sym (append_assoc (lines_values joined n m) (line_values (suc m) (greater joined n (suc m))) (values rest))

  pub text_says : values (text_by joined n) ≡ n ∷ (lines_values joined n n ++ 0 ∷ [])
  unfolding text_by
  text_says =
      ap values (append_assoc (decimal n ++ ascii "\n") (lines joined n n) (ascii "0\n") ∙ append_assoc (decimal n) (ascii "\n") (lines joined n n ++ ascii "0\n"))
      ∙ one_number 10 refl (lines joined n n ++ ascii "0\n") n (omega arith)
      ∙ ap (λ (l : List ℕ). n ∷ l) (lines_say n (ascii "0\n") (omega arith) ∙ ap (λ (x : List ℕ). lines_values joined n n ++ x) (last_zero [] ∙ ap (λ (l : List ℕ). 0 ∷ l) nothing_said))

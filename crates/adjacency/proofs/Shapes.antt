-- Laws. The shape and the steps of a written text. Assumes nothing.
use Prim.Native.Nat.{ℕ, zero, suc, ◌<◌, ◌≤◌, min}
use Rattle.std.specs.Prelude.{Bool, true, false, ◌&&◌, cond, ◌≡◌, ltb}
use Rattle.std.proofs.Common.{true≢false, ◌∙◌}
use mathlib.Core.List.{List, [], ◌∷◌, ◌++◌, map, append_assoc, append-nil}
use Rattle.std.proofs.Math.Path.{refl, sym, ap}
use native.Mathlib.Omega.{arith}
use borrow.Author.Tests.{ltb-true, le-ltb, le-leb, lt-leb, ne_eqb}
use Rattle.graph.specs.Graph.{Bond, bond}
use Rattle.reply.specs.Read.{read, if_else}
use Rattle.adjacency.specs.Neighbours.{TextNumber, label_after, is_last, last_reply, shape_from, Step, bonded, asked, asked_from, bonds_in}
use Rattle.adjacency.specs.Written.{up_to, is_greater, greater}
use Rattle.adjacency.specs.Canonical.{bonds_up_to}
use Rattle.adjacency.specs.Work.{any_high}
use Rattle.adjacency.proofs.Values.{values_of, line_values, lines_values}

-- shape, steps and too large numbers by the values alone
unfoldable steps_by : ℕ → List ℕ → List Step
steps_by label [] = []
steps_by label (v ∷ vs) = asked label v ++ steps_by (label_after label v) vs

steps_by_lem : (label : ℕ) (xs : List TextNumber) → asked_from label xs ≡ steps_by label (values_of xs)
unfolding asked_from steps_by values_of
steps_by_lem label [] = refl
steps_by_lem label (x ∷ xs) = ap (λ (l : List Step). asked label x.value ++ l) (steps_by_lem (label_after label x.value) xs)

abbrev is_none : List ℕ → Bool
is_none [] = true
is_none (v ∷ vs) = false

unfoldable shape_by : ℕ → List ℕ → Bool
shape_by label [] = false
shape_by label (v ∷ vs) = if_else (is_last label v) (λ _. is_none vs) (λ _. shape_by (label_after label v) vs)

shape_by_lem : (last label : ℕ) (xs : List TextNumber) → shape_by label (values_of xs) ≡ true → shape_from last label xs ≡ read tt
unfolding shape_from shape_by values_of
shape_by_lem last label [] e = absurd (true≢false (sym e))
shape_by_lem last label (x ∷ xs) e = go (is_last label x.value) e (shape_by_lem last (label_after label x.value) xs)
  where
    ended : (ys : List TextNumber) → is_none (values_of ys) ≡ true → last_reply ys ≡ read tt
    ended [] q = refl
    ended (y ∷ ys) q = absurd (true≢false (sym q))

    go : (t : Bool) → if_else t (λ _. is_none (values_of xs)) (λ _. shape_by (label_after label x.value) (values_of xs)) ≡ true
        → (shape_by (label_after label x.value) (values_of xs) ≡ true → shape_from last (label_after label x.value) xs ≡ read tt)
        → if_else t (λ _. last_reply xs) (λ _. shape_from last (label_after label x.value) xs) ≡ read tt
    go true q more = ended xs q
    go false q more = more q

-- each of some neighbours is greater than the label, and an atom
unfoldable pub Above : ℕ → List ℕ → Type 0
Above i [] = Unit {0}
Above i (j ∷ js) = (i < j) × (j ≤ 64) × Above i js

module _ (i : ℕ) (low : 0 < i) (high : i ≤ 64) where
  -- what a label's neighbours ask for, up to its 0
  within_line : (js vs : List ℕ) → Above i js → steps_by i (js ++ 0 ∷ vs) ≡ map (λ j. bonded (bond i j)) js ++ steps_by 0 vs
  unfolding Above steps_by asked
  within_line [] vs a = rw (ne_eqb i 0 (omega arith), lt-leb i 0 low)
  within_line (j ∷ js) vs a =
      let l = a.0 in
      let m = a.1 in
      let e : min i 255 ≡ i = omega arith in
      let f : min j 255 ≡ j = omega arith in
      rw (ne_eqb i 0 (omega arith), le-leb i j (omega arith), ne_eqb j 0 (omega arith), e, f) (ap (λ (x : List Step). bonded (bond i j) ∷ x) (within_line js vs a.2))

  shape_within : (js vs : List ℕ) → Above i js → shape_by i (js ++ 0 ∷ vs) ≡ shape_by 0 vs
  unfolding Above shape_by
  shape_within [] vs a = rw (ne_eqb i 0 (omega arith))
  shape_within (j ∷ js) vs a =
      let l = a.0 in
      rw (ne_eqb i 0 (omega arith), ne_eqb j 0 (omega arith)) (shape_within js vs a.2)

  bonds_mapped : (js : List ℕ) (ss : List Step) → bonds_in (map (λ j. bonded (bond i j)) js ++ ss) ≡ map (bond i) js ++ bonds_in ss
  unfolding bonds_in
  bonds_mapped [] ss = refl
  bonds_mapped (j ∷ js) ss = ap (λ (x : List Bond). bond i j ∷ x) (bonds_mapped js ss)

  high_mapped : (n : ℕ) (js : List ℕ) (ss : List Step) → any_high n (map (λ j. bonded (bond i j)) js ++ ss) ≡ any_high n ss
  unfolding any_high
  high_mapped n [] ss = refl
  high_mapped n (j ∷ js) ss = high_mapped n js ss

  module _ (vs : List ℕ) where
    line_shape : (js : List ℕ) → Above i js → shape_by 0 (line_values i js ++ vs) ≡ shape_by 0 vs
    unfolding line_values shape_by
    line_shape [] a = refl
    line_shape (j ∷ js) a = rw (ne_eqb i 0 (omega arith), append_assoc js (0 ∷ []) vs) (shape_within (j ∷ js) vs a)

    line_bonds : (js : List ℕ) → Above i js → bonds_in (steps_by 0 (line_values i js ++ vs)) ≡ map (bond i) js ++ bonds_in (steps_by 0 vs)
    unfolding line_values steps_by asked bonds_in
    line_bonds [] a = refl
    line_bonds (j ∷ js) a =
        rw (ne_eqb i 0 (omega arith), append_assoc js (0 ∷ []) vs)
        (ap bonds_in (within_line (j ∷ js) vs a) ∙ bonds_mapped (j ∷ js) (steps_by 0 vs))

    line_high : (n : ℕ) (js : List ℕ) → i ≤ n → Above i js → any_high n (steps_by 0 (line_values i js ++ vs)) ≡ any_high n (steps_by 0 vs)
    unfolding line_values steps_by asked any_high
    line_high n [] l a = refl
    line_high n (j ∷ js) l a =
        rw (ne_eqb i 0 (omega arith), append_assoc js (0 ∷ []) vs, le-ltb n i l)
        (ap (any_high n) (within_line (j ∷ js) vs a) ∙ high_mapped n (j ∷ js) (steps_by 0 vs))

-- an atom's greater neighbours are greater
above_append : (i : ℕ) (xs ys : List ℕ) → Above i xs → Above i ys → Above i (xs ++ ys)
unfolding Above
above_append i [] ys p q = q
above_append i (x ∷ xs) ys p q = (p.0, p.1, above_append i xs ys p.2 q)

up_above : (joined : ℕ → ℕ → Bool) (i m : ℕ) → m ≤ 64 → Above i (up_to m (is_greater joined i))
unfolding up_to Above
up_above joined i zero h = tt
up_above joined i (suc m) h = above_append i (up_to m (is_greater joined i)) _ (up_above joined i m (omega arith)) (one (ltb i (suc m)) refl (joined i (suc m)))
  where
    one : (t : Bool) → ltb i (suc m) ≡ t → (u : Bool) → Above i (cond (t && u) (suc m ∷ []) [])
    one true e true = (ltb-true i (suc m) e, h, tt)
    one true e false = tt
    one false e u = tt

module _ (joined : ℕ → ℕ → Bool) (n : ℕ) (h : n ≤ 64) where
  greater_above : (i : ℕ) → Above i (greater joined n i)
  unfolding greater
  greater_above i = up_above joined i n h

  module _ (vs : List ℕ) where
    regroup : (m : ℕ) → lines_values joined n (suc m) ++ vs ≡ lines_values joined n m ++ (line_values (suc m) (greater joined n (suc m)) ++ vs)
    unfolding lines_values
    regroup m = append_assoc (lines_values joined n m) (line_values (suc m) (greater joined n (suc m))) vs

  lines_shape : (m : ℕ) (vs : List ℕ) → m ≤ n → shape_by 0 (lines_values joined n m ++ vs) ≡ shape_by 0 vs
  unfolding lines_values
  lines_shape zero vs l = refl
  lines_shape (suc m) vs l =
      ap (shape_by 0) (regroup vs m)
      ∙ lines_shape m (line_values (suc m) (greater joined n (suc m)) ++ vs) (omega arith)
      ∙ line_shape (suc m) (omega arith) (omega arith) vs (greater joined n (suc m)) (greater_above (suc m))

  lines_bonds : (m : ℕ) (vs : List ℕ) → m ≤ n → bonds_in (steps_by 0 (lines_values joined n m ++ vs)) ≡ bonds_up_to joined n m ++ bonds_in (steps_by 0 vs)
  unfolding lines_values bonds_up_to
  lines_bonds zero vs l = refl
  lines_bonds (suc m) vs l =
      ap (λ (x : List ℕ). bonds_in (steps_by 0 x)) (regroup vs m)
      ∙ lines_bonds m (line_values (suc m) (greater joined n (suc m)) ++ vs) (omega arith)
      ∙ ap (λ (x : List Bond). bonds_up_to joined n m ++ x) (line_bonds (suc m) (omega arith) (omega arith) vs (greater joined n (suc m)) (greater_above (suc m)))
      ∙ sym (append_assoc (bonds_up_to joined n m) (map (bond (suc m)) (greater joined n (suc m))) (bonds_in (steps_by 0 vs)))

  lines_high : (m : ℕ) (vs : List ℕ) → m ≤ n → any_high n (steps_by 0 (lines_values joined n m ++ vs)) ≡ any_high n (steps_by 0 vs)
  unfolding lines_values
  lines_high zero vs l = refl
  lines_high (suc m) vs l =
      ap (λ (x : List ℕ). any_high n (steps_by 0 x)) (regroup vs m)
      ∙ lines_high m (line_values (suc m) (greater joined n (suc m)) ++ vs) (omega arith)
      ∙ line_high (suc m) (omega arith) (omega arith) vs n (greater joined n (suc m)) l (greater_above (suc m))

  -- numbers that say what the lines and the last 0 say
  module _ (xs : List TextNumber) (e : values_of xs ≡ lines_values joined n n ++ 0 ∷ []) where
    pub shape_fine : (last : ℕ) → shape_from last 0 xs ≡ read tt
    unfolding shape_by
    shape_fine last = shape_by_lem last 0 xs (ap (shape_by 0) e ∙ lines_shape n (0 ∷ []) (omega arith))

    pub bonds_are : bonds_in (asked_from 0 xs) ≡ bonds_up_to joined n n
    unfolding steps_by asked bonds_in
    bonds_are = ap bonds_in (steps_by_lem 0 xs) ∙ ap (λ (x : List ℕ). bonds_in (steps_by 0 x)) e ∙ lines_bonds n (0 ∷ []) (omega arith) ∙ append-nil (bonds_up_to joined n n)

    pub none_high : any_high n (asked_from 0 xs) ≡ false
    unfolding steps_by asked any_high
    none_high = ap (any_high n) (steps_by_lem 0 xs) ∙ ap (λ (x : List ℕ). any_high n (steps_by 0 x)) e ∙ lines_high n (0 ∷ []) (omega arith) ∙ rw (le-ltb n 0 (omega arith))

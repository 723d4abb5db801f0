-- Laws. The weights of the atoms, bond by bond. Assumes nothing.
use Prim.Native.Nat.{ℕ, zero, suc, ◌+◌, ◌*◌, ◌<◌, ◌≤◌}
use mathlib.Core.Bool.{Bool, true, false, cond}
use mathlib.Core.List.{List}
use mathlib.Core.Path.{◌≡◌, refl, sym, ◌∙◌, ap}
use native.Mathlib.Omega.{arith}
use native.Mathlib.Decide.{ℕ_discrete}
use native.Mathlib.Numerals.{add-one}
use borrow.Author.Tests.{eq-eqb, ne_eqb}
use lib.Dec.{eqb, eqb-suc-suc}
use lib.ListN.{length, get_or, set, replicate, length-set, length-replicate, get_or-replicate}
use lib.Seq.{get_or-set_same, get_or-set_other}
use Rattle.graph.specs.Graph.{Bond}
use Rattle.molfile.specs.Work.{most, heft, entry_of, share, sum, weight, bond_by, Weighed}

pub heft_small : (m : ℕ) → heft m ≤ 2
heft_small m = go (eqb m 0)
  where
    go : (t : Bool) → cond t 1 2 ≤ 2
    go true = omega arith
    go false = omega arith

pub back_small : (a b m : ℕ) → cond (eqb a b) 0 (heft m) ≤ 2
back_small a b m = go (eqb a b)
  where
    go : (t : Bool) → cond t 0 (heft m) ≤ 2
    go true = omega arith
    go false = heft_small m

-- a weight is at most two for each bond
module _ (marks : List ℕ) (f : ℕ → Bond) (i : ℕ) where
  share_small : (k : ℕ) → share marks f i k ≤ 2
  share_small k = go (eqb (f k).one i) (eqb (f k).two i)
    where
      go : (s t : Bool) → cond s (heft (entry_of marks (f k).two)) (cond t (heft (entry_of marks (f k).one)) 0) ≤ 2
      go true t = heft_small (entry_of marks (f k).two)
      go false true = heft_small (entry_of marks (f k).one)
      go false false = omega arith

  pub weight_small : (k : ℕ) → weight marks f k i ≤ 2 * k
  unfolding sum
  weight_small zero = omega arith
  weight_small (suc k) = omega (arith, weight_small k, share_small k)

-- what two stores leave at each place
module _ (w : List ℕ) (a b p q x y : ℕ) (la : a < length w) (lb : b < length w) (ex : x ≡ get_or w a 0 + p) (ey : y ≡ get_or (set w a x) b 0 + cond (eqb a b) 0 q) where
  stored : (i : ℕ) → get_or (set (set w a x) b y) i 0 ≡ get_or w i 0 + cond (eqb a i) p (cond (eqb b i) q 0)
  stored i = go (ℕ_discrete i b) (ℕ_discrete i a)
    where
      go : Dec (i ≡ b) → Dec (i ≡ a) → get_or (set (set w a x) b y) i 0 ≡ get_or w i 0 + cond (eqb a i) p (cond (eqb b i) q 0)
      go (yes r) (yes s) =
          let e = eq-eqb a b (sym s ∙ r) in
          let f : get_or (set w a x) b 0 ≡ x = rw (← sym s ∙ r) (get_or-set_same w a x 0 la) in
          let l : b < length (set w a x) = omega (arith, length-set w a x) in
          rw (r, get_or-set_same (set w a x) b y 0 l, e) (omega (arith, rw e at ey, ap (λ n. get_or w n 0) (sym s ∙ r)))
      go (yes r) (no s) =
          let ne : (a ≡ b → ⊥) = λ z. s (r ∙ sym z) in
          let f = get_or-set_other w a b x 0 (λ z. ne (sym z)) in
          let l : b < length (set w a x) = omega (arith, length-set w a x) in
          rw (r, get_or-set_same (set w a x) b y 0 l, ne_eqb a b ne, eq-eqb b b refl) (omega (arith, rw (ne_eqb a b ne) at ey))
      go (no r) (yes s) =
          rw (get_or-set_other (set w a x) b i y 0 r, s, get_or-set_same w a x 0 la, eq-eqb a a refl) ex
      go (no r) (no s) =
          rw (get_or-set_other (set w a x) b i y 0 r, get_or-set_other w a i x 0 s, ne_eqb a i (λ z. s (sym z)), ne_eqb b i (λ z. r (sym z))) (omega arith)

share_is : (marks : List ℕ) (f : ℕ → Bond) (k a b i : ℕ) → (f k).one ≡ suc a → (f k).two ≡ suc b
    → share marks f (suc i) k ≡ cond (eqb a i) (heft (get_or marks b 0)) (cond (eqb b i) (heft (get_or marks a 0)) 0)
share_is marks f k a b i e g = rw (e, g, eqb-suc-suc a i, eqb-suc-suc b i)

module _ (marks ones twos : List ℕ) where
  pub weighed_none : Weighed marks ones twos 0 (replicate most 0)
  unfolding sum
  weighed_none = record { size = length-replicate {A = ℕ} most 0; at = λ i h. get_or-replicate {A = ℕ} most i 0 0 h }

  pub weighed_more : (w : List ℕ) (k a b x y : ℕ) → a < most → b < most → get_or ones k 0 ≡ suc a → get_or twos k 0 ≡ suc b
      → x ≡ get_or w a 0 + heft (get_or marks b 0) → y ≡ get_or (set w a x) b 0 + cond (eqb a b) 0 (heft (get_or marks a 0))
      → Weighed marks ones twos k w → Weighed marks ones twos (k + 1) (set (set w a x) b y)
  unfolding sum
  weighed_more w k a b x y la lb ea eb ex ey h = record {
    size = length-set (set w a x) b y ∙ length-set w a x ∙ h.size;
    at = λ i l. rw (add-one k)
        (stored w a b (heft (get_or marks b 0)) (heft (get_or marks a 0)) x y (omega (arith, h.size)) (omega (arith, h.size)) ex ey i
        ∙ ap (λ n. n + cond (eqb a i) (heft (get_or marks b 0)) (cond (eqb b i) (heft (get_or marks a 0)) 0)) (h.at i l)
        ∙ ap (λ n. weight marks (bond_by ones twos) k (suc i) + n) (sym (share_is marks (bond_by ones twos) k a b i ea eb)));
  }

pub set_below : (w : List ℕ) (a b x most' : ℕ) → a < length w → x ≤ most' → get_or w b 0 ≤ most' → get_or (set w a x) b 0 ≤ most'
set_below w a b x most' la h g = go (ℕ_discrete b a)
  where
    go : Dec (b ≡ a) → get_or (set w a x) b 0 ≤ most'
    go (yes p) = rw (p, get_or-set_same w a x 0 la) h
    go (no p) = rw (get_or-set_other w a b x 0 p) g

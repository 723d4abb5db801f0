-- Laws. The branches of a tree, merged one by one: in whichever order, and as the recursion of [Ilić, Ilić] has them. Assumes nothing.
use Prim.Native.Nat.{ℕ, zero, suc, ◌+◌, ◌-◌, ◌*◌, ◌/◌, ◌≤◌}
use mathlib.Core.Bool.{Bool, true, false}
use mathlib.Core.List.{List, [], ◌∷◌, ◌++◌, map}
use mathlib.Core.Path.{◌≡◌, refl, sym, ap, ap₂, ◌∙◌}
use native.Mathlib.Nat.{mul-div_cancel_left, mul-le-mul}
use native.Mathlib.Omega.{arith}
use Rattle.graph.specs.Graph.{Bond}
use Rattle.sets.specs.Merging.{weight, taken}
use Rattle.sets.specs.Recursion.{Branch, children, product_of, sum_of, at_atom, branch}
use Rattle.sets.specs.declared.Weight.{Weight}

module _ (κ : Bool) where
  -- an atom of weight p with all these merged into it
  unfoldable pub gathered : Weight → List Weight → Weight
  gathered p [] = p
  gathered p (q ∷ qs) = taken κ (gathered p qs) q

  -- v with all that hangs on it merged into it
  unfoldable pub under : ℕ → List Bond → (ℕ → Weight) → ℕ → ℕ → Weight
  under zero bs w from v = w v
  under (suc k) bs w from v = gathered (w v) (map (under k bs w v) (children bs from v))

-- the order makes no difference
taken_swap : (κ : Bool) (p q r : Weight) → taken κ (taken κ p q) r ≡ taken κ (taken κ p r) q
taken_swap true p q r = ap₂ weight (omega arith) (omega arith)
taken_swap false p q r = ap₂ weight (omega arith) (omega arith)

module _ (κ : Bool) where
  early : (p q : Weight) (qs : List Weight) → gathered κ (taken κ p q) qs ≡ taken κ (gathered κ p qs) q
  unfolding gathered
  early p q [] = refl
  early p q (r ∷ qs) = ap (λ (z : Weight). taken κ z r) (early p q qs) ∙ taken_swap κ (gathered κ p qs) q r

  gathered_append : (p : Weight) (qs rs : List Weight) → gathered κ p (qs ++ rs) ≡ gathered κ (gathered κ p rs) qs
  unfolding gathered
  gathered_append p [] rs = refl
  gathered_append p (q ∷ qs) rs = ap (λ (z : Weight). taken κ z q) (gathered_append p qs rs)

  pub gathered_middle : (p q : Weight) (qs rs : List Weight) → gathered κ p (qs ++ (q ∷ rs)) ≡ gathered κ (taken κ p q) (qs ++ rs)
  unfolding gathered
  gathered_middle p q qs rs =
      gathered_append p qs (q ∷ rs) ∙ ap (λ (z : Weight). gathered κ z qs) (sym (early p q rs)) ∙ sym (gathered_append (taken κ p q) qs rs)

-- THE RECURSION: what it keeps of an atom are the weights that merging gives.
abbrev pub kept : Bool → Branch → Weight
kept true d = weight d.h d.hw
kept false d = weight d.iw (d.i - d.iw)

pub record Fair (d : Branch) : Type 0 where
  pub some : 1 ≤ d.h
  pub within : d.iw ≤ d.i

module _ (g : ℕ → Branch) (fair : (c : ℕ) → Fair (g c)) where
  abbrev h : List ℕ → ℕ
  h cs = product_of (λ u. u.h) (map g cs)

  -- the products of all but one
  unfoldable others : List ℕ → ℕ
  others [] = 0
  others (c ∷ cs) = (g c).hw * h cs + (g c).h * others cs

  h_some : (cs : List ℕ) → 1 ≤ h cs
  unfolding product_of
  h_some [] = omega arith
  h_some (c ∷ cs) = let m : 1 * 1 ≤ (g c).h * h cs = mul-le-mul (fair c).some (h_some cs) in omega arith

  divided : (k : ℕ) (cs : List ℕ) → sum_of (λ u. ((k * h cs) / u.h) * u.hw) (map g cs) ≡ k * others cs
  unfolding sum_of product_of others
  divided k [] = omega arith
  divided k (c ∷ cs) =
      let a = (g c).h in
      let e : (k * (a * h cs)) / a ≡ k * h cs = ap (λ (m : ℕ). m / a) (left k a (h cs)) ∙ mul-div_cancel_left (k * h cs) {n = a} (fair c).some in
      let f : sum_of (λ u. ((k * (a * h cs)) / u.h) * u.hw) (map g cs) ≡ k * a * others cs =
      ap (λ (m : ℕ). sum_of (λ u. (m / u.h) * u.hw) (map g cs)) (right k a (h cs)) ∙ divided (k * a) cs in
      ap₂ ◌+◌ (ap (λ (m : ℕ). m * (g c).hw) e) f ∙ spread k (h cs) (g c).hw a (others cs)
    where
      left : (k a p : ℕ) → k * (a * p) ≡ a * (k * p)
      left k a p = omega arith

      right : (k a p : ℕ) → k * (a * p) ≡ k * a * p
      right k a p = omega arith

      spread : (k p y a o : ℕ) → k * p * y + k * a * o ≡ k * (y * p + a * o)
      spread k p y a o = omega arith

  -- algorithm 1
  of_bonds : (cs : List ℕ) → gathered true (weight 1 1) (map (λ c. kept true (g c)) cs) ≡ weight (h cs + others cs) (h cs)
  unfolding gathered product_of others
  of_bonds [] = refl
  of_bonds (c ∷ cs) =
      ap (λ (z : Weight). taken true z (kept true (g c))) (of_bonds cs)
      ∙ ap₂ weight (first (h cs) (others cs) (g c).h (g c).hw) (omega arith)
    where
      first : (p o a y : ℕ) → (p + o) * a + p * y ≡ a * p + (y * p + a * o)
      first p o a y = omega arith

  -- algorithm 2
  of_atoms : (cs : List ℕ) → gathered false (weight 1 1) (map (λ c. kept false (g c)) cs) ≡ weight (product_of (λ u. u.i) (map g cs)) (product_of (λ u. u.iw) (map g cs))
  unfolding gathered product_of
  of_atoms [] = refl
  of_atoms (c ∷ cs) =
      ap (λ (z : Weight). taken false z (kept false (g c))) (of_atoms cs)
      ∙ ap₂ weight (whole (product_of (λ u. u.i) (map g cs)) (g c).iw (g c).i (fair c).within) (omega arith)
    where
      whole : (p w i : ℕ) → w ≤ i → p * w + p * (i - w) ≡ i * p
      whole p w i l = let e : w + (i - w) ≡ i = omega arith in sums p w (i - w) ∙ ap (λ (z : ℕ). z * p) e
        where
          sums : (p w d : ℕ) → p * w + p * d ≡ (w + d) * p
          sums p w d = omega arith

  pub at_fair : (cs : List ℕ) → Fair (at_atom (map g cs))
  unfolding at_atom
  at_fair cs = record { some = omega (arith, h_some cs); within = omega arith }

  pub at_kept : (κ : Bool) (cs : List ℕ) → gathered κ (weight 1 1) (map (λ c. kept κ (g c)) cs) ≡ kept κ (at_atom (map g cs))
  unfolding at_atom
  at_kept true cs = of_bonds cs ∙ ap (λ (z : ℕ). weight z (h cs)) (summed cs)
    where
      summed : (cs : List ℕ) → h cs + others cs ≡ h cs + sum_of (λ u. (h cs / u.h) * u.hw) (map g cs)
      summed cs =
          let e : 1 * h cs ≡ h cs = omega arith in
          omega (arith, divided 1 cs, ap (λ (m : ℕ). sum_of (λ u. (m / u.h) * u.hw) (map g cs)) e)
  at_kept false cs = of_atoms cs ∙ ap (weight (product_of (λ u. u.i) (map g cs))) (omega arith)

leaf_fair : Fair (at_atom [])
unfolding at_atom product_of sum_of
leaf_fair = record { some = omega arith; within = omega arith }

leaf_kept : (κ : Bool) → weight 1 1 ≡ kept κ (at_atom [])
unfolding at_atom product_of sum_of
leaf_kept true = refl
leaf_kept false = refl

map_same : {A : Type 0} (cs : List ℕ) {f g : ℕ → A} → ((c : ℕ) → f c ≡ g c) → map f cs ≡ map g cs
map_same [] e = refl
map_same (c ∷ cs) e = ap₂ ◌∷◌ (e c) (map_same cs e)

module _ (bs : List Bond) where
  pub branch_fair : (k from v : ℕ) → Fair (branch k bs from v)
  unfolding branch
  branch_fair zero from v = leaf_fair
  branch_fair (suc k) from v = at_fair (branch k bs v) (branch_fair k v) (children bs from v)

  pub branch_kept : (κ : Bool) (k from v : ℕ) → under κ k bs (λ u. weight 1 1) from v ≡ kept κ (branch k bs from v)
  unfolding branch under
  branch_kept κ zero from v = leaf_kept κ
  branch_kept κ (suc k) from v =
      ap (gathered κ (weight 1 1)) (map_same (children bs from v) (branch_kept κ k v)) ∙ at_kept (branch k bs v) (branch_fair k v) κ (children bs from v)

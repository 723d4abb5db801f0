-- Laws. Looking for a number among the places of a book. Assumes nothing.
use Rattle.std.specs.Prelude.{ℕ, zero, suc, ◌+◌, ◌*◌, ◌≤◌, Bool, true, false, List, ◌≡◌, refl, eqb}
use Rattle.std.proofs.Common.{arith, eq-eqb, ne_eqb, eqb-true}
use Rattle.std.proofs.lemmas.Bool.{eqb-false}
use Rattle.records.specs.Bytes.{le16}
use Rattle.summary.specs.Layout.{summary_bytes}
use Rattle.shelf.specs.Shelf.{places_in, place_from, place_of}

module _ (b : List ℕ) (x i left : ℕ) where
  pub place_here : le16 b (summary_bytes * i) ≡ x → place_from b x i (suc left) ≡ i
  unfolding place_from
  place_here e = rw (eq-eqb (le16 b (summary_bytes * i)) x e, place_from)

  pub place_next : (le16 b (summary_bytes * i) ≡ x → ⊥) → place_from b x i (suc left) ≡ place_from b x (suc i) left
  unfolding place_from
  place_next e = rw (ne_eqb (le16 b (summary_bytes * i)) x e, place_from)

pub place_none : (b : List ℕ) (x i : ℕ) → place_from b x i 0 ≡ i
unfolding place_from
place_none b x i = refl

pub place_zero : (b : List ℕ) (x : ℕ) → x ≡ 0 → place_of b x ≡ places_in b
unfolding place_of
place_zero b x e = rw (eq-eqb x 0 e)

pub place_some : (b : List ℕ) (x : ℕ) → (x ≡ 0 → ⊥) → place_of b x ≡ place_from b x 0 (places_in b)
unfolding place_of
place_some b x e = rw (ne_eqb x 0 e)

place_most : (b : List ℕ) (x i left : ℕ) → place_from b x i left ≤ i + left
place_most b x i zero = omega (arith, place_none b x i)
place_most b x i (suc left) = go (eqb (le16 b (summary_bytes * i)) x) refl (place_most b x (suc i) left)
  where
    go : (t : Bool) → eqb (le16 b (summary_bytes * i)) x ≡ t → place_from b x (suc i) left ≤ suc i + left → place_from b x i (suc left) ≤ i + suc left
    go true e h = omega (arith, place_here b x i left (eqb-true _ _ e))
    go false e h = omega (arith, place_next b x i left (eqb-false _ _ e))

pub place_few : (b : List ℕ) (x : ℕ) → place_of b x ≤ places_in b
place_few b x = go (eqb x 0) refl
  where
    go : (t : Bool) → eqb x 0 ≡ t → place_of b x ≤ places_in b
    go true e = omega (arith, place_zero b x (eqb-true _ _ e))
    go false e = omega (arith, place_some b x (eqb-false _ _ e), place_most b x 0 (places_in b))

-- Work. Lent entries that are filled one by one, and the list that they are then. Assumes nothing.
use Rattle.std.specs.Prelude.{ℕ, zero, suc, ◌+◌, ◌-◌, ◌/◌, ◌≤◌, ◌<◌, Bool, true, false, List, ◌++◌, map, ◌≡◌, refl, ltb, length, get_or, set, drop, replicate}
use Rattle.std.proofs.Common.{⊎_elim, sym, ◌∙◌, ap, eq-or-lt_of_le, arith, ltb-true, ltb-false, length-set, length-append, length-drop, get_or-set_same, get_or-set_other, ext_get_or, get_or-drop, get_or-append-add}
use Rattle.std.proofs.lemmas.List.{length-map}
use Rattle.std.proofs.Math.ListN.{get_or-append}
use Rattle.graph.specs.Graph.{Bond}
use Rattle.block.specs.Block.{bonds_of}
use Rattle.block.specs.Numbered.{bond_at, bonds_length, mapped_at}

-- the first m entries are F's, and the others are as they were
pub record EntriesFilled (m : ℕ) (F : ℕ → ℕ) (old new : List ℕ) : Type 0 where
  pub same : length new ≡ length old
  pub first : (k : ℕ) → k < m → get_or new k 0 ≡ F k
  pub kept : (k : ℕ) → m ≤ k → get_or new k 0 ≡ get_or old k 0

-- an entry of zeros
pub zeros : (m k : ℕ) → ◌≡◌ {A = ℕ} (get_or (replicate m 0) k 0) 0
zeros zero k = refl
zeros (suc m) zero = refl
zeros (suc m) (suc k) = zeros m k

-- what holds of each place below j, and of j, holds of each below j + 1
pub one_more : {P : ℕ → Type 0} (j : ℕ) → ((k : ℕ) → k < j → P k) → P j → (k : ℕ) → k < j + 1 → P k
one_more {P} j h e k l = ⊎_elim (λ q. let z : k ≡ j = omega arith in rw z e) (λ q. h k (omega arith)) (eq-or-lt_of_le l)

pub filled_none : {F : ℕ → ℕ} {old : List ℕ} → EntriesFilled 0 F old old
filled_none = record { same = refl; first = λ k l. absurd (omega arith); kept = λ k l. refl }

-- the next entry is stored
pub filled_store : {m : ℕ} {F : ℕ → ℕ} {old new : List ℕ} → EntriesFilled m F old new → m < length new → (x : ℕ) → x ≡ F m → EntriesFilled (m + 1) F old (set new m x)
filled_store {m} {F} {old} {new} h i x e = record {
  same = length-set new m x ∙ h.same;
  first = one_more m (λ k l. get_or-set_other new m k x 0 (λ z. omega arith) ∙ h.first k l) (get_or-set_same new m x 0 i ∙ e);
  kept = λ k l. get_or-set_other new m k x 0 (λ z. omega arith) ∙ h.kept k (omega arith);
}

-- the entries are F's as they are
pub filled_same : {m : ℕ} {F : ℕ → ℕ} {old : List ℕ} → ((k : ℕ) → k < m → get_or old k 0 ≡ F k) → EntriesFilled m F old old
filled_same h = record { same = refl; first = h; kept = λ k l. refl }

-- by another name
pub filled_as : {m : ℕ} {F H : ℕ → ℕ} {old new : List ℕ} → EntriesFilled m F old new → ((k : ℕ) → k < m → F k ≡ H k) → EntriesFilled m H old new
filled_as f e = record { same = f.same; first = λ k l. f.first k l ∙ e k l; kept = f.kept }

-- THE LIST: what f makes of the bonds in list order, and what was behind
pub filled_bonds : (f : Bond → ℕ) (xs : List ℕ) {old new : List ℕ} → EntriesFilled (length xs / 2) (λ k. f (bond_at xs k)) old new → length xs / 2 ≤ length old
    → new ≡ map f (bonds_of xs) ++ drop (length (bonds_of xs)) old
filled_bonds f xs {old} {new} h room = ext_get_or 0 new (front ++ back) (omega (arith, long, h.same)) (λ k l. go k (ltb k (length xs / 2)) refl)
  where
    front : List ℕ
    front = map f (bonds_of xs)

    back : List ℕ
    back = drop (length (bonds_of xs)) old

    size : length front ≡ length xs / 2
    size = length-map (bonds_of xs) f ∙ bonds_length xs

    long : length (front ++ back) ≡ length old
    long = omega (arith, length-append front back, length-drop (length (bonds_of xs)) old, size, bonds_length xs)

    go : (k : ℕ) (t : Bool) → ltb k (length xs / 2) ≡ t → get_or new k 0 ≡ get_or (front ++ back) k 0
    go k true e =
        let l = ltb-true k (length xs / 2) e in
        h.first k l ∙ sym (get_or-append front back 0 k (omega (arith, size)) ∙ mapped_at f xs k l)
    go k false e =
        let l = ltb-false k (length xs / 2) e in
        let here : length front + (k - length front) ≡ k = omega (arith, size) in
        let there : length (bonds_of xs) + (k - length front) ≡ k = omega (arith, size, bonds_length xs) in
        h.kept k l
        ∙ sym (sym (ap (λ (j : ℕ). get_or (front ++ back) j 0) here) ∙ get_or-append-add front back (k - length front) 0
        ∙ get_or-drop (length (bonds_of xs)) old (k - length front) 0 ∙ ap (λ (j : ℕ). get_or old j 0) there)

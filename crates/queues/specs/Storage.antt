-- Laws. Places of any width that store anything which begins with its number: adding stores into the first empty place, dropping sets the number to 0.
-- Whatever is stored, each place keeps it. Assumes nothing.
use Rattle.std.specs.Prelude.{ℕ, suc, ◌+◌, ◌*◌, ◌≤◌, ◌<◌, Bool, ◌&&◌, ◌⊎◌, length, get_or}
use Rattle.std.proofs.Math.Bool.{true, false, not}
use mathlib.Core.List.{List, [], ◌∷◌}
use Rattle.std.proofs.Common.{inl, inr, ⊎_elim, sym, ◌∙◌, mul-le-mul_left}
use Rattle.std.proofs.Math.Path.{◌≡◌, refl, ap}
use Rattle.std.proofs.Math.Decide.{ℕ_discrete}
use native.Mathlib.Omega.{arith}
use borrow.Author.Tests.{lt-ltb, ltb-true, ltb-false, ne_eqb}
use Rattle.std.proofs.Math.Dec.{eqb, ltb}
use Rattle.std.proofs.lemmas.List.Edits.{sets}
use Rattle.std.proofs.Math.Seq.{length-sets, take-length}
use Rattle.records.specs.Bytes.{little, part}
use Rattle.queues.specs.Shelf.{places, place_by, held_by, zero_number, number_in}
use Rattle.queues.specs.Model.{Entry, lookup, has, without}
use Rattle.queues.specs.Seeks.{taken, seek_found, seek_least, seek_hit, seek_same, taken_all, taken_more, taken_none}
use Rattle.records.specs.Stored.{little_kept, little_put, part_kept, part_put}
use Rattle.queues.specs.Entries.{Apart, lookup_first, lookup_later, has_positive, has-number, has_by, has-none, not_has, without_other, without_self, without_apart, without-length}

-- which number is held by numbers at places
module _ (g : ℕ → ℕ) (x : ℕ) where
  pub held_place : held_by g x ≡ true → (place_by g x) < places
  unfolding held_by
  held_place h = go (eqb x 0) (ltb (place_by g x) places) refl h
    where
      go : (t u : Bool) → ltb (place_by g x) places ≡ u → (not t && u) ≡ true → (place_by g x) < places
      go true u e h = let z : ◌≡◌ {A = ℕ} 0 1 = cc in absurd (omega arith)
      go false true e h = ltb-true (place_by g x) places e
      go false false e h = let z : ◌≡◌ {A = ℕ} 0 1 = cc in absurd (omega arith)

  pub held_number : held_by g x ≡ true → g (place_by g x) ≡ x
  held_number h = seek_found g x 0 places (held_place h)

  pub held_by_lem : 1 ≤ x → (place_by g x) < places → held_by g x ≡ true
  unfolding held_by
  held_by_lem p l = rw (ne_eqb x 0 (omega arith), lt-ltb (place_by g x) places l)

  pub held_none : 1 ≤ x → held_by g x ≡ false → (j : ℕ) → j < places → g j ≡ x → ⊥
  held_none p h j l e = go (ltb (place_by g x) places) refl
    where
      go : (t : Bool) → ltb (place_by g x) places ≡ t → ⊥
      go true q = let z : true ≡ false = sym (held_by_lem p (ltb-true (place_by g x) places q)) ∙ h in let y : ◌≡◌ {A = ℕ} 0 1 = cc in omega arith
      go false q = seek_least g x 0 places j (omega arith) (omega (arith, ltb-false (place_by g x) places q)) e

  pub not_held_by : ((j : ℕ) → j < places → g j ≡ x → ⊥) → held_by g x ≡ false
  not_held_by none = go (held_by g x) refl
    where
      go : (t : Bool) → held_by g x ≡ t → t ≡ false
      go true h = absurd (none (place_by g x) (held_place h) (held_number h))
      go false h = refl

-- numbers that agree in their tests for y
same_held : (g h : ℕ → ℕ) (y : ℕ) → place_by g y ≡ place_by h y → held_by g y ≡ held_by h y
unfolding held_by
same_held g h y e = rw e

zero_held : (g : ℕ → ℕ) → held_by g 0 ≡ false
unfolding held_by
zero_held g = refl

zero_has : {G : Type 0} (none : G) (q : List (Entry G)) → has none q 0 ≡ false
unfolding has
zero_has none q = refl

false-true : {A : Type 0} → true ≡ false → A
false-true e = absurd (let y : ◌≡◌ {A = ℕ} 0 1 = cc in omega arith)

-- places of w bytes do not overlap
module _ (w : ℕ) where
  step : (k : ℕ) → w * suc k ≡ w * k + w
  step k = omega arith

  apart_in : (j k : ℕ) → (j ≡ k → ⊥) → (w * j + w ≤ w * k) ⊎ (w * k + w ≤ w * j)
  apart_in j k d = go (ltb j k) refl
    where
      go : (t : Bool) → ltb j k ≡ t → (w * j + w ≤ w * k) ⊎ (w * k + w ≤ w * j)
      go true e = let l : suc j ≤ k = omega (arith, ltb-true j k e) in inl (omega (arith, mul-le-mul_left w l, step j))
      go false e = let l : suc k ≤ j = omega (arith, ltb-false j k e) in inr (omega (arith, mul-le-mul_left w l, step k))

  pub place_within : (k : ℕ) → k < places → w * k + w ≤ w * places
  place_within k l = let m : suc k ≤ places = omega arith in omega (arith, mul-le-mul_left w m, step k)

  pub other_number : 2 ≤ w → (s : List ℕ) (p j : ℕ) → (j ≡ p → ⊥) → number_in w (sets s (w * p) zero_number) j ≡ number_in w s j
  other_number wide s p j d = little_kept 2 zero_number s (w * p) (w * j) (⊎_elim (λ o. inl (omega arith)) (λ o. inr (omega arith)) (apart_in j p d))

module _ {G : Type 0} (none : G) (w : ℕ) (wide : 2 ≤ w) (stored : Entry G → List ℕ) where
  -- what is stored of a block fits a place, and begins with its number
  pub record Storable (e : Entry G) : Type 0 where
    pub fits : length (stored e) ≤ w
    pub two : 2 ≤ length (stored e)
    pub number : little 2 (stored e) 0 ≡ e.number
    pub positive : 1 ≤ e.number

  pub record Stores (s : List ℕ) (q : List (Entry G)) : Type 0 where
    pub size : length s ≡ w * places
    pub once : (i j : ℕ) → i < places → j < places → 1 ≤ number_in w s i → number_in w s i ≡ number_in w s j → i ≡ j
    pub numbers : (x : ℕ) → held_by (number_in w s) x ≡ has none q x
    pub bytes : (x : ℕ) → has none q x ≡ true → part s (w * place_by (number_in w s) x) (length (stored (lookup none q x))) ≡ stored (lookup none q x)
    pub each : (x : ℕ) → has none q x ≡ true → Storable (lookup none q x)
    pub count : taken (number_in w s) places ≡ length q
    pub apart : Apart none q

  -- a place changes
  module _ (s : List ℕ) (size : length s ≡ w * places) (p : ℕ) (vs : List ℕ) (vl : length vs ≤ w) where
    abbrev now : List ℕ
    now = sets s (w * p) vs

    other : (j : ℕ) → (j ≡ p → ⊥) → number_in w now j ≡ number_in w s j
    other j d = little_kept 2 vs s (w * p) (w * j) (⊎_elim (λ o. inl (omega arith)) (λ o. inr (omega arith)) (apart_in w j p d))

    other_part : (j len : ℕ) → j < places → (j ≡ p → ⊥) → len ≤ w → part now (w * j) len ≡ part s (w * j) len
    other_part j len l d h = part_kept vs s (w * p) (w * j) len (omega (arith, size, place_within w j l)) (⊎_elim (λ o. inl (omega arith)) (λ o. inr (omega arith)) (apart_in w j p d))

    module _ (y : ℕ) (old : number_in w s p ≡ y → ⊥) (new : number_in w now p ≡ y → ⊥) where
      same_place : place_by (number_in w now) y ≡ place_by (number_in w s) y
      same_place = seek_same (number_in w now) (number_in w s) y 0 places (λ i l h. go i (ℕ_discrete i p))
        where
          go : (i : ℕ) → Dec (i ≡ p) → eqb (number_in w now i) y ≡ eqb (number_in w s i) y
          go i (yes d) = rw d (ne_eqb (number_in w now p) y new ∙ sym (ne_eqb (number_in w s p) y old))
          go i (no d) = ap (λ (n : ℕ). eqb n y) (other i d)

      same_numbers : held_by (number_in w now) y ≡ held_by (number_in w s) y
      same_numbers = same_held (number_in w now) (number_in w s) y same_place

      same_bytes : (len : ℕ) → held_by (number_in w s) y ≡ true → len ≤ w → part now (w * place_by (number_in w now) y) len ≡ part s (w * place_by (number_in w s) y) len
      same_bytes len h l =
          let r = place_by (number_in w s) y in
          let d : r ≡ p → ⊥ = λ z. old (ap (number_in w s) (sym z) ∙ held_number (number_in w s) y h) in
          ap (λ (i : ℕ). part now (w * i) len) same_place ∙ other_part r len (held_place (number_in w s) y h) d l

  -- a block is added
  module _ {s : List ℕ} {q : List (Entry G)} (k : Stores s q) (e : Entry G) (m : Storable e) (new : has none q e.number ≡ false) (room : length q < places) where
    abbrev place : ℕ
    place = place_by (number_in w s) 0

    place_one : place < places
    place_one = go (ltb place places) refl
      where
        go : (t : Bool) → ltb place places ≡ t → place < places
        go true t = ltb-true place places t
        go false t =
            let l = ltb-false place places t in
            absurd (omega (arith, room, k.count, taken_all (number_in w s) places (λ i a b. seek_least (number_in w s) 0 0 places i (omega arith) (omega arith) b)))

    place_empty : number_in w s place ≡ 0
    place_empty = seek_found (number_in w s) 0 0 places place_one

    abbrev grown : List ℕ
    grown = sets s (w * place) (stored e)

    fits_in : w * place + length (stored e) ≤ length s
    fits_in = omega (arith, k.size, place_within w place place_one, m.fits)

    here : number_in w grown place ≡ e.number
    here =
        let z : w * place ≡ w * place + 0 = omega arith in
        ap (little 2 grown) z ∙ little_put 2 (stored e) s (w * place) 0 fits_in m.two ∙ m.number

    there : (i : ℕ) → (i ≡ place → ⊥) → number_in w grown i ≡ number_in w s i
    there i d = other s k.size place (stored e) m.fits i d

    alone : (i : ℕ) → i < places → (i ≡ place → ⊥) → number_in w grown i ≡ e.number → ⊥
    alone i l d h = held_none (number_in w s) e.number m.positive (k.numbers e.number ∙ new) i l (sym (there i d) ∙ h)

    found : place_by (number_in w grown) e.number ≡ place
    found = seek_hit (number_in w grown) e.number 0 places place (omega arith) place_one here (λ i l h z. alone i (omega (arith, place_one)) (λ y. omega arith) z)

    -- another number that is not 0
    old_differs : (y : ℕ) → (y ≡ 0 → ⊥) → number_in w s place ≡ y → ⊥
    old_differs y z h = z (sym h ∙ place_empty)

    new_differs : (y : ℕ) → (e.number ≡ y → ⊥) → number_in w grown place ≡ y → ⊥
    new_differs y d h = d (sym here ∙ h)

    has_later : (y : ℕ) → (e.number ≡ y → ⊥) → has none (e ∷ q) y ≡ has none q y
    unfolding has
    has_later y d = ap (λ (f : Entry G). not (eqb y 0) && eqb f.number y) (lookup_later none e q y d)

    grown_numbers : (y : ℕ) → held_by (number_in w grown) y ≡ has none (e ∷ q) y
    grown_numbers y = go (ℕ_discrete e.number y) (ℕ_discrete y 0)
      where
        go : Dec (e.number ≡ y) → Dec (y ≡ 0) → held_by (number_in w grown) y ≡ has none (e ∷ q) y
        go (yes d) z =
            rw (← d)
            (held_by_lem (number_in w grown) e.number m.positive (rw found place_one) ∙ sym (has_by none (e ∷ q) e.number m.positive (ap (λ (f : Entry G). f.number) (lookup_first none e q e.number refl))))
        go (no d) (yes z) = rw z (zero_held (number_in w grown) ∙ sym (zero_has none (e ∷ q)))
        go (no d) (no z) = same_numbers s k.size place (stored e) m.fits y (old_differs y z) (new_differs y d) ∙ k.numbers y ∙ sym (has_later y d)

    grown_bytes : (y : ℕ) → has none (e ∷ q) y ≡ true → part grown (w * place_by (number_in w grown) y) (length (stored (lookup none (e ∷ q) y))) ≡ stored (lookup none (e ∷ q) y)
    grown_bytes y h = go (ℕ_discrete e.number y)
      where
        go : Dec (e.number ≡ y) → part grown (w * place_by (number_in w grown) y) (length (stored (lookup none (e ∷ q) y))) ≡ stored (lookup none (e ∷ q) y)
        go (yes d) =
            let z : w * place ≡ w * place + 0 = omega arith in
            rw (lookup_first none e q y d, ← d, found)
            (ap (λ (i : ℕ). part grown i (length (stored e))) z ∙ part_put (stored e) s (w * place) 0 (length (stored e)) fits_in (omega arith) ∙ take-length (stored e))
        go (no d) =
            let had = sym (has_later y d) ∙ h in
            let z : y ≡ 0 → ⊥ = λ v. omega (arith, has_positive none q y had) in
            rw (lookup_later none e q y d)
            (same_bytes s k.size place (stored e) m.fits y (old_differs y z) (new_differs y d) (length (stored (lookup none q y))) (k.numbers y ∙ had) (k.each y had).fits ∙ k.bytes y had)

    grown_each : (y : ℕ) → has none (e ∷ q) y ≡ true → Storable (lookup none (e ∷ q) y)
    grown_each y h = go (ℕ_discrete e.number y)
      where
        go : Dec (e.number ≡ y) → Storable (lookup none (e ∷ q) y)
        go (yes d) = rw (lookup_first none e q y d) m
        go (no d) = rw (lookup_later none e q y d) (k.each y (sym (has_later y d) ∙ h))

    grown_once : (i j : ℕ) → i < places → j < places → 1 ≤ number_in w grown i → number_in w grown i ≡ number_in w grown j → i ≡ j
    grown_once i j p r l h = go (ℕ_discrete i place) (ℕ_discrete j place)
      where
        go : Dec (i ≡ place) → Dec (j ≡ place) → i ≡ j
        go (yes a) (yes b) = a ∙ sym b
        go (yes a) (no b) = absurd (alone j r b (sym h ∙ ap (number_in w grown) a ∙ here))
        go (no a) (yes b) = absurd (alone i p a (h ∙ ap (number_in w grown) b ∙ here))
        go (no a) (no b) = k.once i j p r (rw (there i a) at l) (sym (there i a) ∙ h ∙ there j b)

    pub stores_added : Stores (sets s (w * place_by (number_in w s) 0) (stored e)) (e ∷ q)
    stores_added = record {
      size = length-sets s (w * place) (stored e) ∙ k.size;
      once = grown_once;
      numbers = grown_numbers;
      bytes = grown_bytes;
      each = grown_each;
      count = taken_more (number_in w s) (number_in w grown) places place place_one (λ i l d. there i d) place_empty (rw here m.positive) ∙ ap suc k.count;
      apart = (not_has none q e.number m.positive new, k.apart);
    }

  -- a block is dropped
  module _ {s : List ℕ} {q : List (Entry G)} (k : Stores s q) (x : ℕ) (had : has none q x ≡ true) where
    positive : 1 ≤ x
    positive = has_positive none q x had

    on : held_by (number_in w s) x ≡ true
    on = k.numbers x ∙ had

    abbrev spot : ℕ
    spot = place_by (number_in w s) x

    spot_one : spot < places
    spot_one = held_place (number_in w s) x on

    spot_number : number_in w s spot ≡ x
    spot_number = held_number (number_in w s) x on

    abbrev noughts : List ℕ
    noughts = zero_number

    noughts_fit : length noughts ≤ w
    noughts_fit = omega arith

    abbrev freed : List ℕ
    freed = sets s (w * spot) noughts

    gone : number_in w freed spot ≡ 0
    unfolding little
    gone =
        let z : w * spot ≡ w * spot + 0 = omega arith in
        ap (little 2 freed) z ∙ little_put 2 noughts s (w * spot) 0 (omega (arith, place_within w spot spot_one, k.size)) (omega arith)

    rest : (i : ℕ) → (i ≡ spot → ⊥) → number_in w freed i ≡ number_in w s i
    rest i d = other s k.size spot noughts noughts_fit i d

    lone : (i : ℕ) → i < places → number_in w freed i ≡ x → ⊥
    lone i l h = go (ℕ_discrete i spot)
      where
        go : Dec (i ≡ spot) → ⊥
        go (yes a) = omega (arith, positive, sym h ∙ ap (number_in w freed) a ∙ gone)
        go (no a) = a (k.once i spot l spot_one (rw (sym (rest i a) ∙ h) positive) (sym (rest i a) ∙ h ∙ sym spot_number))

    has_other : (y : ℕ) → (x ≡ y → ⊥) → has none (without q x) y ≡ has none q y
    unfolding has
    has_other y d = ap (λ (f : Entry G). not (eqb y 0) && eqb f.number y) (without_other none q x y d)

    has_self : has none (without q x) x ≡ false
    has_self = has-none none (without q x) x (without_self none q x k.apart)

    old_other : (y : ℕ) → (x ≡ y → ⊥) → number_in w s spot ≡ y → ⊥
    old_other y d h = d (sym spot_number ∙ h)

    new_other : (y : ℕ) → (y ≡ 0 → ⊥) → number_in w freed spot ≡ y → ⊥
    new_other y z h = z (sym h ∙ gone)

    freed_numbers : (y : ℕ) → held_by (number_in w freed) y ≡ has none (without q x) y
    freed_numbers y = go (ℕ_discrete x y) (ℕ_discrete y 0)
      where
        go : Dec (x ≡ y) → Dec (y ≡ 0) → held_by (number_in w freed) y ≡ has none (without q x) y
        go (yes d) z = rw (← d) (not_held_by (number_in w freed) x lone ∙ sym has_self)
        go (no d) (yes z) = rw z (zero_held (number_in w freed) ∙ sym (zero_has none (without q x)))
        go (no d) (no z) = same_numbers s k.size spot noughts noughts_fit y (old_other y d) (new_other y z) ∙ k.numbers y ∙ sym (has_other y d)

    differs : (y : ℕ) → has none (without q x) y ≡ true → x ≡ y → ⊥
    differs y h d = false-true (sym h ∙ ap (has none (without q x)) (sym d) ∙ has_self)

    freed_bytes : (y : ℕ) → has none (without q x) y ≡ true → part freed (w * place_by (number_in w freed) y) (length (stored (lookup none (without q x) y))) ≡ stored (lookup none (without q x) y)
    freed_bytes y h =
        let d = differs y h in
        let held = sym (has_other y d) ∙ h in
        let z : y ≡ 0 → ⊥ = λ v. omega (arith, has_positive none q y held) in
        rw (without_other none q x y d)
        (same_bytes s k.size spot noughts noughts_fit y (old_other y d) (new_other y z) (length (stored (lookup none q y))) (k.numbers y ∙ held) (k.each y held).fits ∙ k.bytes y held)

    freed_each : (y : ℕ) → has none (without q x) y ≡ true → Storable (lookup none (without q x) y)
    freed_each y h = let d = differs y h in rw (without_other none q x y d) (k.each y (sym (has_other y d) ∙ h))

    freed_once : (i j : ℕ) → i < places → j < places → 1 ≤ number_in w freed i → number_in w freed i ≡ number_in w freed j → i ≡ j
    freed_once i j p r l h = go (ℕ_discrete i spot) (ℕ_discrete j spot)
      where
        go : Dec (i ≡ spot) → Dec (j ≡ spot) → i ≡ j
        go (yes a) b = absurd (omega (arith, l, ap (number_in w freed) a ∙ gone))
        go (no a) (yes b) = absurd (omega (arith, l, h ∙ ap (number_in w freed) b ∙ gone))
        go (no a) (no b) = k.once i j p r (rw (rest i a) at l) (sym (rest i a) ∙ h ∙ rest j b)

    pub stores_dropped : Stores (sets s (w * place_by (number_in w s) x) (zero_number)) (without q x)
    stores_dropped = record {
      size = length-sets s (w * spot) noughts ∙ k.size;
      once = freed_once;
      numbers = freed_numbers;
      bytes = freed_bytes;
      each = freed_each;
      count =
          let m = taken_more (number_in w freed) (number_in w s) places spot spot_one (λ i l d. sym (rest i d)) gone (rw spot_number positive) in
          omega (arith, m, k.count, without-length none q x positive (has-number none q x had));
      apart = without_apart none q x k.apart;
    }

  -- nothing is stored where all bytes are 0
  pub stores_empty : (s : List ℕ) → length s ≡ w * places → ((i : ℕ) → get_or s i 0 ≡ 0) → Stores s []
  unfolding little lookup
  stores_empty s size z = record {
    size = size;
    once = λ i j p q l e. absurd (omega (arith, zeros (w * i)));
    numbers = λ x. go x (ℕ_discrete x 0);
    bytes = λ x h. false-true (sym h ∙ has-none none [] x refl);
    each = λ x h. false-true (sym h ∙ has-none none [] x refl);
    count = taken_none (number_in w s) places (λ i. zeros (w * i));
    apart = tt;
  }
    where
      zeros : (at : ℕ) → little 2 s at ≡ 0
      zeros at = omega (arith, z at, z (at + 1))

      go : (x : ℕ) → Dec (x ≡ 0) → held_by (number_in w s) x ≡ has none [] x
      go x (yes d) = rw d (zero_held (number_in w s) ∙ sym (zero_has none []))
      go x (no d) = not_held_by (number_in w s) x (λ j l e. d (sym e ∙ zeros (w * j))) ∙ sym (has-none none [] x refl)

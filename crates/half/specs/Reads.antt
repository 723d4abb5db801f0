-- Laws. What is stored for two atoms is read there, either way round, and nowhere else; and the half of a table reads as the table does. Assumes nothing.
use Rattle.std.specs.Prelude.{ℕ, zero, suc, ◌+◌, ◌-◌, ◌≤◌, ◌<◌, min, max, Bool, true, false, List, ◌++◌, ◌≡◌, refl, eqb, ltb, length, get_or, set}
use Rattle.std.proofs.Common.{true≢false, ⊎_elim, sym, ◌∙◌, ap, subst, eq-or-lt_of_le, arith, eq-eqb, ne_eqb, ltb-false, le-ltb, length-append, get_or-append-add, get_or-set_same, get_or-set_other, ext_get_or}
use Rattle.std.proofs.Math.Path.{fun_ext}
use Rattle.std.proofs.Math.Decide.{ℕ_discrete, dec_lt}
use Rattle.std.proofs.lemmas.Bool.{eqb-false}
use Rattle.std.proofs.Math.ListN.{get_or-append}
use Rattle.reply.specs.Read.{is_outside}
use Rattle.reply.specs.Chain.{neither}
use Rattle.half.specs.Half.{most_atoms, all_pairs, table, row_start, above_place, no_pair, pair_place, half_at, half_with, half_row, half_from, half_of}
use Rattle.half.specs.Tables.{length-table, get_or-table}
use Rattle.half.specs.Places.{Pair, start_first, start_last, start_next, start_most, place_is, place_below, place_one, place_found}

-- two atoms are a pair one way round or the other, or they are none
pub data Sides (i j : ℕ) : Type 0 where
  up : Pair i j → Sides i j
  down : Pair j i → Sides i j
  none : no_pair i j ≡ true → Sides i j

pub sides : (i j : ℕ) → Sides i j
unfolding no_pair
sides i j = go (is_outside most_atoms i) refl (is_outside most_atoms j) refl
  where
    within : (k : ℕ) → is_outside most_atoms k ≡ false → (1 ≤ k) × (k ≤ most_atoms)
    within k e =
        let r = neither (eqb k 0) (ltb most_atoms k) e in
        let z : (k ≡ 0 → ⊥) = eqb-false k 0 r.0 in
        (omega arith, ltb-false most_atoms k r.1)

    go : (s : Bool) → is_outside most_atoms i ≡ s → (t : Bool) → is_outside most_atoms j ≡ t → Sides i j
    go true e t f = none (rw e)
    go false e true f = none (rw (e, f))
    go false e false f = elim (ℕ_discrete i j) [
      | yes q ↦ none (rw (e, f, eq-eqb i j q))
      | no q ↦ elim (dec_lt i j) [
        | yes l ↦ up (record { low = (within i e).0; less = l; high = (within j f).1 })
        | no l ↦ down (record { low = (within j f).0; less = omega arith; high = (within i e).1 })
      ]
    ]

pub none_first : (i j : ℕ) → is_outside most_atoms i ≡ true → no_pair i j ≡ true
unfolding no_pair
none_first i j e = rw e

-- a pair's place, with the smaller atom first
up_pair : {i j : ℕ} → Pair i j → no_pair i j ≡ false
unfolding no_pair
up_pair {i} {j} p =
    rw (ne_eqb i 0 (omega (arith, p.low)), le-ltb most_atoms i (omega (arith, p.less, p.high)), ne_eqb j 0 (omega (arith, p.less)), le-ltb most_atoms j p.high, ne_eqb i j (omega (arith, p.less)))

down_pair : {i j : ℕ} → Pair j i → no_pair i j ≡ false
unfolding no_pair
down_pair {i} {j} p =
    rw (ne_eqb i 0 (omega (arith, p.less)), le-ltb most_atoms i p.high, ne_eqb j 0 (omega (arith, p.low)), le-ltb most_atoms j (omega (arith, p.less, p.high)), ne_eqb i j (omega (arith, p.less)))

pub up_place : {i j : ℕ} → Pair i j → pair_place i j ≡ above_place i j
unfolding pair_place
up_place {i} {j} p =
    let a : min i j ≡ i = omega (arith, p.less) in
    let b : max i j ≡ j = omega (arith, p.less) in
    rw (up_pair p, a, b)

pub down_place : {i j : ℕ} → Pair j i → pair_place i j ≡ above_place j i
unfolding pair_place
down_place {i} {j} p =
    let a : min i j ≡ j = omega (arith, p.less) in
    let b : max i j ≡ i = omega (arith, p.less) in
    rw (down_pair p, a, b)

pub none_place : (i j : ℕ) → no_pair i j ≡ true → pair_place i j ≡ all_pairs
unfolding pair_place
none_place i j e = rw e

-- what is read
pub up_reads : (h : List ℕ) {i j : ℕ} → Pair i j → half_at h i j ≡ get_or h (above_place i j) 0
unfolding half_at
up_reads h p = rw (up_pair p, up_place p)

pub down_reads : (h : List ℕ) {i j : ℕ} → Pair j i → half_at h i j ≡ get_or h (above_place j i) 0
unfolding half_at
down_reads h p = rw (down_pair p, down_place p)

pub none_reads : (h : List ℕ) (i j : ℕ) → no_pair i j ≡ true → half_at h i j ≡ 0
unfolding half_at
none_reads h i j e = rw e

pub self_reads : (h : List ℕ) (i : ℕ) → half_at h i i ≡ 0
self_reads h i = go (sides i i)
  where
    go : Sides i i → half_at h i i ≡ 0
    go (up p) = absurd (omega (arith, p.less))
    go (down p) = absurd (omega (arith, p.less))
    go (none e) = none_reads h i i e

pub reads_either : (h : List ℕ) (i j : ℕ) → half_at h i j ≡ half_at h j i
reads_either h i j = go (sides i j) (sides j i)
  where
    go : Sides i j → Sides j i → half_at h i j ≡ half_at h j i
    go (up p) s = up_reads h p ∙ sym (down_reads h p)
    go (down p) s = down_reads h p ∙ sym (up_reads h p)
    go (none e) (up p) = down_reads h p ∙ sym (up_reads h p)
    go (none e) (down p) = up_reads h p ∙ sym (down_reads h p)
    go (none e) (none f) = none_reads h i j e ∙ sym (none_reads h j i f)

-- two atoms that are a pair, and what is read and stored there
ordered : (i j : ℕ) → no_pair i j ≡ false → Pair (min i j) (max i j)
ordered i j e = go (sides i j)
  where
    go : Sides i j → Pair (min i j) (max i j)
    go (up p) = record { low = omega (arith, p.low, p.less); less = omega (arith, p.less); high = omega (arith, p.less, p.high) }
    go (down p) = record { low = omega (arith, p.low, p.less); less = omega (arith, p.less); high = omega (arith, p.less, p.high) }
    go (none f) = absurd (true≢false (sym f ∙ e))

module _ (i j : ℕ) (e : no_pair i j ≡ false) where
  pair_place_lem : pair_place i j ≡ above_place (min i j) (max i j)
  unfolding pair_place
  pair_place_lem = rw e

  pub pair_below : pair_place i j < all_pairs
  pair_below = omega (arith, pair_place_lem, place_below (ordered i j e))

  pub pair_reads : (h : List ℕ) → half_at h i j ≡ get_or h (pair_place i j) 0
  unfolding half_at
  pair_reads h = rw e

  pub pair_stores : (h : List ℕ) (x : ℕ) → half_with h i j x ≡ set h (pair_place i j) x
  unfolding half_with
  pair_stores h x = rw e

pub none_stores : (h : List ℕ) (i j x : ℕ) → no_pair i j ≡ true → half_with h i j x ≡ h
unfolding half_with
none_stores h i j x e = rw e

-- A STORED NUMBER IS READ, either way round
pub half_get_put : (h : List ℕ) (i j x : ℕ) → length h ≡ all_pairs → no_pair i j ≡ false → (half_at (half_with h i j x) i j ≡ x) × (half_at (half_with h i j x) j i ≡ x)
half_get_put h i j x n e = (here, reads_either (half_with h i j x) j i ∙ here)
  where
    here : half_at (half_with h i j x) i j ≡ x
    here = pair_reads i j e (half_with h i j x) ∙ rw (pair_stores i j e h x) (get_or-set_same h (pair_place i j) x 0 (omega (arith, n, pair_below i j e)))

-- AND CHANGES NO OTHER PAIR'S
pub half_other : (h : List ℕ) (i j x k l : ℕ) → ((i ≡ k) × (j ≡ l) → ⊥) → ((i ≡ l) × (j ≡ k) → ⊥) → half_at (half_with h i j x) k l ≡ half_at h k l
half_other h i j x k l ne ne' = go (no_pair i j) refl (no_pair k l) refl
  where
    same_two : min i j ≡ min k l → max i j ≡ max k l → ⊥
    same_two a b = elim (ℕ_discrete i k) [ yes q ↦ ne (q, omega arith) | no q ↦ ne' (omega arith, omega arith) ]

    go : (s : Bool) → no_pair i j ≡ s → (t : Bool) → no_pair k l ≡ t → half_at (half_with h i j x) k l ≡ half_at h k l
    go true e t f = ap (λ (z : List ℕ). half_at z k l) (none_stores h i j x e)
    go false e true f = none_reads (half_with h i j x) k l f ∙ sym (none_reads h k l f)
    go false e false f =
        pair_reads k l f (half_with h i j x)
        ∙ rw (pair_stores i j e h x)
        (get_or-set_other h (pair_place i j) (pair_place k l) x 0
        (λ q. let (a, b) = place_one (ordered k l f) (ordered i j e) (sym (pair_place_lem k l f) ∙ q ∙ pair_place_lem i j e) in same_two (sym a) (sym b)))
        ∙ sym (pair_reads k l f h)

-- two halves that say the same of each pair are equal
pub half_ext : (h k : List ℕ) → length h ≡ all_pairs → length k ≡ all_pairs → ((i j : ℕ) → Pair i j → get_or h (above_place i j) 0 ≡ get_or k (above_place i j) 0) → h ≡ k
half_ext h k m n same =
    ext_get_or 0 h k (omega (arith, m, n))
    (λ p l. let F = place_found p (omega (arith, m)) in subst (λ (x : ℕ). get_or h x 0 ≡ get_or k x 0) F.here (same F.one F.two F.pair))

-- the rows of a table one behind the other
length_from : (d : ℕ → ℕ → ℕ) (left i : ℕ) → 1 ≤ i → i + left ≡ most_atoms → length (half_from d i left) + row_start i ≡ all_pairs
unfolding half_from
length_from d zero i h e = let q : i ≡ most_atoms = omega arith in rw q (omega (arith, start_last))
length_from d (suc left) i h e =
    omega (arith, length_from d left (suc i) (omega arith) (omega arith), start_next i h (omega arith), length-append (table (most_atoms - i) (λ k. d i (suc (i + k)))) (half_from d (suc i) left), length-table (most_atoms - i) (λ k. d i (suc (i + k))))

pub length_half : (d : ℕ → ℕ → ℕ) → length (half_of d) ≡ all_pairs
length_half d = omega (arith, length_from d (most_atoms - 1) 1 (omega arith) refl, start_first)

module _ (d : ℕ → ℕ → ℕ) (i left : ℕ) where
  abbrev first : List ℕ
  first = table (most_atoms - i) (λ k. d i (suc (i + k)))

  -- in the first of the rows, and in a later one
  read_here : (l : ℕ) → Pair i l → get_or (first ++ half_from d (suc i) left) (above_place i l - row_start i) 0 ≡ d i l
  read_here l p =
      let e : above_place i l - row_start i ≡ l - i - 1 = omega (arith, place_is i l) in
      let n : l - i - 1 < most_atoms - i = omega (arith, p.less, p.high) in
      let f : suc (i + (l - i - 1)) ≡ l = omega (arith, p.less) in
      rw e
      (get_or-append first (half_from d (suc i) left) 0 (l - i - 1) (omega (arith, length-table (most_atoms - i) (λ k. d i (suc (i + k)))))
      ∙ get_or-table (most_atoms - i) (λ k. d i (suc (i + k))) (l - i - 1) 0 n ∙ ap (d i) f)

  read_there : (k l : ℕ) → 1 ≤ i → i < k → Pair k l → get_or (first ++ half_from d (suc i) left) (above_place k l - row_start i) 0 ≡ get_or (half_from d (suc i) left) (above_place k l - row_start (suc i)) 0
  read_there k l h u p =
      let r = start_most (suc i) k (omega arith) (omega arith) (omega (arith, p.less, p.high)) in
      let e : above_place k l - row_start i ≡ length first + (above_place k l - row_start (suc i)) =
      split (above_place k l) (row_start i) (row_start (suc i)) (most_atoms - i) _ (length-table (most_atoms - i) (λ k. d i (suc (i + k)))) (start_next i h (omega (arith, p.less, p.high))) (omega (arith, place_is k l)) in
      rw e (get_or-append-add first (half_from d (suc i) left) (above_place k l - row_start (suc i)) 0)
    where
      split : (h a b c n : ℕ) → n ≡ c → b ≡ a + c → b ≤ h → h - a ≡ n + (h - b)
      split h a b c n e f l = omega arith

read_from : (d : ℕ → ℕ → ℕ) (left i k l : ℕ) → Pair k l → 1 ≤ i → i ≤ k → k < i + left → get_or (half_from d i left) (above_place k l - row_start i) 0 ≡ d k l
unfolding half_from
read_from d zero i k l p h u v = absurd (omega arith)
read_from d (suc left) i k l p h u v =
    ⊎_elim (λ e. rw (← e) (read_here d i left l (rw (← e) at p))) (λ e. read_there d i left k l h e p ∙ read_from d left (suc i) k l p (omega arith) (omega arith) (omega arith)) (eq-or-lt_of_le u)

pub half_reads : (d : ℕ → ℕ → ℕ) {i j : ℕ} → Pair i j → get_or (half_of d) (above_place i j) 0 ≡ d i j
half_reads d {i} {j} p =
    let e : above_place i j - row_start 1 ≡ above_place i j = omega (arith, start_first) in
    rw (← e) (read_from d (most_atoms - 1) 1 i j p (omega arith) p.low (omega (arith, p.less, p.high)))

-- a table that a half can hold: the same either way round, and 0 for what is no pair
pub record Halved (d : ℕ → ℕ → ℕ) : Type 0 where
  pub either : (i j : ℕ) → d i j ≡ d j i
  pub zero_none : (i j : ℕ) → no_pair i j ≡ true → d i j ≡ 0

-- THE HALF READS AS THE TABLE, at any two atoms
pub half_is_rows : (d : ℕ → ℕ → ℕ) → Halved d → (i j : ℕ) → half_at (half_of d) i j ≡ d i j
half_is_rows d H i j = go (sides i j)
  where
    go : Sides i j → half_at (half_of d) i j ≡ d i j
    go (up p) = up_reads (half_of d) p ∙ half_reads d p
    go (down p) = down_reads (half_of d) p ∙ half_reads d p ∙ H.either j i
    go (none e) = none_reads (half_of d) i j e ∙ sym (H.zero_none i j e)

pub row_is_rows : (d : ℕ → ℕ → ℕ) → Halved d → (i : ℕ) → half_row (half_of d) i ≡ table most_atoms (λ j. d i (suc j))
unfolding half_row
row_is_rows d H i = ap (table most_atoms) (fun_ext (λ j. half_is_rows d H i (suc j)))

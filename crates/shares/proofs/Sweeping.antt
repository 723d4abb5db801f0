-- A sweep over the atoms, level by level: what holds while it runs. Assumes nothing.
use Prim.Native.Nat.{ℕ, suc, ◌+◌, ◌-◌, ◌^◌, min, ◌≤◌, ◌<◌}
use mathlib.Core.Bool.{Bool, true, false, not, ◌&&◌, cond, false≢true, true≢false}
use mathlib.Core.List.{List}
use mathlib.Core.Logic.{◌≢◌}
use mathlib.Core.Path.{◌≡◌, refl, sym, ◌∙◌, ap, subst⁻¹}
use native.Mathlib.Decide.{ℕ_discrete, dec_lt}
use native.Mathlib.Numerals.{add-one}
use native.Mathlib.Omega.{arith}
use borrow.Author.Tests.{eqb-true, eq-eqb, ne_eqb}
use lib.Bits.{bit_and, and_le_l}
use lib.Count.{count_trailing_zeros}
use lib.Dec.{eqb}
use lib.ListN.{length, get_or, set}
use lib.Pow.{pow_mono}
use lib.Seq.{get_or-set_same, get_or-set_other}
use Rattle.graph.specs.Graph.{Within, sum}
use Rattle.graph.specs.Lowest.{lowest_in, rest_less, rest_has}
use Rattle.graph.specs.Sets.{has}
use Rattle.graph.specs.SetLaws.{has_and, has-none, none_above}
use Rattle.graph.specs.Sums.{sum_cong, sum_add, sum_none, sum_split, sum-min, sum_pick}
use Rattle.block.specs.Block.{most_atoms}
use Rattle.block.specs.Drawn.{has_set}
use Rattle.shares.specs.Work.{at, over_set, NearSets, Levels, Rule, CappedRow}

-- the lowest place of a set
abbrev pub first : ℕ → ℕ
first m = count_trailing_zeros most_atoms m

-- its atom is taken out
abbrev pub less : ℕ → ℕ
less m = bit_and m (m - 1)

module _ (m : ℕ) (some : m ≢ 0) (fits : m < 2 ^ most_atoms) where
  -- what the set has is what the lowest atom has, and the others
  pub over_less : (f : ℕ → ℕ) → over_set m f ≡ f (first m + 1) + over_set (less m) f
  over_less f =
      rw (add-one (first m))
      (sum_cong most_atoms (λ w h. rw (rest_has most_atoms m some fits w h.low) (at_one w (ℕ_discrete w (suc (first m)))))
      ∙ sum_add most_atoms (λ w. cond (eqb (suc (first m)) w) (f w) 0) (λ w. cond (has (less m) w) (f w) 0)
      ∙ ap (λ (x : ℕ). x + over_set (less m) f) (sum_pick most_atoms (suc (first m)) f (omega (arith, (lowest_in most_atoms m some fits).0))))
    where
      at_one : (w : ℕ) → Dec (w ≡ suc (first m)) → cond (has m w) (f w) 0 ≡ cond (eqb (suc (first m)) w) (f w) 0 + cond (has m w && not (eqb w (suc (first m)))) (f w) 0
      at_one w (yes e) = rw (eq-eqb w (suc (first m)) e, eq-eqb (suc (first m)) w (sym e), e, (lowest_in most_atoms m some fits).1) (omega arith)
      at_one w (no ne) = rw (ne_eqb w (suc (first m)) ne, ne_eqb (suc (first m)) w (λ e. ne (sym e))) (plain (has m w))
        where
          plain : (t : Bool) → cond t (f w) 0 ≡ 0 + cond (t && not false) (f w) 0
          plain true = omega arith
          plain false = omega arith

pub over_none : (f : ℕ → ℕ) → over_set 0 f ≡ 0
over_none f = sum_cong most_atoms (λ w h. rw (has-none w) refl) ∙ sum_none most_atoms

-- below are the atoms of the level before d, rest those of level d that wait; the row has F for all others up to d, and for those that wait and all later what they have of their own
pub record Sweeping (n : ℕ) (key own F : ℕ → ℕ) (top cap d below rest : ℕ) (row : List ℕ) : Type 0 where
  pub waits : rest < 2 ^ n
  pub lower : (w : ℕ) → Within n w → key w < d → at row w ≡ min cap (F w)
  pub under : d ≤ top → (w : ℕ) → Within n w → has below w ≡ eqb (suc (key w)) d
  pub here : d ≤ top → (w : ℕ) → Within n w → has rest w ≡ true → key w ≡ d
  pub passed : d ≤ top → (w : ℕ) → Within n w → key w ≡ d → has rest w ≡ false → at row w ≡ min cap (F w)
  pub waiting : d ≤ top → (w : ℕ) → Within n w → has rest w ≡ true → at row w ≡ own w
  pub later : (w : ℕ) → Within n w → d < key w → at row w ≡ own w

-- who is in a level
module _ {n : ℕ} {key : ℕ → ℕ} {sets : List ℕ} {top : ℕ} (L : Levels n key sets top) where
  at_level : (d : ℕ) → d ≤ top → (w : ℕ) → Within n w → has (at sets d) w ≡ eqb (key w) d
  at_level d l w h = ap (λ (m : ℕ). has m w) (L.level d l) ∙ has_set n (λ v. eqb (key v) d) w h

  at_here : (d : ℕ) → d ≤ top → (w : ℕ) → Within n w → has (at sets d) w ≡ true → key w ≡ d
  at_here d l w h e = eqb-true (key w) d (sym (at_level d l w h) ∙ e)

  at_passed : (d : ℕ) → d ≤ top → (w : ℕ) → Within n w → key w ≡ d → has (at sets d) w ≡ false → ⊥
  at_passed d l w h k e = false≢true (sym e ∙ at_level d l w h ∙ eq-eqb (key w) d k)

-- an atom that waits is one of the atoms, and what is asked of its neighbours is a set of them
pub wide_set : {n m : ℕ} → n ≤ most_atoms → m < 2 ^ n → m < 2 ^ most_atoms
wide_set {n} {m} l w = omega (arith, w, grow)
  where
    grow : 2 ^ n ≤ 2 ^ most_atoms
    grow = pow_mono l

module _ {n : ℕ} (small : n ≤ most_atoms) (rest : ℕ) (waits : rest < 2 ^ n) (some : rest ≢ 0) where
  its_first : has rest (suc (first rest)) ≡ true
  its_first = (lowest_in most_atoms rest some (wide_set small waits)).1

  pub taken : Within n (suc (first rest))
  taken = elim (dec_lt n (suc (first rest))) [
    | yes h ↦ absurd (false≢true (sym (none_above n rest (suc (first rest)) waits h) ∙ its_first))
    | no h ↦ omega arith
  ]

  its_place : suc (first rest) - 1 ≡ first rest
  its_place = omega arith

  pub asked_fits : {B : ℕ → ℕ → Bool} {near : List ℕ} (below : ℕ) → NearSets n B near → bit_and (get_or near (first rest) 0) below < 2 ^ n
  asked_fits {near = near} below N = omega (arith, and_le_l (get_or near (first rest) 0) below, ap (λ (p : ℕ). get_or near p 0) its_place, N.fits (suc (first rest)) taken)

  its_near : {B : ℕ → ℕ → Bool} {near : List ℕ} → NearSets n B near → (w : ℕ) → Within n w → has (get_or near (first rest) 0) w ≡ B (suc (first rest)) w
  its_near {near = near} N w h = ap (λ (p : ℕ). has (get_or near p 0) w) (sym its_place) ∙ N.each (suc (first rest)) w taken h

module _ {n : ℕ} {B : ℕ → ℕ → Bool} {near : List ℕ} {key own F : ℕ → ℕ} {sets : List ℕ} {top cap : ℕ}
    (N : NearSets n B near) (L : Levels n key sets top) (R : Rule n B key own F) where
  pub sweeping_start : (row : List ℕ) → ((w : ℕ) → at row w ≡ own w) → Sweeping n key own F top cap 0 0 (at sets 0) row
  sweeping_start row o = record {
    waits = L.fits 0;
    lower = λ w h l. absurd (omega arith);
    under = λ l w h. has-none w ∙ sym (ne_eqb (suc (key w)) 0 (omega arith));
    here = at_here L 0;
    passed = λ l w h k e. absurd (at_passed L 0 l w h k e);
    waiting = λ l w h e. o w;
    later = λ w h l. o w;
  }

  module _ (d below rest : ℕ) (row : List ℕ) (S : Sweeping n key own F top cap d below rest row) where
    pub sweeping_done : top < d → CappedRow n cap F row
    sweeping_done l = record { holds = λ w h. S.lower w h (omega (arith, L.high w h)) }

    -- no atom of the level waits
    pub sweeping_level : d ≤ top → rest ≡ 0 → Sweeping n key own F top cap (d + 1) (at sets d) (at sets (d + 1)) row
    sweeping_level l z = record {
      waits = L.fits (d + 1);
      lower = λ w h k. elim (dec_lt (key w) d) [
        | yes q ↦ S.lower w h q
        | no q ↦ S.passed l w h (omega arith) (ap (λ (m : ℕ). has m w) z ∙ has-none w)
      ];
      under = λ m w h. at_level L d l w h ∙ up (key w);
      here = at_here L (d + 1);
      passed = λ m w h k e. absurd (at_passed L (d + 1) m w h k e);
      waiting = λ m w h e. S.later w h (omega (arith, at_here L (d + 1) m w h e));
      later = λ w h k. S.later w h (omega arith);
    }
      where
        up : (k : ℕ) → eqb k d ≡ eqb (suc k) (d + 1)
        up k = elim (ℕ_discrete k d) [
          | yes e ↦ eq-eqb k d e ∙ sym (eq-eqb (suc k) (d + 1) (omega arith))
          | no ne ↦ ne_eqb k d ne ∙ sym (ne_eqb (suc k) (d + 1) (omega arith))
        ]

    -- the lowest of those that wait is given its own and what its neighbours in the level before have
    module _ (l : d ≤ top) (some : rest ≢ 0) where
      rest_fits : rest < 2 ^ most_atoms
      rest_fits = wide_set L.small S.waits

      abbrev v : ℕ
      v = suc (first rest)

      mine : Within n v
      mine = taken L.small rest S.waits some

      its_key : key v ≡ d
      its_key = S.here l v mine (its_first L.small rest S.waits some)

      abbrev from : ℕ
      from = bit_and (get_or near (first rest) 0) below

      -- only neighbours count, each with what it has
      gives : (w : ℕ) → Within n w → cond (has from w) (at row w) 0 ≡ min cap (cond (B v w && eqb (suc (key w)) (key v)) (F w) 0)
      gives w h = rw (has_and (get_or near (first rest) 0) below w, its_near L.small rest S.waits some N w h, S.under l w h, its_key) (go (B v w && eqb (suc (key w)) d) refl)
        where
          go : (t : Bool) → (B v w && eqb (suc (key w)) d) ≡ t → cond t (at row w) 0 ≡ min cap (cond t (F w) 0)
          go true e = S.lower w h (omega (arith, eqb-true (suc (key w)) d (second (B v w) (eqb (suc (key w)) d) e)))
            where
              second : (p q : Bool) → (p && q) ≡ true → q ≡ true
              second true q e = e
              second false q e = absurd (false≢true e)
          go false e = omega arith

      from_fits : from < 2 ^ n
      from_fits = asked_fits L.small rest S.waits some below N

      all_of : over_set from (at row) ≡ sum n (λ w. cond (has from w) (at row w) 0)
      all_of =
          let e : most_atoms ≡ n + (most_atoms - n) = omega (arith, L.small) in
          ap (λ (k : ℕ). sum k (λ w. cond (has from w) (at row w) 0)) e
          ∙ sum_split n (most_atoms - n) (λ w. cond (has from w) (at row w) 0)
          ∙ omega (arith, sum_cong (most_atoms - n) {f = λ j. cond (has from (n + j)) (at row (n + j)) 0} {h = λ j. 0} (λ j h. rw (none_above n from (n + j) from_fits (omega arith)) refl), sum_none (most_atoms - n))

      module _ (s x : ℕ) (pulls : s ≡ over_set from (at row)) (adds : x ≡ min cap (s + at row (first rest + 1))) where
        right : x ≡ min cap (F v)
        right =
            omega (
              arith,
              pulls,
              adds,
              ap (at row) (add-one (first rest)),
              S.waiting l v mine (its_first L.small rest S.waits some),
              all_of,
              R.rule v mine,
              sum_cong n {f = λ w. cond (has from w) (at row w) 0} {h = λ w. min cap (term w)} gives,
              sum-min n cap term,
            )
          where
            term : ℕ → ℕ
            term w = cond (B v w && eqb (suc (key w)) (key v)) (F w) 0

        stored : v < length row → Sweeping n key own F top cap d below (less rest) (set row v x)
        stored long = record {
          waits = omega (arith, S.waits, rest_less most_atoms rest some rest_fits);
          lower = λ w h k. get_or-set_other row v w x 0 (λ e. omega (arith, ap key e, its_key)) ∙ S.lower w h k;
          under = S.under;
          here = λ m w h e. S.here m w h (both w h e);
          passed = λ m w h k e. elim (ℕ_discrete w v) [
            | yes q ↦ subst⁻¹ (λ (y : ℕ). at (set row v x) y ≡ min cap (F y)) q (get_or-set_same row v x 0 long ∙ right)
            | no ne ↦ get_or-set_other row v w x 0 ne ∙ S.passed m w h k (still w h ne e)
          ];
          waiting = λ m w h e. get_or-set_other row v w x 0 (other w h e) ∙ S.waiting m w h (both w h e);
          later = λ w h k. get_or-set_other row v w x 0 (λ e. omega (arith, ap key e, its_key)) ∙ S.later w h k;
        }
          where
            both : (w : ℕ) → Within n w → has (less rest) w ≡ true → has rest w ≡ true
            both w h e = go (has rest w) (sym (rest_has most_atoms rest some rest_fits w h.low) ∙ e)
              where
                go : (t : Bool) → (t && not (eqb w v)) ≡ true → t ≡ true
                go true q = refl
                go false q = absurd (false≢true q)

            -- who still waits is another
            other : (w : ℕ) → Within n w → has (less rest) w ≡ true → w ≡ v → ⊥
            other w h e q = go (has rest w) (rw (eq-eqb w v q) at (sym (rest_has most_atoms rest some rest_fits w h.low) ∙ e))
              where
                go : (t : Bool) → (t && not true) ≡ true → ⊥
                go true r = false≢true r
                go false r = false≢true r

            still : (w : ℕ) → Within n w → (w ≡ v → ⊥) → has (less rest) w ≡ false → has rest w ≡ false
            still w h ne e = go (has rest w) (rw (ne_eqb w v ne) at (sym (rest_has most_atoms rest some rest_fits w h.low) ∙ e))
              where
                go : (t : Bool) → (t && not false) ≡ false → t ≡ false
                go true q = absurd (true≢false q)
                go false q = refl

        pub sweeping_take : first rest + 1 < length row → Sweeping n key own F top cap d below (less rest) (set row (first rest + 1) x)
        sweeping_take far = rw (add-one (first rest)) (stored (let k : v < length row = omega arith in k))

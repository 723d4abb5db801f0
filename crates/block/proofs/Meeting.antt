-- A search whose sets of atoms are numbers: what holds while it runs, whatever array holds what. Assumes nothing.
use Prim.Native.Nat.{ℕ, suc, ◌+◌, ◌-◌, ◌^◌, ◌≤◌, ◌<◌}
use mathlib.Core.Bool.{Bool, true, false, not, ◌&&◌, ◌||◌, cond, and-true, false≢true}
use mathlib.Core.List.{List}
use mathlib.Core.Logic.{◌≢◌}
use mathlib.Core.Path.{◌≡◌, refl, sym, ap, subst, subst⁻¹, ◌∙◌}
use native.Mathlib.Omega.{arith}
use native.Mathlib.Numerals.{add-one}
use native.Mathlib.Decide.{ℕ_discrete, dec_lt}
use lib.Dec.{eqb, ltb}
use lib.Bits.{bit_and, bit_or, bit_xor}
use lib.Count.{count_trailing_zeros}
use lib.ListN.{length, get_or, set, length-set, replicate}
use lib.Pow.{pow_pos, pow_mono}
use lib.Seq.{get_or-set_same, get_or-set_other, ext_get_or}
use borrow.Author.Tests.{eq-eqb, ne_eqb, lt-ltb, le-ltb}
use Rattle.graph.specs.Graph.{Graph, Within, Sound, Walk, bonded, connected, distance}
use Rattle.graph.specs.Farthest.{farthest}
use Rattle.graph.specs.Connected.{connected_from, unconnected, connected_molecule}
use Rattle.graph.specs.Sets.{has, alone, firsts}
use Rattle.graph.specs.Lowest.{lowest_in, rest_less, rest_has}
use Rattle.graph.specs.SetLaws.{has_and, has_or, has_xor, has-none, has-alone, has-firsts, none_above, taken_one, taken_some}
use Rattle.graph.specs.Search.{State, Seen, Deepens, begin, depth_below, looked, deepened, met-distance, unmet_walk, last_level}
use Rattle.block.specs.Block.{most_atoms}
use Rattle.block.specs.Rows.{table, row_of}
use Rattle.block.specs.Near.{ShowsGraph}
use Rattle.block.specs.Found.{Searched}
use Rattle.block.specs.Tables.{length-table, get_or-table}
use Rattle.block.specs.Lent.{zeros}

-- the search whose row of distances, sets of atoms not met, waiting and seen, and deepest level are given
abbrev pub view : List ℕ → ℕ → ℕ → ℕ → ℕ → State
view row rest level next d = record {
  met = λ v. not (has rest v);
  waits = has level;
  near = has next;
  level = λ v. cond (has level v) d (get_or row (v - 1) 0);
  depth = d;
}

pub sound : {g : Graph} {near : List ℕ} → ShowsGraph g near → Sound g
sound D = record { ends = λ v w e. (D.ends v w e).0 }

-- the lowest atom of a set
abbrev pub first : ℕ → ℕ
first m = count_trailing_zeros most_atoms m

module _ (g : Graph) (near : List ℕ) (i : ℕ) where
  pub record Running (row : List ℕ) (rest level next d : ℕ) : Type 0 where
    pub size : length row ≡ most_atoms
    pub behind : (p : ℕ) → g.atoms ≤ p → get_or row p 0 ≡ 0
    pub fits : rest + level < 2 ^ g.atoms
    pub seen : Seen g i (view row rest level next d)

  -- the search is over: nothing is ahead, and d is one level more than the largest distance
  pub record Over (next d : ℕ) : Type 0 where
    pub ended : next ≡ 0
    pub some : 1 ≤ d
    pub deep : connected g ≡ true → d ≡ farthest g i + 1

  module _ (D : ShowsGraph g near) where
    fits_word : {m : ℕ} → m < 2 ^ g.atoms → m < 2 ^ most_atoms
    fits_word l = omega (arith, grow)
      where
        grow : 2 ^ g.atoms ≤ 2 ^ most_atoms
        grow = pow_mono D.small

    pub run_start : Within g.atoms i → Running (replicate most_atoms 0) (bit_xor (firsts g.atoms) (alone i)) (alone i) 0 0
    run_start a = record {
      size = refl;
      behind = λ p l. zeros most_atoms p;
      fits = omega (arith, taken_one (firsts g.atoms) i (has-firsts g.atoms i a), pow_pos g.atoms);
      seen = begin g i (view (replicate most_atoms 0) (bit_xor (firsts g.atoms) (alone i)) (alone i) 0 0) a
          (λ v b. ap not (has_xor (firsts g.atoms) (alone i) v) ∙ rw (has-firsts g.atoms v b, has-alone i v a.low b.low) (only (eqb v i)))
          (λ v b. has-alone i v a.low b.low) (λ v b. has-none v) (start_level (has (alone i) i)) refl (sound D);
    }
      where
        only : (t : Bool) → not ((true && not t) || (not true && t)) ≡ t
        only true = refl
        only false = refl

        start_level : (t : Bool) → ◌≡◌ {A = ℕ} (cond t 0 (get_or (replicate most_atoms 0) (i - 1) 0)) 0
        start_level true = refl
        start_level false = zeros most_atoms (i - 1)

    module _ (row : List ℕ) (rest level next d : ℕ) (R : Running row rest level next d) where
      pub fits_level : level < 2 ^ most_atoms
      fits_level = fits_word (omega (arith, R.fits))

      -- some atom waits: the lowest of them is looked at
      module _ (some : level ≢ 0) where
        abbrev p : ℕ
        p = first level

        abbrev u : ℕ
        u = suc p

        low : (p < most_atoms) × (has level u ≡ true)
        low = lowest_in most_atoms level some fits_level

        pub small : p < most_atoms
        small = low.0

        u_atom : Within g.atoms u
        u_atom = elim (dec_lt g.atoms u) [
          | yes h ↦ absurd (false≢true (sym (none_above g.atoms level u (omega (arith, R.fits)) h) ∙ low.1))
          | no h ↦ omega arith
        ]

        pub shallow : d < most_atoms
        shallow = omega (arith, depth_below g i (sound D) (view row rest level next d) R.seen u u_atom low.1, D.small)

        pub less : bit_and level (level - 1) < level
        less = rest_less most_atoms level some fits_level

        waits_then : (v : ℕ) → Within g.atoms v → has (bit_and level (level - 1)) v ≡ (has level v && not (eqb v u))
        waits_then v b = rest_has most_atoms level some fits_level v b.low

        near_then : (v : ℕ) → Within g.atoms v → has (bit_or next (get_or near p 0)) v ≡ (has next v || bonded g u v)
        near_then v b =
            let q : suc p - 1 ≡ p = omega arith in
            has_or next (get_or near p 0) v
            ∙ ap (λ (t : Bool). has next v || t) (ap (λ (x : ℕ). has (get_or near x 0) v) (sym q) ∙ D.drawn u v u_atom b)

        level_then : (v : ℕ) → Within g.atoms v → cond (has (bit_and level (level - 1)) v) d (get_or (set row p d) (v - 1) 0) ≡ cond (has level v) d (get_or row (v - 1) 0)
        level_then v b = elim (ℕ_discrete v u) [
          | yes e ↦
              let q : v - 1 ≡ p = omega arith in
              rw (waits_then v b, eq-eqb v u e, e, low.1) (subst⁻¹ (λ (x : ℕ). get_or (set row p d) x 0 ≡ d) (omega arith) (get_or-set_same row p d 0 (omega (arith, R.size, small))))
          | no ne ↦
              rw (waits_then v b, ne_eqb v u ne, and-true (has level v))
              (ap (cond (has level v) d) (get_or-set_other row p (v - 1) d 0 (omega arith)))
        ]

        pub run_looked : Running (set row p d) rest (bit_and level (level - 1)) (bit_or next (get_or near p 0)) d
        run_looked = record {
          size = length-set row p d ∙ R.size;
          behind = λ q l. get_or-set_other row p q d 0 (omega (arith, u_atom)) ∙ R.behind q l;
          fits = omega (arith, R.fits, less);
          seen = looked g i (sound D) (view row rest level next d) R.seen (view (set row p d) rest (bit_and level (level - 1)) (bit_or next (get_or near p 0)) d) u u_atom low.1
              (record { met = λ v b. refl; waits = waits_then; near = near_then; level = level_then; depth = refl });
        }

        -- the atom that was looked at is at the deepest level
        pub looked_at : Within g.atoms u × (cond (has (bit_and level (level - 1)) u) d (get_or (set row p d) (u - 1) 0) ≡ d)
        looked_at = (u_atom, level_then u u_atom ∙ rw low.1 refl)

    -- no atom waits: one level deeper
    module _ (row : List ℕ) (rest level next d : ℕ) (R : Running row rest level next d) (none : level ≡ 0) where
      pub quiet : (v : ℕ) → Within g.atoms v → has level v ≡ false
      quiet v b = ap (λ (x : ℕ). has x v) none ∙ has-none v

      pub kept : bit_xor rest (bit_and next rest) + bit_and next rest ≡ rest
      kept = taken_some rest next

      abbrev deeper : State
      deeper = view row (bit_xor rest (bit_and next rest)) (bit_and next rest) 0 (d + 1)

      pub deepens : Deepens g i (view row rest level next d) deeper
      deepens = record {
        met = λ v b. ap not (has_xor rest (bit_and next rest) v) ∙ rw (has_and next rest v) (met_then (has rest v) (has next v));
        waits = λ v b. has_and next rest v ∙ ap (λ (t : Bool). has next v && t) (sym (not-not (has rest v)));
        near = λ v b. has-none v;
        level = λ v b. rw (quiet v b, add-one d) refl;
        depth = add-one d;
      }
        where
          not-not : (t : Bool) → not (not t) ≡ t
          not-not true = refl
          not-not false = refl

          met_then : (r n : Bool) → not ((r && not (n && r)) || (not r && (n && r))) ≡ (not r || n)
          met_then true true = refl
          met_then true false = refl
          met_then false true = refl
          met_then false false = refl

      pub run_deeper : Running row (bit_xor rest (bit_and next rest)) (bit_and next rest) 0 (d + 1)
      run_deeper = record {
        size = R.size;
        behind = R.behind;
        fits = omega (arith, R.fits, kept);
        seen = deepened g i (sound D) (view row rest level next d) R.seen quiet deeper deepens;
      }

      -- nothing is left to look at
      module _ (ended : next ≡ 0) where
        abbrev s : State
        s = view row rest level next d

        over : (v : ℕ) → Within g.atoms v → has next v ≡ false
        over v b = ap (λ (x : ℕ). has x v) ended ∙ has-none v

        left_out : (j : ℕ) → has rest j ≡ true → (k : ℕ) → Walk g i j k → ⊥
        left_out j h = unmet_walk g i (sound D) s R.seen quiet over j (ap not h)

        whole : rest ≡ 0 → connected g ≡ true
        whole e = connected_from (sound D) i (λ j a. (s.level j, R.seen.walks j a (ap (λ (x : ℕ). not (has x j)) e ∙ ap not (has-none j))))

        apart : rest ≢ 0 → connected g ≡ false
        apart ne =
            let (l, h) = lowest_in most_atoms rest ne (fits_word (omega (arith, R.fits))) in
            unconnected (sound D) i (suc (first rest)) R.seen.start (inside h) (left_out (suc (first rest)) h)
          where
            inside : has rest (suc (first rest)) ≡ true → Within g.atoms (suc (first rest))
            inside h = elim (dec_lt g.atoms (suc (first rest))) [
              | yes l ↦ absurd (false≢true (sym (none_above g.atoms rest (suc (first rest)) (omega (arith, R.fits)) l) ∙ h))
              | no l ↦ omega arith
            ]

        -- in a connected graph all atoms are met, and the row holds the distances
        pub all_met : connected g ≡ true → (j : ℕ) → Within g.atoms j → not (has rest j) ≡ true
        all_met c j a = go (has rest j) refl
          where
            go : (t : Bool) → has rest j ≡ t → not t ≡ true
            go true e = let (k, w) = (connected_molecule (sound D) c).linked i j R.seen.start a in absurd (left_out j e k w)
            go false e = refl

        entry_is : connected g ≡ true → (j : ℕ) → Within g.atoms j → get_or row (j - 1) 0 ≡ distance g i j
        entry_is c j a = sym (met-distance g i (sound D) s R.seen quiet over j a (all_met c j a) ∙ rw (quiet j a) refl)

        abbrev entry : ℕ → ℕ
        entry j = cond (ltb j g.atoms) (distance g i (suc j)) 0

        row_is : connected g ≡ true → row ≡ row_of g i
        unfolding row_of
        row_is c =
            ext_get_or 0 row (table most_atoms entry) (R.size ∙ sym (length-table most_atoms entry))
            (λ j l. let k : j < most_atoms = omega (arith, R.size) in at j (dec_lt j g.atoms) ∙ sym (get_or-table most_atoms entry j 0 k))
          where
            at : (j : ℕ) → Dec (j < g.atoms) → get_or row j 0 ≡ entry j
            at j (yes h) =
                let e : suc j - 1 ≡ j = omega arith in
                rw (lt-ltb j g.atoms h) (subst (λ (x : ℕ). get_or row x 0 ≡ distance g i (suc j)) e (entry_is c (suc j) (omega arith)))
            at j (no h) = rw (le-ltb j g.atoms (omega arith)) (R.behind j (omega arith))

        pub run_end : (connected g ≡ true → d ≡ farthest g i + 1) → Searched g i row rest (d - 1)
        run_end deep = record { whole = whole; apart = apart; far = row_is; deep = λ c. omega (arith, deep c) }

    -- no atom waits, and one level deeper none does: the level before is the last
    module _ (row : List ℕ) (rest level next d : ℕ) (R : Running row rest level next d) (none : level ≡ 0) (out : bit_and next rest ≡ 0) where
      pub run_over : (u : ℕ) → Within g.atoms u × (cond (has level u) d (get_or row (u - 1) 0) ≡ d) → Over 0 (d + 1)
      run_over u (a, e) = record { ended = refl; some = omega arith; deep = λ c. omega (arith, last c) }
        where
          met : connected g ≡ true → (v : ℕ) → Within g.atoms v → not (has (bit_xor rest (bit_and next rest)) v) ≡ true
          met c = all_met row (bit_xor rest (bit_and next rest)) (bit_and next rest) 0 (d + 1) (run_deeper row rest level next d R none) out refl c

          last : connected g ≡ true → farthest g i ≡ d
          last c =
              last_level g i (sound D) (view row rest level next d) R.seen (quiet row rest level next d R none)
              (view row (bit_xor rest (bit_and next rest)) (bit_and next rest) 0 (d + 1)) (deepens row rest level next d R none)
              (λ v b. ap (λ (x : ℕ). has x v) out ∙ has-none v) (met c) u a e

-- How a tally grows by one distance. Assumes nothing.
use Prim.Native.Nat.{ℕ, suc, ◌+◌, ◌-◌, ◌*◌, ◌%◌, ◌≤◌}
use mathlib.Core.Bool.{Bool, true, false, cond}
use mathlib.Core.List.{List}
use mathlib.Core.Path.{◌≡◌, refl, ◌∙◌}
use native.Mathlib.Decide.{ℕ_discrete}
use native.Mathlib.Numerals.{add-one}
use native.Mathlib.Omega.{arith}
use borrow.Author.Tests.{eq-eqb, ne_eqb}
use lib.Dec.{eqb}
use lib.ListN.{get_or}
use mir.Val.{bool_byte}
use Rattle.graph.specs.Graph.{sum, even_of, odd_of, even_one, odd_one, is_at}
use Rattle.block.specs.Sums.{entry}
use Rattle.block.specs.Tally.{tally_by, Tallied, run_at}
use Rattle.block.specs.declared.Tally.{Tally}

-- a test as a number
pub bit_low : (b : Bool) → bool_byte b ≤ 1
bit_low true = omega arith
bit_low false = omega arith

bit_cond : (b : Bool) → bool_byte b ≡ cond b 1 0
bit_cond true = refl
bit_cond false = refl

pub bit_at : (k d : ℕ) → bool_byte (eqb d k) ≡ is_at k d
unfolding is_at
bit_at k d = bit_cond (eqb d k)

-- the parts of an even distance, and of an odd one
record Parts (d even odd evens odds : ℕ) : Type 0 where
  even_is : even_of d ≡ even
  odd_is : odd_of d ≡ odd
  evens_is : even_one d ≡ evens
  odds_is : odd_one d ≡ odds

parts_even : (d : ℕ) → d % 2 ≡ 0 → Parts d d 0 1 0
unfolding even_of odd_of even_one odd_one
parts_even d e = let b = eq-eqb (d % 2) 0 e in record { even_is = rw b; odd_is = rw b; evens_is = rw b; odds_is = rw b }

parts_odd : (d : ℕ) → (d % 2 ≡ 0 → ⊥) → Parts d 0 d 0 1
unfolding even_of odd_of even_one odd_one
parts_odd d e = let b = ne_eqb (d % 2) 0 e in record { even_is = rw b; odd_is = rw b; evens_is = rw b; odds_is = rw b }

-- t and the distance d
abbrev grown : Tally → ℕ → Tally
grown t d = record {
  even = t.even + even_of d;
  odd = t.odd + odd_of d;
  evens = t.evens + even_one d;
  odds = t.odds + odd_one d;
  ones = t.ones + is_at 1 d;
  twos = t.twos + is_at 2 d;
}

pub tally_none : (row : List ℕ) → Tallied row 0 (record { even = 0; odd = 0; evens = 0; odds = 0; ones = 0; twos = 0 })
unfolding tally_by sum
tally_none row = record { equal = refl; low = omega arith }

module _ (row : List ℕ) (j : ℕ) (t : Tally) (T : Tallied row j t) (d : ℕ) (e : d ≡ get_or row j 0) (l : d ≤ 255) where
  grown_is : grown t d ≡ tally_by (j + 1) (entry row)
  unfolding tally_by sum
  grown_is =
      let k : suc j - 1 ≡ j = omega arith in
      rw (add-one j, T.equal, k, e)

  abbrev byte : ℕ → ℕ
  byte k = bool_byte (eqb d k)

  -- what the code adds, with the parts a, b, c, f of d
  module _ (a b c f : ℕ) (P : Parts d a b c f) (la : a ≤ 255) (lb : b ≤ 255) (lc : c ≤ 1) (lf : f ≤ 1) where
    abbrev next : Tally
    next = record {
      even = t.even + a;
      odd = t.odd + b;
      evens = t.evens + c;
      odds = t.odds + f;
      ones = t.ones + byte 1;
      twos = t.twos + byte 2;
    }

    next-grown : next ≡ grown t d
    next-grown = rw (P.even_is, P.odd_is, P.evens_is, P.odds_is, ← bit_at 1 d, ← bit_at 2 d)

    tallied : Tallied row (j + 1) next
    tallied = record { equal = next-grown ∙ grown_is; low = let B = T.low in omega (arith, bit_low (eqb d 1), bit_low (eqb d 2)) }

  drop_zero : (x : ℕ) → x ≡ x + 0
  drop_zero x = omega arith

  pub tally_even : d % 2 ≡ 0 → Tallied row (j + 1) (record { even = t.even + d; odd = t.odd; evens = t.evens + 1; odds = t.odds; ones = t.ones + byte 1; twos = t.twos + byte 2 })
  tally_even p = rw (drop_zero t.odd, drop_zero t.odds) (tallied d 0 1 0 (parts_even d p) l (omega arith) (omega arith) (omega arith))

  pub tally_odd : (d % 2 ≡ 0 → ⊥) → Tallied row (j + 1) (record { even = t.even; odd = t.odd + d; evens = t.evens; odds = t.odds + 1; ones = t.ones + byte 1; twos = t.twos + byte 2 })
  tally_odd p = rw (drop_zero t.even, drop_zero t.evens) (tallied 0 d 0 1 (parts_odd d p) (omega arith) l (omega arith) (omega arith))

-- a distance times its last binary digit
pub odd_low : (d : ℕ) → d * (d % 2) ≤ d
odd_low d = elim (ℕ_discrete (d % 2) 0) [ yes e ↦ rw e (omega arith) | no e ↦ let o : d % 2 ≡ 1 = omega arith in rw o (omega arith) ]

pub run_here : (h : List ℕ) (from j : ℕ) → get_or h (from + j) 0 ≡ run_at h from (suc j)
run_here h from j = let k : suc j - 1 ≡ j = omega arith in rw k

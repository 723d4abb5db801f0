-- Laws. The joining rules give what joined tables say. Assumes nothing.
use Prim.Native.Nat.{ℕ, ◌+◌, ◌*◌, ◌≤◌, max}
use Rattle.std.specs.Prelude.{Bool, true, false, cond, List, ◌≡◌}
use Rattle.std.proofs.Math.Path.{refl, ap₂}
use Rattle.std.proofs.Common.{sym, ◌∙◌, ap, arith}
use Rattle.graph.specs.Graph.{is_even, itself, even_of, odd_of, even_one, odd_one, is_at}
use Rattle.graph.specs.Sums.{sum_cong, sum_add, sum_pairs_cong, sum_pairs_add}
use Rattle.graph.specs.Parts.{parts_of}
use Rattle.joining.specs.Table.{Table, total_by, seen_by, farthest_by, six_of, sight_by, sight_of, joined_by}
use Rattle.graph.specs.Splits.{Term, Splits, products, splits_even, splits_odd, splits_even_one, splits_odd_one, splits_at0, splits_at1, splits_at2, splits_at3}
use Rattle.joining.specs.Rules.{seen_first, seen_second, total-joined, farthest_first, farthest_second, largest-joined}
use Rattle.joining.specs.Parts.{even_beyond, odd_beyond, beyond, both, grow, even_across, odd_across, join_six}
use Rattle.block.specs.declared.Indices.{Indices}
use Rattle.block.specs.declared.Vertex.{Vertex}

-- one record's fields for another's
pub same_sight : {v w : Vertex} → v.sum ≡ w.sum → v.even ≡ w.even → v.odd ≡ w.odd → v.evens ≡ w.evens → v.odds ≡ w.odds → v.ones ≡ w.ones → v.twos ≡ w.twos → v.farthest ≡ w.farthest → v ≡ w
same_sight {v} {w} s a b c d e f g = rw (s, a, b, c, d, e, f, g)

pub same_six : {v w : Indices} → v.atoms ≡ w.atoms → v.w ≡ w.w → v.even ≡ w.even → v.odd ≡ w.odd → v.polarity ≡ w.polarity → v.largest ≡ w.largest → v ≡ w
same_six {v} {w} a b c d e f = rw (a, b, c, d, e, f)

-- by the parity of d
even_by : (t : Bool) (d ev od e o : ℕ)
    → cond t d 0 * od + (cond t 1 0 * od + (cond t 1 0 * o + (cond t 0 d * ev + (cond t 0 1 * ev + (cond t 0 1 * e + 0))))) ≡ cond t ((d + 1) * od + o) ((d + 1) * ev + e)
even_by true d ev od e o = omega arith
even_by false d ev od e o = omega arith

odd_by : (t : Bool) (d ev od e o : ℕ)
    → cond t d 0 * ev + (cond t 1 0 * ev + (cond t 1 0 * e + (cond t 0 d * od + (cond t 0 1 * od + (cond t 0 1 * o + 0))))) ≡ cond t ((d + 1) * ev + e) ((d + 1) * od + o)
odd_by true d ev od e o = omega arith
odd_by false d ev od e o = omega arith

evens_by : (t : Bool) (ev od : ℕ) → cond t 1 0 * od + (cond t 0 1 * ev + 0) ≡ cond t od ev
evens_by true ev od = omega arith
evens_by false ev od = omega arith

odds_by : (t : Bool) (ev od : ℕ) → cond t 1 0 * ev + (cond t 0 1 * od + 0) ≡ cond t ev od
odds_by true ev od = omega arith
odds_by false ev od = omega arith

-- what an atom counts grows by what is counted at the other end
grown : (new old other : (ℕ → ℕ) → ℕ) (d f h : ℕ) → ((u : ℕ → ℕ) (ts : List Term) → Splits u ts → new u ≡ old u + products ts (λ w. w d) other)
    → other (is_at 0) ≡ 1 → new itself ≡ new even_of + new odd_of → old itself ≡ old even_of + old odd_of → sight_by new (max f (d + 1 + h)) ≡ grow (sight_by old f) d (sight_by other h)
unfolding products grow both beyond even_beyond odd_beyond even_of odd_of even_one odd_one
grown new old other d f h law z n o =
    let even = law even_of _ splits_even ∙ ap (λ (x : ℕ). old even_of + x) (even_by (is_even d) d (other even_one) (other odd_one) (other even_of) (other odd_of)) in
    let odd = law odd_of _ splits_odd ∙ ap (λ (x : ℕ). old odd_of + x) (odd_by (is_even d) d (other even_one) (other odd_one) (other even_of) (other odd_of)) in
    same_sight
    (omega (arith, n, o, even, odd))
    even
    odd
    (law even_one _ splits_even_one ∙ ap (λ (x : ℕ). old even_one + x) (evens_by (is_even d) (other even_one) (other odd_one)))
    (law odd_one _ splits_odd_one ∙ ap (λ (x : ℕ). old odd_one + x) (odds_by (is_even d) (other even_one) (other odd_one)))
    (law (is_at 1) _ splits_at1 ∙ ap (λ (x : ℕ). old (is_at 1) + x) (rw z (omega arith)))
    (law (is_at 2) _ splits_at2 ∙ ap (λ (x : ℕ). old (is_at 2) + x) (rw z (omega arith)))
    refl

-- a vertex sum, and W, in their two parts
seen_parts : (t : Table) (a : ℕ) → seen_by t a itself ≡ seen_by t a even_of + seen_by t a odd_of
unfolding seen_by
seen_parts t a = sum_cong t.atoms (λ j w. sym (parts_of.parts (t.far a j))) ∙ sum_add t.atoms (λ j. even_of (t.far a j)) (λ j. odd_of (t.far a j))

pub total_parts : (t : Table) → total_by t itself ≡ total_by t even_of + total_by t odd_of
unfolding total_by
total_parts t =
    sum_pairs_cong t.atoms (λ i j w v. sym (parts_of.parts (t.far i j))) ∙ sum_pairs_add t.atoms (λ i j. even_of (t.far i j)) (λ i j. odd_of (t.far i j))

module _ (s t : Table) (a b : ℕ) where
  pub sight_first : (c : ℕ) → c ≤ s.atoms → 1 ≤ t.atoms → seen_by t b (is_at 0) ≡ 1 → sight_of (joined_by s t a b) c ≡ grow (sight_of s c) (s.far a c) (sight_of t b)
  sight_first c h p z =
      ap (sight_by (seen_by (joined_by s t a b) c)) (farthest_first s t a b c h p)
      ∙ grown (seen_by (joined_by s t a b) c) (seen_by s c) (seen_by t b) (s.far a c) (farthest_by s c) (farthest_by t b)
      (λ f ts law. seen_first s t a b law c h) z (seen_parts (joined_by s t a b) c) (seen_parts s c)

  pub sight_second : (c : ℕ) → 1 ≤ c → 1 ≤ s.atoms → seen_by s a (is_at 0) ≡ 1 → sight_of (joined_by s t a b) (s.atoms + c) ≡ grow (sight_of t c) (t.far b c) (sight_of s a)
  sight_second c h p z =
      ap (sight_by (seen_by (joined_by s t a b) (s.atoms + c))) (farthest_second s t a b c h p)
      ∙ grown (seen_by (joined_by s t a b) (s.atoms + c)) (seen_by t c) (seen_by s a) (t.far b c) (farthest_by t c) (farthest_by s a)
      (λ f ts law. seen_second s t a b law c h) z (seen_parts (joined_by s t a b) (s.atoms + c)) (seen_parts t c)

  -- who is alone at 0 stays so
  pub alone_first : (c : ℕ) → c ≤ s.atoms → seen_by (joined_by s t a b) c (is_at 0) ≡ seen_by s c (is_at 0)
  unfolding products
  alone_first c h = omega (arith, seen_first s t a b splits_at0 c h)

  pub alone_second : (c : ℕ) → 1 ≤ c → seen_by (joined_by s t a b) (s.atoms + c) (is_at 0) ≡ seen_by t c (is_at 0)
  unfolding products
  alone_second c h = omega (arith, seen_second s t a b splits_at0 c h)

module _ (s t : Table) (a b : ℕ) where
  even_joined : total_by (joined_by s t a b) even_of ≡ total_by s even_of + total_by t even_of + even_across (sight_of s a) (sight_of t b)
  unfolding products even_across
  even_joined = omega (arith, total-joined s t a b splits_even)

  odd_joined : total_by (joined_by s t a b) odd_of ≡ total_by s odd_of + total_by t odd_of + odd_across (sight_of s a) (sight_of t b)
  unfolding products odd_across
  odd_joined = omega (arith, total-joined s t a b splits_odd)

  pub six_joined : 1 ≤ s.atoms → 1 ≤ t.atoms → seen_by s a (is_at 0) ≡ 1 → seen_by t b (is_at 0) ≡ 1
      → six_of (joined_by s t a b) ≡ join_six (six_of s) (six_of t) (sight_of s a) (sight_of t b)
  unfolding products join_six six_of joined_by
  six_joined p q y z =
      same_six refl
      (total_parts (joined_by s t a b) ∙ ap₂ ◌+◌ even_joined odd_joined)
      even_joined
      odd_joined
      (omega (arith, rw (y, z) at (total-joined s t a b splits_at3)))
      (largest-joined s t a b p q)

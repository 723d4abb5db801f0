-- Laws. How sums over distances grow when two molecules are joined: one law for whatever splits over x + 1 + y, and document 000's rules from it. Assumes nothing.
use Prim.Native.Nat.{ℕ, ◌+◌, ◌*◌}
use Rattle.std.specs.Prelude.{List, ◌≡◌}
use Rattle.std.proofs.Common.{◌∙◌}
use Rattle.std.proofs.Math.Path.{ap, ap₂}
use native.Mathlib.Omega.{arith}
use Rattle.graph.specs.Graph.{Graph, Within, Molecule, distance, itself, each, even_of, odd_of, even_one, odd_one, is_at, total, vertex, wiener, even_part, odd_part, polarity, vertex_sum, vertex_even, vertex_odd, even_count, odd_count, count_at}
use Rattle.graph.specs.Assembly.{joined}
use Rattle.graph.specs.Distance.{distance_sym}
use Rattle.graph.specs.Sums.{sum_cong, sum_split, sum_const, sum_pairs_cong, sum_pairs_split}
use Rattle.graph.specs.Splits.{Term, Splits, products, products_far, products_near, splits_each, splits_itself, splits_even, splits_odd, splits_even_one, splits_odd_one, splits_at1, splits_at2, splits_at3}
use Rattle.graph.specs.Join.{distance_first, distance_second, distance_cross}
use Rattle.graph.proofs.JoinLaws.{distance_back}
use Rattle.graph.specs.Rules.{Grown}

module _ {g h : Graph} {a b : ℕ} (mg : Molecule g) (mh : Molecule h) (ha : Within g.atoms a) (hb : Within h.atoms b) {f : ℕ → ℕ} {ts : List Term} (s : Splits f ts) where
  -- a sum over all atoms, seen from an atom of g
  vertex_first : {c : ℕ} → Within g.atoms c → vertex (joined g h a b) c f ≡ vertex g c f + products ts (λ u. u (distance g a c)) (vertex h b)
  unfolding joined vertex
  vertex_first {c} hc =
      sum_split g.atoms h.atoms (λ j. f (distance (joined g h a b) c j))
      ∙ ap₂ ◌+◌ (sum_cong g.atoms (λ j w. ap f (distance_first mg mh ha hb hc w)))
      (sum_cong h.atoms (λ j w. ap f (distance_cross mg mh ha hb hc w ∙ ap (λ (x : ℕ). x + 1 + distance h b j) (distance_sym mg hc ha)) ∙ s.across (distance g a c) (distance h b j))
      ∙ products_far ts (λ u. u (distance g a c)) h.atoms (distance h b))

  -- and from an atom of h
  vertex_second : {c : ℕ} → Within h.atoms c → vertex (joined g h a b) (g.atoms + c) f ≡ vertex h c f + products ts (λ u. u (distance h b c)) (vertex g a)
  unfolding joined vertex
  vertex_second {c} hc =
      sum_split g.atoms h.atoms (λ j. f (distance (joined g h a b) (g.atoms + c) j))
      ∙ ap₂ ◌+◌
      (sum_cong g.atoms (λ j w. ap f (distance_back mg mh ha hb hc w ∙ ap (λ (x : ℕ). x + 1 + distance g a j) (distance_sym mh hc hb)) ∙ s.across (distance h b c) (distance g a j))
      ∙ products_far ts (λ u. u (distance h b c)) g.atoms (distance g a))
      (sum_cong h.atoms (λ j w. ap f (distance_second mg mh ha hb hc w)))
      ∙ omega arith

  -- the sum over all pairs
  total-joined : total (joined g h a b) f ≡ total g f + total h f + products ts (vertex g a) (vertex h b)
  unfolding joined total vertex
  total-joined =
      sum_pairs_split g.atoms h.atoms (λ i j. f (distance (joined g h a b) i j))
      ∙ ap₂ ◌+◌ (ap₂ ◌+◌ (sum_pairs_cong g.atoms (λ i j w v. ap f (distance_first mg mh ha hb w v))) (sum_pairs_cong h.atoms (λ i j w v. ap f (distance_second mg mh ha hb w v))))
      (sum_cong g.atoms (λ i w. sum_cong h.atoms (λ j v. ap f (distance_cross mg mh ha hb w v ∙ ap (λ (x : ℕ). x + 1 + distance h b j) (distance_sym mg w ha)) ∙ s.across (distance g a i) (distance h b j))
      ∙ products_far ts (λ u. u (distance g a i)) h.atoms (distance h b))
      ∙ products_near ts (vertex h b) g.atoms (distance g a))

vertex-each : (g : Graph) (a : ℕ) → vertex g a each ≡ g.atoms
unfolding vertex
vertex-each g a = sum_const g.atoms 1 ∙ omega arith

-- Document 000's rules for the whole molecule, as document 01 states them.
module _ {g h : Graph} {a b : ℕ} (mg : Molecule g) (mh : Molecule h) (ha : Within g.atoms a) (hb : Within h.atoms b) where
  pub wiener-joined : wiener (joined g h a b) ≡ wiener g + wiener h + h.atoms * vertex_sum g a + g.atoms * h.atoms + g.atoms * vertex_sum h b
  unfolding products
  wiener-joined = omega (arith, rw (vertex-each g a, vertex-each h b) at (total-joined mg mh ha hb splits_itself))

  pub even_joined : even_part (joined g h a b) ≡ even_part g + even_part h
      + vertex_even g a * odd_count h b + even_count g a * odd_count h b + even_count g a * vertex_odd h b
      + vertex_odd g a * even_count h b + odd_count g a * even_count h b + odd_count g a * vertex_even h b
  unfolding products
  even_joined = omega (arith, total-joined mg mh ha hb splits_even)

  pub odd_joined : odd_part (joined g h a b) ≡ odd_part g + odd_part h
      + vertex_even g a * even_count h b + even_count g a * even_count h b + even_count g a * vertex_even h b
      + vertex_odd g a * odd_count h b + odd_count g a * odd_count h b + odd_count g a * vertex_odd h b
  unfolding products
  odd_joined = omega (arith, total-joined mg mh ha hb splits_odd)

  pub polarity-joined : polarity (joined g h a b) ≡ polarity g + polarity h
      + count_at g a 0 * count_at h b 2 + count_at g a 1 * count_at h b 1 + count_at g a 2 * count_at h b 0
  unfolding products
  polarity-joined = omega (arith, total-joined mg mh ha hb splits_at3)

grown : (new old other : (ℕ → ℕ) → ℕ) (d : ℕ) → ((f : ℕ → ℕ) (ts : List Term) → Splits f ts → new f ≡ old f + products ts (λ u. u d) other) → Grown new old other d
unfolding products
grown new old other d law = record {
  atoms = omega (arith, law _ _ splits_each);
  sums = omega (arith, law _ _ splits_itself);
  evens = omega (arith, law _ _ splits_even);
  odds = omega (arith, law _ _ splits_odd);
  even_counts = omega (arith, law _ _ splits_even_one);
  odd_counts = omega (arith, law _ _ splits_odd_one);
  at_1 = omega (arith, law _ _ splits_at1);
  at_2 = omega (arith, law _ _ splits_at2);
}

module _ {g h : Graph} {a b : ℕ} (mg : Molecule g) (mh : Molecule h) (ha : Within g.atoms a) (hb : Within h.atoms b) where
  pub grown_first : {c : ℕ} → Within g.atoms c → Grown (vertex (joined g h a b) c) (vertex g c) (vertex h b) (distance g a c)
  grown_first {c} hc = grown (vertex (joined g h a b) c) (vertex g c) (vertex h b) (distance g a c) (λ f ts s. vertex_first mg mh ha hb s hc)

  pub grown_second : {c : ℕ} → Within h.atoms c → Grown (vertex (joined g h a b) (g.atoms + c)) (vertex h c) (vertex g a) (distance h b c)
  grown_second {c} hc = grown (vertex (joined g h a b) (g.atoms + c)) (vertex h c) (vertex g a) (distance h b c) (λ f ts s. vertex_second mg mh ha hb s hc)

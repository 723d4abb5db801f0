-- Laws. Two molecules that differ only in the numbering of their atoms: distances follow their atoms, so all sums over distances are the same. Assumes nothing.
use Rattle.std.specs.Prelude.{ℕ, ◌≤◌, ◌≡◌}
use Rattle.std.proofs.Common.{sym, ◌∙◌, ap₂, subst₂, arith}
use Rattle.std.proofs.Math.Path.{ap}
use Rattle.graph.specs.Graph.{Graph, Walk, Within, Molecule, bonded, distance, itself, even_of, odd_of, is_at, total, vertex}
use Rattle.graph.specs.Graph.Walk.{stay, step}
use Rattle.graph.specs.Farthest.{farthest, largest}
use Rattle.graph.specs.Bonds.{same_test}
use Rattle.graph.specs.Distance.{distance_shortest, distance_sym}
use Rattle.graph.specs.Largest.{largest_is}
use Rattle.block.specs.Index.{indices_of}
use Rattle.graph.proofs.MatchedLaws.{turned, same_size, sum_same, pairs_same, most_same}
use Rattle.renumbered.specs.Renumbered.{Renumbered}

-- it may be read the other way
abbrev pub reversed : {g h : Graph} → Renumbered g h → Renumbered h g
reversed r = record { numbers = turned r.numbers; carried = r.brought; brought = r.carried }

-- two atoms are bonded exactly where their partners are
pub same_bonded : {g h : Graph} (r : Renumbered g h) (u v : ℕ) → Within g.atoms u → Within g.atoms v → bonded g u v ≡ bonded h (r.numbers.to u) (r.numbers.to v)
same_bonded {g} {h} r u v hu hv =
    let p = r.numbers in
    same_test (bonded g u v) (bonded h (p.to u) (p.to v)) (r.carried u v)
    (λ e. sym (ap₂ (bonded g) (p.home u hu) (p.home v hv)) ∙ r.brought (p.to u) (p.to v) e)

-- a walk on one is a walk on the other
pub walk_to : {g h : Graph} {i j k : ℕ} (r : Renumbered g h) → Walk g i j k → Walk h (r.numbers.to i) (r.numbers.to j) k
walk_to r stay = stay
walk_to r (step {v = v} {w = w} p b) = step (walk_to r p) (r.carried v w b)

module _ {g h : Graph} (m : Molecule g) (w : Molecule h) (r : Renumbered g h) where
  pub same_atoms : g.atoms ≡ h.atoms
  same_atoms = same_size r.numbers

  module _ {i j : ℕ} (hi : Within g.atoms i) (hj : Within g.atoms j) where
    not_less : distance h (r.numbers.to i) (r.numbers.to j) ≤ distance g i j
    not_less = (distance_shortest w (r.numbers.there i hi) (r.numbers.there j hj)).least _ (walk_to r (distance_shortest m hi hj).walk)

    not_more : distance g i j ≤ distance h (r.numbers.to i) (r.numbers.to j)
    not_more =
        (distance_shortest m hi hj).least _
        (subst₂ (λ (u v : ℕ). Walk g u v (distance h (r.numbers.to i) (r.numbers.to j))) (r.numbers.home i hi) (r.numbers.home j hj)
        (walk_to (reversed r) (distance_shortest w (r.numbers.there i hi) (r.numbers.there j hj)).walk))

    -- THE LAW: distances follow their atoms
    pub same_distance : distance g i j ≡ distance h (r.numbers.to i) (r.numbers.to j)
    same_distance = omega (arith, not_less, not_more)

  -- so W, even part, odd part, polarity and the number of pairs at each distance are the same
  pub same_total : (f : ℕ → ℕ) → total g f ≡ total h f
  unfolding total
  same_total f =
      pairs_same r.numbers (λ i j. f (distance h i j)) (record { either = λ i j x y. ap f (distance_sym w x y) }) (λ i j x y. ap f (same_distance x y))

  -- and all vertex sums and counts follow their atom
  pub same_vertex : (f : ℕ → ℕ) {a : ℕ} → Within g.atoms a → vertex g a f ≡ vertex h (r.numbers.to a) f
  unfolding vertex
  same_vertex f {a} x = sum_same r.numbers (λ j. f (distance h (r.numbers.to a) j)) (λ j y. ap f (same_distance x y))

  -- the largest distance from an atom, and of all
  pub same_farthest : {a : ℕ} → Within g.atoms a → farthest g a ≡ farthest h (r.numbers.to a)
  unfolding farthest
  same_farthest {a} x = most_same r.numbers (distance h (r.numbers.to a)) (λ j y. same_distance x y)

  pub same_largest : largest g ≡ largest h
  same_largest = largest_is m ∙ most_same r.numbers (farthest h) (λ i x. same_farthest x) ∙ sym (largest_is w)

  -- THE SAME SHEET: all numbers that a sheet of either kind is made of
  pub same_indices : indices_of g ≡ indices_of h
  unfolding indices_of
  same_indices = λ i. record {
    atoms = same_atoms i;
    w = same_total itself i;
    even = same_total even_of i;
    odd = same_total odd_of i;
    polarity = same_total (is_at 3) i;
    largest = same_largest i;
  }

-- Laws. What bonds give follows its bond, and the sum over the bonds is the same: Szeged terms, what bonds bring to J, and both indices. Assumes nothing.
use Prim.Native.Nat.{ℕ, ◌+◌, ◌*◌, ◌-◌, ◌/◌}
use Rattle.std.specs.Prelude.{Bool, List, [], ◌∷◌, ◌≡◌, refl, ltb, length}
use Rattle.std.proofs.Math.Bool.{cond}
use Rattle.std.proofs.Common.{⊎_elim, ◌∙◌, arith}
use Rattle.std.proofs.Math.Path.{sym, ap, ap₂}
use Rattle.std.proofs.Math.Nat.{mul_comm}
use Rattle.graph.specs.Graph.{Graph, Bond, bond, Within, Molecule, any_joins, bonded, itself, vertex, sum_bonds}
use Rattle.graph.specs.Bonds.{joins_out, any_joins_sym}
use Rattle.graph.specs.Notions.{Plain}
use Rattle.szeged.specs.Szeged.{closer, nearer, szeged_term, szeged}
use Rattle.balaban.specs.Balaban.{bound, largest_root, term, divisor, reckoned}
use Rattle.renumbered.specs.Renumbered.{Renumbered, Partners}
use Rattle.graph.proofs.MatchedLaws.{sum_same, pairs_same}
use Rattle.graph.specs.BondPairs.{of_ends, over_pairs}
use Rattle.renumbered.proofs.Distances.{same_bonded, same_atoms, same_distance, same_vertex}
use Rattle.renumbered.specs.Bonds.{Alike}

-- then it follows the bond
pub follows : {g h : Graph} (r : Renumbered g h) {f k : Bond → ℕ} → Alike r f k → (e c : Bond) → Within g.atoms e.one → Within g.atoms e.two → Partners r e c → f e ≡ k c
follows r {f} {k} a e c x y j =
    let p = r.numbers in
    a.same e.one e.two x y
    ∙ ⊎_elim (λ q. ap₂ (of_ends k) (sym q.0) (sym q.1))
    (λ q. a.swaps.either (p.to e.one) (p.to e.two) (p.there e.one x) (p.there e.two y) ∙ ap₂ (of_ends k) (sym q.0) (sym q.1))
    (joins_out c (p.to e.one) (p.to e.two) j)

-- every bond counted once
each_once : (bs : List Bond) → sum_bonds bs (λ b. 1) ≡ length bs
unfolding sum_bonds
each_once [] = refl
each_once (b ∷ bs) = omega (arith, each_once bs)

module _ {g h : Graph} (pg : Plain g.atoms g.bonds) (ph : Plain h.atoms h.bonds) (r : Renumbered g h) where
  -- THE LAW: and its sum over the bonds is the same
  pub same_over : {f k : Bond → ℕ} → Alike r f k → sum_bonds g.bonds f ≡ sum_bonds h.bonds k
  unfolding bonded
  same_over {f} {k} a =
      let p = r.numbers in
      over_pairs g.atoms g.bonds pg f (record {
        either = λ u v x y. a.same u v x y ∙ a.swaps.either (p.to u) (p.to v) (p.there u x) (p.there v y) ∙ sym (a.same v u y x);
      })
      ∙ pairs_same p (λ i j. cond (any_joins h.bonds i j) (k (bond i j)) 0)
      (record { either = λ i j x y. ap₂ (λ (t : Bool) (b : ℕ). cond t b 0) (any_joins_sym h.bonds i j) (a.swaps.either i j x y) })
      (λ i j x y. ap₂ (λ (t : Bool) (b : ℕ). cond t b 0) (same_bonded r i j x y) (a.same i j x y))
      ∙ sym (over_pairs h.atoms h.bonds ph k a.swaps)

  -- there are as many bonds
  pub same_bonds : length g.bonds ≡ length h.bonds
  same_bonds =
      sym (each_once g.bonds)
      ∙ same_over {f = λ b. 1} {k = λ b. 1} (record { swaps = record { either = λ u v x y. refl }; same = λ u v x y. refl })
      ∙ each_once h.bonds

module _ {g h : Graph} (m : Molecule g) (w : Molecule h) (r : Renumbered g h) where
  -- how many atoms are nearer to one of two atoms than to the other
  same_nearer : {u v : ℕ} → Within g.atoms u → Within g.atoms v → nearer g u v ≡ nearer h (r.numbers.to u) (r.numbers.to v)
  unfolding nearer closer
  same_nearer {u} {v} x y =
      let p = r.numbers in
      sum_same p (closer h (p.to u) (p.to v)) (λ z a. ap₂ (λ (i j : ℕ). cond {A = ℕ} (ltb i j) 1 0) (same_distance m w r a x) (same_distance m w r a y))

  -- the term of a bond in the Szeged index
  pub alike_szeged : Alike r (szeged_term g) (szeged_term h)
  unfolding szeged_term
  alike_szeged = record {
    swaps = record { either = λ u v x y. mul_comm (nearer h u v) (nearer h v u) };
    same = λ u v x y. ap₂ ◌*◌ (same_nearer x y) (same_nearer y x);
  }

  -- what a bond brings to J
  pub alike_balaban : (K : ℕ) → Alike r (term K g) (term K h)
  unfolding term
  alike_balaban K = record {
    swaps = record { either = λ u v x y. ap (largest_root (bound K)) (mul_comm (vertex h u itself) (vertex h v itself)) };
    same = λ u v x y. ap₂ (λ (a b : ℕ). largest_root (bound K) (a * b)) (same_vertex m w r itself x) (same_vertex m w r itself y);
  }

  module _ (pg : Plain g.atoms g.bonds) (ph : Plain h.atoms h.bonds) where
    pub same_szeged : szeged g ≡ szeged h
    same_szeged = same_over pg ph r alike_szeged

    same_divisor : divisor g ≡ divisor h
    same_divisor = ap₂ (λ (a b : ℕ). a + 2 - b) (same_bonds pg ph r) (same_atoms m w r)

    -- J, reckoned however finely
    pub same_balaban : (K : ℕ) → reckoned K g ≡ reckoned K h
    unfolding reckoned
    same_balaban K = ap₂ ◌/◌ (ap₂ ◌*◌ (same_bonds pg ph r) (same_over pg ph r (alike_balaban K))) same_divisor

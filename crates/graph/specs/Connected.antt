-- Laws. `connected` holds exactly where every two atoms have a walk, of whatever length. Assumes nothing.
use Prim.Native.Nat.{ℕ, zero, suc, ◌+◌}
use Rattle.std.specs.Prelude.{Bool, true, false, ◌↔◌, ◌≡◌, refl, ltb}
use Rattle.std.proofs.Common.{⊎_elim, ◌∙◌, ap, arith, ltb-true, lt-ltb}
use Rattle.std.proofs.Math.Nat.{le-suc_iff}
use Rattle.graph.specs.Graph.{Graph, Walk, Within, Sound, Molecule, distance, all_atoms, connected}
use Rattle.graph.specs.Bonds.{both, both_true}
use Rattle.graph.specs.Walk.{concat, reverse}
use Rattle.graph.specs.Distance.{not_true, walk_of_distance, distance_below}
use Rattle.graph.specs.Sums.{wider, last}

-- a test on all atoms, as facts
pub all_out : (n : ℕ) (p : ℕ → Bool) → all_atoms n p ≡ true → (v : ℕ) → Within n v → p v ≡ true
unfolding all_atoms
all_out zero p e v w = absurd (omega arith)
all_out (suc n) p e v w =
    let r = both (p (suc n)) (all_atoms n p) e in
    ⊎_elim (λ q. all_out n p r.1 v (record { low = w.low; high = q })) (λ q. ap p q ∙ r.0) (le-suc_iff.0 w.high)

all_in : (n : ℕ) (p : ℕ → Bool) → ((v : ℕ) → Within n v → p v ≡ true) → all_atoms n p ≡ true
unfolding all_atoms
all_in zero p h = refl
all_in (suc n) p h = both_true (p (suc n)) (all_atoms n p) (h (suc n) (last n)) (all_in n p (λ v w. h v (wider w)))

-- every two atoms have a walk
pub record Linked (g : Graph) : Type 0 where
  pub linked : (i j : ℕ) → Within g.atoms i → Within g.atoms j → (k : ℕ) × Walk g i j k

module _ {g : Graph} (s : Sound g) where
  pub connected_is_linked : (connected g ≡ true) ↔ Linked g
  unfolding connected
  connected_is_linked = (out, into)
    where
      n : ℕ
      n = g.atoms

      near : ℕ → ℕ → Bool
      near i j = ltb (distance g i j) n

      out : all_atoms n (λ i. all_atoms n (near i)) ≡ true → Linked g
      out e = record {
        linked = λ i j wi wj. (
          distance g i j,
          walk_of_distance g i j (ltb-true (distance g i j) n (all_out n (near i) (all_out n (λ k. all_atoms n (near k)) e i wi) j wj)),
        );
      }

      into : Linked g → all_atoms n (λ i. all_atoms n (near i)) ≡ true
      into l =
          all_in n (λ i. all_atoms n (near i))
          (λ i wi. all_in n (near i) (λ j wj. lt-ltb (distance g i j) n (distance_below (record { sound = s; linked = l.linked }) wi wj)))

  pub connected_molecule : connected g ≡ true → Molecule g
  connected_molecule e = record { sound = s; linked = (connected_is_linked.0 e).linked }

  -- one atom from which a walk leads to each is enough
  pub connected_from : (o : ℕ) → ((j : ℕ) → Within g.atoms j → (k : ℕ) × Walk g o j k) → connected g ≡ true
  connected_from o h =
      connected_is_linked.1 (record {
        linked = λ i j wi wj. let (k, p) = h i wi in let (l, q) = h j wj in (k + l, concat (reverse p) q);
      })

  -- two atoms without a walk are enough
  pub unconnected : (i j : ℕ) → Within g.atoms i → Within g.atoms j → ((k : ℕ) → Walk g i j k → ⊥) → connected g ≡ false
  unconnected i j wi wj h = not_true (connected g) (λ e. let (k, p) = (connected_is_linked.0 e).linked i j wi wj in h k p)

-- Laws. The bonds that shortest paths use: none farther than the path's end; and a share, start by start. Assumes nothing.
use Rattle.std.specs.Prelude.{ℕ, zero, suc, ◌*◌, ◌/◌, ◌≤◌, Bool, List, ◌⊎◌, ◌≡◌, refl, ltb}
use Rattle.std.proofs.Math.Bool.{true, false, cond}
use Rattle.std.proofs.Common.{inl, inr, ⊎_elim, sym, ◌∙◌, ap₂, mul-le-mul_right}
use Rattle.std.proofs.Math.Path.{ap}
use Rattle.std.proofs.Math.Nat.{le_trans, mul-div-le}
use native.Mathlib.Omega.{arith}
use Rattle.graph.specs.Graph.{Graph, Bond, Within, Molecule, joins, any_joins, distance, sum}
use Rattle.graph.specs.Bonds.{joins_out, any_joins_sym}
use Rattle.graph.specs.Sums.{sum_cong, sum_le, sum_pairs_rows}
use Rattle.graph.specs.Paths.{path_count, paths_using, denominator, share}
use Rattle.graph.specs.Notions.{OnTheWay, weight}
use Rattle.graph.specs.Choices.{cond_right}
use Rattle.graph.specs.Distance.{distance_zero}
use Rattle.graph.specs.Steps.{near_none, using_step, using_self, using_le}

-- a bond that is not in the list again joins no pair that the list joins
pub join_other : (bs : List Bond) (b : Bond) (u v : ℕ) → joins b u v ≡ true → any_joins bs b.one b.two ≡ false → any_joins bs u v ≡ false
join_other bs b u v e d =
    ⊎_elim (λ w. ap₂ (any_joins bs) (sym w.0) (sym w.1) ∙ d)
    (λ w. any_joins_sym bs u v ∙ ap₂ (any_joins bs) (sym w.0) (sym w.1) ∙ d) (joins_out b u v e)

-- of two pairs that one bond joins, each atom of one is in the other
joins_shared : (e : Bond) (v j p q : ℕ) → joins e v j ≡ true → joins e p q ≡ true → (j ≡ p) ⊎ (j ≡ q)
joins_shared e v j p q h k =
    ⊎_elim (λ m. ⊎_elim (λ n. inr (cc)) (λ n. inl (cc)) (joins_out e p q k))
    (λ m. ⊎_elim (λ n. inl (cc)) (λ n. inr (cc)) (joins_out e p q k)) (joins_out e v j h)

module _ {g : Graph} (m : Molecule g) {i : ℕ} (hi : Within g.atoms i) where
  -- a bond that is not all within distance k of i is used by no shortest path of k bonds
  using_none : (e : Bond) (k : ℕ) → ((v w : ℕ) → joins e v w ≡ true → distance g i v ≤ k → distance g i w ≤ k → ⊥)
      → (j : ℕ) → Within g.atoms j → distance g i j ≡ k → paths_using g e i j ≡ 0
  using_none e zero far j hj d = rw (sym (distance_zero m hi hj d)) (using_self m hi e)
  using_none e (suc k) far j hj d =
      using_step m hi e k j d
      ∙ near_none g i j (λ v hv y. go v y (joins e v j) refl (using_none e k (λ p q h l r. far p q h (omega arith) (omega arith)) v hv (omega (arith, y.one))))
    where
      go : (v : ℕ) → OnTheWay g i v j → (t : Bool) → joins e v j ≡ t → paths_using g e i v ≡ 0 → cond t (path_count g i v) (paths_using g e i v) ≡ 0
      go v y true h z = absurd (far v j h (omega (arith, y.one)) (omega (arith, y.one)))
      go v y false h z = z

  -- so the next bond is not used before
  pub using_joined : (e : Bond) (v j : ℕ) → Within g.atoms v → suc (distance g i v) ≡ distance g i j → joins e v j ≡ true → paths_using g e i v ≡ 0
  using_joined e v j hv y h =
      using_none e (distance g i v)
      (λ p q t l r. ⊎_elim (λ w. omega (arith, ap (distance g i) w)) (λ w. omega (arith, ap (distance g i) w)) (joins_shared e v j p q h t)) v hv refl

  -- what a bond answers for from one start is at most D for each atom
  pub start_le : (e : Bond) (d : ℕ) → sum g.atoms (λ j. paths_using g e i j * weight g d i j) ≤ g.atoms * d
  unfolding weight
  start_le e d = sum_le g.atoms (λ j hj. at j (ltb i j))
    where
      at : (j : ℕ) (t : Bool) → paths_using g e i j * cond t (d / path_count g i j) 0 ≤ d
      at j true = le_trans (mul-le-mul_right (d / path_count g i j) (using_le g e i j)) (mul-div-le d (path_count g i j))
      at j false = omega arith

-- a share, start by start
pub share_rows : (g : Graph) (e : Bond) → share g e ≡ sum g.atoms (λ i. sum g.atoms (λ j. paths_using g e i j * weight g (denominator g) i j))
unfolding share weight
share_rows g e =
    sum_pairs_rows g.atoms (λ i j. paths_using g e i j * (denominator g / path_count g i j))
    ∙ sum_cong g.atoms (λ i hi. sum_cong g.atoms (λ j hj. sym (cond_right (ltb i j) (paths_using g e i j) (denominator g / path_count g i j))))

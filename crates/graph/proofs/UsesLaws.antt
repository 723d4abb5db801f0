-- Laws. As many bonds are used as the distance: the shares add up to D times W. Assumes nothing.
use Rattle.std.specs.Prelude.{ℕ, zero, suc, ◌+◌, ◌*◌, ◌/◌, Bool, ◌||◌, List, [], ◌∷◌, ◌≡◌, refl, ltb}
use Rattle.std.proofs.Math.Bool.{true, false, cond}
use Rattle.std.proofs.Common.{sym, ◌∙◌}
use Rattle.std.proofs.Math.Path.{ap}
use Rattle.std.proofs.Math.Nat.{mul-div_cancel'}
use native.Mathlib.Omega.{arith}
use Rattle.graph.specs.Graph.{Graph, Bond, Within, Molecule, joins, any_joins, bonded, distance, sum, sum_bonds, total, wiener}
use Rattle.graph.specs.Sums.{sum_cong, sum_scaled, sum_pairs_rows, sum_pairs_scaled}
use Rattle.graph.specs.BondSums.{bonds_cong, bonds_none, bonds_scaled, bonds_cond, bonds_swap}
use Rattle.graph.specs.Paths.{path_count, paths_using, denominator, share}
use Rattle.graph.specs.Notions.{near, OnTheWay, Plain, weight}
use Rattle.graph.specs.Choices.{cond_left}
use Rattle.graph.specs.Distance.{distance_zero}
use Rattle.graph.specs.Steps.{near_cong, count_step, using_step, using_self}
use Rattle.graph.specs.Backwards.{count_dvd}
use Rattle.graph.specs.Uses.{join_other, using_joined, share_rows}

-- a bond that joins u and v counts c and nothing else; there is one, or none
join_sum : (n : ℕ) (bs : List Bond) → Plain n bs → (u v c : ℕ) (f : Bond → ℕ) → ((e : Bond) → joins e u v ≡ true → f e ≡ 0)
    → sum_bonds bs (λ e. cond (joins e u v) c (f e)) ≡ cond (any_joins bs u v) c 0 + sum_bonds bs f
unfolding sum_bonds any_joins Plain
join_sum n [] p u v c f z = refl
join_sum n (b ∷ bs) p u v c f z = go (joins b u v) refl (join_sum n bs p.2 u v c f z)
  where
    go : (t : Bool) → joins b u v ≡ t → sum_bonds bs (λ e. cond (joins e u v) c (f e)) ≡ cond (any_joins bs u v) c 0 + sum_bonds bs f
        → cond t c (f b) + sum_bonds bs (λ e. cond (joins e u v) c (f e)) ≡ cond (t || any_joins bs u v) c 0 + (f b + sum_bonds bs f)
    go true e h = omega (arith, z b e, ap (λ (t : Bool). cond t c 0) (join_other bs b u v e p.1))
    go false e h = omega arith

module _ {g : Graph} (m : Molecule g) {i : ℕ} (hi : Within g.atoms i) where
  -- a shortest path of k bonds uses k bonds of the list
  using_total : Plain g.atoms g.bonds → (k j : ℕ) → Within g.atoms j → distance g i j ≡ k
      → sum_bonds g.bonds (λ e. paths_using g e i j) ≡ k * path_count g i j
  using_total plain zero j hj d =
      bonds_cong g.bonds (λ e j. rw (sym (distance_zero m hi hj d)) (using_self m hi e)) ∙ bonds_none g.bonds ∙ omega arith
  using_total plain (suc k) j hj d =
      bonds_cong g.bonds (λ e b. using_step m hi e k j d)
      ∙ bonds_swap g.bonds g.atoms (λ e v. cond (near g i v j) (cond (joins e v j) (path_count g i v) (paths_using g e i v)) 0)
      ∙ sum_cong g.atoms (λ v hv. bonds_cond g.bonds (near g i v j) (λ e. cond (joins e v j) (path_count g i v) (paths_using g e i v)))
      ∙ near_cong g i j (λ v hv y. at v hv y (using_total plain k v hv (omega (arith, y.one))))
      ∙ sum_cong g.atoms (λ v hv. sym (cond_left (near g i v j) (path_count g i v) (suc k)))
      ∙ sum_scaled g.atoms (λ v. cond (near g i v j) (path_count g i v) 0) (suc k)
      ∙ omega (arith, ap (λ (x : ℕ). x * suc k) (count_step m hi k j d))
    where
      at : (v : ℕ) → Within g.atoms v → OnTheWay g i v j → sum_bonds g.bonds (λ e. paths_using g e i v) ≡ k * path_count g i v
          → sum_bonds g.bonds (λ e. cond (joins e v j) (path_count g i v) (paths_using g e i v)) ≡ path_count g i v * suc k
      at v hv y h =
          let joined : any_joins g.bonds v j ≡ true = unfold bonded in y.bond in
          join_sum g.atoms g.bonds plain v j (path_count g i v) (λ e. paths_using g e i v) (λ e t. using_joined m hi e v j hv y.one t)
          ∙ omega (arith, ap (λ (t : Bool). cond t (path_count g i v) 0) joined)

-- THE SHARES ADD UP: the answers of all bonds make D times W
pub shares_total : {g : Graph} → Molecule g → Plain g.atoms g.bonds → sum_bonds g.bonds (share g) ≡ denominator g * wiener g
unfolding total weight
shares_total {g} m plain =
    bonds_cong g.bonds (λ e j. share_rows g e)
    ∙ bonds_swap g.bonds n (λ e i. sum n (λ j. paths_using g e i j * weight g D i j))
    ∙ sum_cong n (λ i hi.
    bonds_swap g.bonds n (λ e j. paths_using g e i j * weight g D i j)
    ∙ sum_cong n (λ j hj. bonds_scaled g.bonds (λ e. paths_using g e i j) (weight g D i j) ∙ at i j hi hj (ltb i j)))
    ∙ sym (sum_pairs_rows n (λ i j. distance g i j * D))
    ∙ sum_pairs_scaled n (distance g) D
    ∙ omega arith
  where
    n : ℕ
    n = g.atoms

    D : ℕ
    D = denominator g

    at : (i j : ℕ) → Within n i → Within n j → (t : Bool)
        → sum_bonds g.bonds (λ e. paths_using g e i j) * cond t (D / path_count g i j) 0 ≡ cond t (distance g i j * D) 0
    at i j hi hj true =
        ap (λ (x : ℕ). x * (D / path_count g i j)) (using_total m hi plain (distance g i j) j hj refl)
        ∙ omega (arith, ap (λ (x : ℕ). distance g i j * x) (mul-div_cancel' (path_count g i j) (count_dvd m hi hj)))
    at i j hi hj false = omega arith

-- Laws. The counts of shortest paths as one rule, the start included. Assumes nothing.
use Rattle.std.specs.Prelude.{ℕ, zero, suc, ◌+◌, Bool, ◌≡◌}
use Rattle.std.proofs.Math.Bool.{cond}
use Rattle.std.proofs.Math.Path.{refl, ap}
use Rattle.std.proofs.Common.{arith}
use borrow.Author.Tests.{eq-eqb, ne_eqb}
use Rattle.std.proofs.Math.Dec.{eqb}
use Rattle.graph.specs.Graph.{Graph, Within, Molecule, distance, sum}
use Rattle.graph.specs.Distance.{distance_self, distance_zero}
use Rattle.graph.specs.Paths.{path_count}
use Rattle.graph.specs.Notions.{near}
use Rattle.graph.specs.Steps.{near_none, count_self, count_step}

module _ {g : Graph} (m : Molecule g) {i : ℕ} (hi : Within g.atoms i) where
  -- the counts as one rule, the start included
  pub count_rule : {j : ℕ} → Within g.atoms j → path_count g i j ≡ cond (eqb i j) 1 0 + sum g.atoms (λ v. cond (near g i v j) (path_count g i v) 0)
  count_rule {j} hj = go (distance g i j) refl
    where
      go : (k : ℕ) → distance g i j ≡ k → path_count g i j ≡ cond (eqb i j) 1 0 + sum g.atoms (λ v. cond (near g i v j) (path_count g i v) 0)
      go zero d =
          let e : i ≡ j = distance_zero m hi hj d in
          omega (
            arith,
            ap (path_count g i) e,
            count_self m hi,
            ap {B = ℕ} (λ (t : Bool). cond t 1 0) (eq-eqb i j e),
            near_none g i j {f = path_count g i} (λ v w y. absurd (omega (arith, y.one))),
          )
      go (suc k) d =
          omega (
            arith,
            count_step m hi k j d,
            ap {B = ℕ} (λ (t : Bool). cond t 1 0) (ne_eqb i j (λ e. omega (arith, ap (distance g i) e, distance_self m.sound hi))),
          )

-- Laws. The distances across a joining bond, from the second molecule to the first. Assumes nothing.
use Rattle.std.specs.Prelude.{ℕ, ◌+◌, ◌≡◌}
use Rattle.std.proofs.Common.{◌∙◌}
use native.Mathlib.Omega.{arith}
use Rattle.graph.specs.Graph.{Graph, Within, Molecule, distance}
use Rattle.graph.specs.Assembly.{joined}
use Rattle.graph.specs.Distance.{distance_sym}
use Rattle.graph.specs.Join.{first_within, second_within, distance_cross, joined_molecule}

module _ {g h : Graph} {a b : ℕ} (mg : Molecule g) (mh : Molecule h) (ha : Within g.atoms a) (hb : Within h.atoms b) where
  pub distance_back : {i j : ℕ} → Within h.atoms i → Within g.atoms j → distance (joined g h a b) (g.atoms + i) j ≡ distance h i b + 1 + distance g a j
  distance_back hi hj =
      distance_sym (joined_molecule mg mh ha hb) (second_within mg mh ha hb hi) (first_within mg mh ha hb hj) ∙ distance_cross mg mh ha hb hj hi
      ∙ omega (arith, distance_sym mg hj ha, distance_sym mh hb hi)

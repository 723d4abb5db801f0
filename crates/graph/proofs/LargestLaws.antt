-- Laws. How the largest distance grows when two molecules are joined. Assumes nothing.
use Prim.Native.Nat.{ℕ, ◌+◌, ◌≤◌, max}
use Rattle.std.proofs.Common.{◌∙◌}
use Rattle.std.specs.Prelude.{◌≡◌}
use Rattle.std.proofs.Math.Path.{sym, ap, ap₂}
use native.Mathlib.Omega.{arith}
use Rattle.graph.specs.Graph.{Graph, Within, Molecule, distance}
use Rattle.graph.specs.Farthest.{most, farthest, largest}
use Rattle.graph.specs.Assembly.{joined}
use Rattle.graph.specs.Distance.{distance_sym}
use Rattle.graph.specs.Join.{distance_first, distance_second, distance_cross}
use Rattle.graph.proofs.JoinLaws.{distance_back}
use Rattle.graph.specs.Largest.{most_cong, most_pairs_cong, most_split, most_add, most_pairs_split}

-- Two molecules joined by a bond between atom a of g and atom b of h.
module _ {g h : Graph} {a b : ℕ} (mg : Molecule g) (mh : Molecule h) (ha : Within g.atoms a) (hb : Within h.atoms b) where
  some_first : 1 ≤ g.atoms
  some_first = omega (arith, ha.low, ha.high)

  some_second : 1 ≤ h.atoms
  some_second = omega (arith, hb.low, hb.high)

  across : (i j : ℕ) → Within g.atoms i → Within h.atoms j → distance (joined g h a b) i (g.atoms + j) ≡ distance g a i + 1 + distance h b j
  across i j w v = distance_cross mg mh ha hb w v ∙ ap (λ (x : ℕ). x + 1 + distance h b j) (distance_sym mg w ha)

  back : (i j : ℕ) → Within h.atoms i → Within g.atoms j → distance (joined g h a b) (g.atoms + i) j ≡ distance h b i + 1 + distance g a j
  back i j w v = distance_back mg mh ha hb w v ∙ ap (λ (x : ℕ). x + 1 + distance g a j) (distance_sym mh w hb)

  -- the farthest from an atom of g: in g, or beyond the joining bond; and from an atom of h
  pub farthest_first : {c : ℕ} → Within g.atoms c → farthest (joined g h a b) c ≡ max (farthest g c) (distance g a c + 1 + farthest h b)
  unfolding joined farthest
  farthest_first {c} hc =
      most_split g.atoms h.atoms (distance (joined g h a b) c)
      ∙ ap₂ max (most_cong g.atoms (λ j w. distance_first mg mh ha hb hc w)) (most_cong h.atoms (λ j w. across c j hc w) ∙ most_add h.atoms (distance h b) (distance g a c + 1) some_second)

  pub farthest_second : {c : ℕ} → Within h.atoms c → farthest (joined g h a b) (g.atoms + c) ≡ max (farthest h c) (distance h b c + 1 + farthest g a)
  unfolding joined farthest
  farthest_second {c} hc =
      most_split g.atoms h.atoms (distance (joined g h a b) (g.atoms + c))
      ∙ ap₂ max (most_cong g.atoms (λ j w. back c j hc w) ∙ most_add g.atoms (distance g a) (distance h b c + 1) some_first) (most_cong h.atoms (λ j w. distance_second mg mh ha hb hc w))
      ∙ omega arith

  -- of the joined molecule: within either part, or from the farthest atom of one through the bond to that of the other
  pub largest-joined : largest (joined g h a b) ≡ max (max (largest g) (largest h)) (farthest g a + 1 + farthest h b)
  unfolding joined largest farthest
  largest-joined =
      most_pairs_split g.atoms h.atoms (distance (joined g h a b))
      ∙ ap₂ max (ap₂ max (most_pairs_cong g.atoms (λ i j w v. distance_first mg mh ha hb w v)) (most_pairs_cong h.atoms (λ i j w v. distance_second mg mh ha hb w v)))
      (most_cong g.atoms (λ i w. most_cong h.atoms (λ j v. across i j w v) ∙ most_add h.atoms (distance h b) (distance g a i + 1) some_second ∙ turn (distance g a i) (most h.atoms (distance h b)))
      ∙ most_add g.atoms (distance g a) (1 + most h.atoms (distance h b)) some_first
      ∙ sym (turn (most g.atoms (distance g a)) (most h.atoms (distance h b))))
    where
      turn : (x y : ℕ) → x + 1 + y ≡ 1 + y + x
      turn x y = omega arith

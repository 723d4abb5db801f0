-- Laws. Where a molecule has one bond fewer than atoms, the Szeged index is W. Assumes nothing.
-- From each atom every other has exactly one nearer neighbour, and no bond is level (graph's `Tree`). So one step farther from x crosses one bond more, and x and y are on
-- different sides of as many bonds as their distance (`sides`). Summed over the pairs that is W, and bond by bond the index.
use Prim.Native.Nat.{ℕ, zero, suc, ◌+◌, ◌*◌, ◌≤◌, ◌<◌}
use mathlib.Core.Bool.{true, cond}
use mathlib.Core.Path.{◌≡◌, refl, sym, ◌∙◌, ap, subst}
use native.Mathlib.Omega.{arith}
use native.Mathlib.Decide.{ℕ_discrete, dec_lt}
use borrow.Author.Tests.{lt-ltb, le-ltb, eq-eqb, ne_eqb}
use lib.Dec.{eqb}
use lib.ListN.{length}
use Rattle.graph.specs.Graph.{Graph, Bond, bond, Within, Molecule, bonded, distance, sum_bonds, total, wiener}
use Rattle.graph.specs.Bonds.{bonded_sym}
use Rattle.graph.specs.Walk.{far_end}
use Rattle.graph.specs.Distance.{distance_sym, distance_self, distance_zero, distance_bond, parent}
use Rattle.graph.specs.Sums.{sum_pairs_cong, sum_pairs_product}
use Rattle.graph.specs.BondSums.{bonds_cong, bonds_add, bonds_none, bonds_swap_pairs}
use Rattle.graph.specs.Tree.{rises, level, arrives, one_bond_nearer, no_tie, one_parent}
use Rattle.szeged.specs.Szeged.{closer, nearer, szeged_term, szeged}

-- 1 or 0, as the distances say
module _ (g : Graph) (u v x : ℕ) where
  closer_one : distance g x u < distance g x v → closer g u v x ≡ 1
  unfolding closer
  closer_one l = rw (lt-ltb (distance g x u) (distance g x v) l)

  closer_none : distance g x v ≤ distance g x u → closer g u v x ≡ 0
  unfolding closer
  closer_none l = rw (le-ltb (distance g x u) (distance g x v) l)

  rises-closer : rises (distance g x) u v ≡ closer g u v x
  unfolding rises closer
  rises-closer = refl

-- no atom is nearer to each of two than to the other
opposite : (g : Graph) (u v x : ℕ) → closer g u v x * closer g v u x ≡ 0
opposite g u v x = elim (dec_lt (distance g x u) (distance g x v)) [
  | yes l ↦ rw (closer_none g v u x (omega arith)) (omega arith)
  | no l ↦ rw (closer_none g u v x (omega arith)) (omega arith)
]

-- 1 where x and y are nearer to different ends of a bond of u and v
abbrev crosses : Graph → ℕ → ℕ → ℕ → ℕ → ℕ
crosses g u v x y = closer g u v x * closer g v u y + closer g v u x * closer g u v y

module _ {g : Graph} (m : Molecule g) (few : length g.bonds + 1 ≡ g.atoms) where
  -- two bonded atoms that are nearer to different ends of a bond are its ends
  turn : (u v p y : ℕ) → bonded g u v ≡ true → bonded g p y ≡ true → distance g p u < distance g p v → distance g y v < distance g y u → (p ≡ u) × (y ≡ v)
  turn u v p y a b l k = elim (ℕ_discrete v y) [
    | yes e ↦ (distance_zero m wp wu (omega (arith, back, ap (distance g v) e, distance_self m.sound wv)), sym e)
    | no ne ↦
        let (w, c, e) = parent m wv wy ne in
        let ww = m.sound.ends w y c in
        let same : p ≡ w = one_parent m wu few wy p w b c (omega (arith, there, back)) (omega (arith, distance_bond m ww v u (bonded_sym g u v a), distance_sym m ww wu, distance_sym m ww wv, there, back)) in
        absurd (omega (arith, ap (distance g v) same, there, back))
  ]
    where
      wu : Within g.atoms u
      wu = m.sound.ends u v a

      wv : Within g.atoms v
      wv = far_end m.sound u v a

      wp : Within g.atoms p
      wp = m.sound.ends p y b

      wy : Within g.atoms y
      wy = far_end m.sound p y b

      back : (distance g v p ≤ suc (distance g v y)) × (distance g p u ≡ distance g u p) × (distance g p v ≡ distance g v p)
      back = (distance_bond m wv y p (bonded_sym g p y b), distance_sym m wp wu, distance_sym m wp wv)

      there : (distance g u y ≤ suc (distance g u p)) × (distance g y u ≡ distance g u y) × (distance g y v ≡ distance g v y)
      there = (distance_bond m wu p y b, distance_sym m wy wu, distance_sym m wy wv)

  -- from p to y, one bond farther from x: the bonds that x and y are on different sides of are those of x and p, and the one that arrives
  half : (u v : ℕ) {x : ℕ} → Within g.atoms x → (p y : ℕ) → bonded g u v ≡ true → bonded g p y ≡ true → distance g x p < distance g x y → distance g p u < distance g p v
      → crosses g u v x y ≡ crosses g u v x p + arrives (distance g x) y (bond u v)
  unfolding arrives
  half u v {x} wx p y a b l k = elim (dec_lt (distance g y v) (distance g y u)) [
    | yes h ↦ across (turn u v p y a b k h) h
    | no h ↦ beside (omega (arith, no_tie m wy few u v a))
  ]
    where
      wy : Within g.atoms y
      wy = far_end m.sound p y b

      at_p : (closer g u v p ≡ 1) × (closer g v u p ≡ 0)
      at_p = (closer_one g u v p k, closer_none g v u p (omega arith))

      across : (p ≡ u) × (y ≡ v) → distance g y v < distance g y u → crosses g u v x y ≡ crosses g u v x p + (cond (eqb v y) (rises (distance g x) u v) 0 + cond (eqb u y) (rises (distance g x) v u) 0)
      across (e, f) h =
          rw (closer_one g v u y h, closer_none g u v y (omega arith), at_p.0, at_p.1, eq-eqb v y (sym f), ne_eqb u y (λ z. omega (arith, ap (distance g x) (e ∙ z))), rises-closer g u v x)
          (omega (arith, closer_none g v u x (omega (arith, ap (distance g x) e, ap (distance g x) f))))

      beside : distance g y u < distance g y v → crosses g u v x y ≡ crosses g u v x p + (cond (eqb v y) (rises (distance g x) u v) 0 + cond (eqb u y) (rises (distance g x) v u) 0)
      beside h =
          rw (closer_one g u v y h, closer_none g v u y (omega arith), at_p.0, at_p.1, ne_eqb v y (λ z. omega (arith, ap (distance g y) z, distance_self m.sound wy)))
          (omega (arith, none (ℕ_discrete u y)))
        where
          none : Dec (u ≡ y) → cond (eqb u y) (rises (distance g x) v u) 0 ≡ 0
          none (no ne) = rw (ne_eqb u y ne)
          none (yes e) = rw (eq-eqb u y e) (level (distance g x) v u (elim (dec_lt (distance g x v) (distance g x u)) [
            | yes r ↦
                let same : p ≡ v = one_parent m wx few wy p v b (subst (λ (z : ℕ). bonded g v z ≡ true) e (bonded_sym g u v a)) l (omega (arith, ap (distance g x) e)) in
                absurd (omega (arith, ap (distance g p) same, distance_self m.sound (m.sound.ends p y b)))
            | no r ↦ omega arith
          ]))

  whole : (c : Bond) {x : ℕ} → Within g.atoms x → (p y : ℕ) → bonded g c.one c.two ≡ true → bonded g p y ≡ true → distance g x p < distance g x y
      → crosses g c.one c.two x y ≡ crosses g c.one c.two x p + arrives (distance g x) y c
  unfolding arrives
  whole c wx p y a b l = elim (dec_lt (distance g p c.one) (distance g p c.two)) [
    | yes k ↦ half c.one c.two wx p y a b l k
    | no k ↦ omega (arith, half c.two c.one wx p y (bonded_sym g c.one c.two a) b l (omega (arith, no_tie m (m.sound.ends p y b) few c.one c.two a)))
  ]

  -- x and y are on different sides of as many bonds as their distance
  sides : (k : ℕ) {x y : ℕ} → Within g.atoms x → Within g.atoms y → distance g x y ≡ k → sum_bonds g.bonds (λ c. crosses g c.one c.two x y) ≡ k
  unfolding bonded
  sides zero {x} wx wy e =
      rw (sym (distance_zero m wx wy e))
      (bonds_cong g.bonds {h = λ c. 0} (λ c j. omega (arith, opposite g c.one c.two x)) ∙ bonds_none g.bonds)
  sides (suc k) {x} {y} wx wy e =
      let ne : (x ≡ y → ⊥) = λ z. omega (arith, ap (distance g x) z, distance_self m.sound wx) in
      let (p, b, f) = parent m wx wy ne in
      bonds_cong g.bonds (λ c j. whole c wx p y j b (omega arith))
      ∙ bonds_add g.bonds (λ c. crosses g c.one c.two x p) (arrives (distance g x) y)
      ∙ omega (arith, sides k wx (m.sound.ends p y b) (omega arith), one_bond_nearer m wx few wy ne)

  pub szeged_of_tree : szeged g ≡ wiener g
  unfolding szeged_term nearer total
  szeged_of_tree =
      bonds_cong g.bonds (λ c j. sum_pairs_product g.atoms (closer g c.one c.two) (closer g c.two c.one) (opposite g c.one c.two))
      ∙ bonds_swap_pairs g.bonds g.atoms (λ c. crosses g c.one c.two)
      ∙ sum_pairs_cong g.atoms (λ i j wi wj. sides (distance g i j) wi wj refl)

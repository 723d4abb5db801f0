-- Laws. A molecule has at least one bond fewer than atoms; and where it has no more, it is a tree: seen from any atom every other has exactly one nearer neighbour, and
-- no bond joins two atoms that are equally far. Assumes nothing.
use Prim.Native.Nat.{ℕ, ◌+◌, ◌≤◌, ◌<◌}
use Rattle.std.specs.Prelude.{Bool, ◌⊎◌, eqb, ltb, length}
use Rattle.std.proofs.Math.Bool.{true, false, cond}
use mathlib.Core.List.{List, [], ◌∷◌}
use Rattle.std.proofs.Common.{inl, inr, sym, ◌∙◌, lt-ltb, le-ltb, eq-eqb, ne_eqb}
use Rattle.std.proofs.Math.Logic.{⊎_elim}
use Rattle.std.proofs.Math.Path.{◌≡◌, refl, ap, ap₂}
use native.Mathlib.Omega.{arith}
use Rattle.std.proofs.Math.Decide.{ℕ_discrete, dec_lt}
use Rattle.graph.specs.Graph.{Graph, Bond, Within, Sound, Molecule, any_joins, bonded, distance, sum, sum_bonds}
use Rattle.graph.specs.Bonds.{Joins, any_out, any_none}
use Rattle.graph.specs.Walk.{far_end}
use Rattle.graph.specs.Distance.{distance_self, parent}
use Rattle.graph.specs.Sums.{sum_cong, sum_add, sum_const, sum_pick, sum_below, sum_tight}
use Rattle.graph.specs.BondSums.{bonds_cong, bonds_swap}

-- Numbers δ for the atoms: a bond rises to the end with the greater number, and is level where both have the same.
module _ (δ : ℕ → ℕ) where
  -- 1 where v is above u, else 0
  unfoldable pub rises : ℕ → ℕ → ℕ
  rises u v = cond (ltb (δ u) (δ v)) 1 0

  pub rise : (u v : ℕ) → δ u < δ v → rises u v ≡ 1
  unfolding rises
  rise u v l = rw (lt-ltb (δ u) (δ v) l)

  pub level : (u v : ℕ) → δ v ≤ δ u → rises u v ≡ 0
  unfolding rises
  level u v l = rw (le-ltb (δ u) (δ v) l)

  -- 1 where a bond rises to y, else 0
  unfoldable pub arrives : ℕ → Bond → ℕ
  arrives y b = cond (eqb b.two y) (rises b.one b.two) 0 + cond (eqb b.one y) (rises b.two b.one) 0

  -- 1 where a bond is not level, else 0
  slopes : Bond → ℕ
  slopes b = rises b.one b.two + rises b.two b.one

  slopes_most : (b : Bond) → slopes b ≤ 1
  unfolding slopes
  slopes_most b = elim (dec_lt (δ b.one) (δ b.two)) [
    | yes l ↦ omega (arith, rise b.one b.two l, level b.two b.one (omega arith))
    | no l ↦ elim (dec_lt (δ b.two) (δ b.one)) [
      | yes k ↦ omega (arith, rise b.two b.one k, level b.one b.two (omega arith))
      | no k ↦ omega (arith, level b.one b.two (omega arith), level b.two b.one (omega arith))
    ]
  ]

  slopes_all : (bs : List Bond) → sum_bonds bs slopes ≤ length bs
  unfolding sum_bonds
  slopes_all [] = omega arith
  slopes_all (b ∷ bs) = omega (arith, slopes_all bs, slopes_most b)

  -- a bond arrives once, where it is not level
  arrives_all : (n : ℕ) (b : Bond) → Within n b.one → Within n b.two → sum n (λ y. arrives y b) ≡ slopes b
  unfolding arrives slopes
  arrives_all n b p q =
      sum_add n (λ y. cond (eqb b.two y) (rises b.one b.two) 0) (λ y. cond (eqb b.one y) (rises b.two b.one) 0)
      ∙ ap₂ ◌+◌ (sum_pick n b.two (λ y. rises b.one b.two) q) (sum_pick n b.one (λ y. rises b.two b.one) p)

  -- a bond to y from below arrives there
  arrive : (b : Bond) (p y : ℕ) → δ p < δ y → Joins b p y → 1 ≤ arrives y b
  unfolding arrives
  arrive b p y l j =
      ⊎_elim (λ q. omega (arith, chosen b.two (rises b.one b.two) q.1, rise b.one b.two (omega (arith, ap δ q.0, ap δ q.1))))
      (λ q. omega (arith, chosen b.one (rises b.two b.one) q.0, rise b.two b.one (omega (arith, ap δ q.0, ap δ q.1)))) j
    where
      chosen : (u x : ℕ) → u ≡ y → cond (eqb u y) x 0 ≡ x
      chosen u x e = rw (eq-eqb u y e)

  pub one_arrives : (bs : List Bond) (p y : ℕ) → δ p < δ y → any_joins bs p y ≡ true → 1 ≤ sum_bonds bs (arrives y)
  unfolding sum_bonds
  one_arrives [] p y l j = absurd (any_none p y j)
  one_arrives (b ∷ bs) p y l j = ⊎_elim (λ q. omega (arith, arrive b p y l q)) (λ q. omega (arith, one_arrives bs p y l q)) (any_out b bs p y j)

  pub two_arrive : (bs : List Bond) (p q y : ℕ) → (p ≡ q → ⊥) → δ p < δ y → δ q < δ y → any_joins bs p y ≡ true → any_joins bs q y ≡ true → 2 ≤ sum_bonds bs (arrives y)
  unfolding sum_bonds
  two_arrive [] p q y ne l m i j = absurd (any_none p y i)
  two_arrive (b ∷ bs) p q y ne l m i j = go (any_out b bs p y i) (any_out b bs q y j) (two_arrive bs p q y ne l m)
    where
      apart : Joins b p y → Joins b q y → ⊥
      apart (inl r) (inl s) = ne (sym r.0 ∙ s.0)
      apart (inl r) (inr s) = omega (arith, ap δ (sym r.0 ∙ s.0))
      apart (inr r) (inl s) = omega (arith, ap δ (sym r.0 ∙ s.0))
      apart (inr r) (inr s) = ne (sym r.1 ∙ s.1)

      go : Joins b p y ⊎ (any_joins bs p y ≡ true) → Joins b q y ⊎ (any_joins bs q y ≡ true) → (any_joins bs p y ≡ true → any_joins bs q y ≡ true → 2 ≤ sum_bonds bs (arrives y))
          → 2 ≤ arrives y b + sum_bonds bs (arrives y)
      go (inl r) (inl s) h = absurd (apart r s)
      go (inl r) (inr s) h = omega (arith, arrive b p y l r, one_arrives bs q y m s)
      go (inr r) (inl s) h = omega (arith, arrive b q y m s, one_arrives bs p y l r)
      go (inr r) (inr s) h = omega (arith, h r s)

  -- where as many bonds slope as there are, none is level
  none_level : (bs : List Bond) → length bs ≤ sum_bonds bs slopes → (u v : ℕ) → any_joins bs u v ≡ true → δ u ≡ δ v → ⊥
  unfolding sum_bonds slopes
  none_level [] l u v j e = any_none u v j
  none_level (b ∷ bs) l u v j e = ⊎_elim (λ q. omega (arith, slopes_all bs, flat q)) (λ q. none_level bs (omega (arith, slopes_most b)) u v q e) (any_out b bs u v j)
    where
      tied : δ b.one ≡ δ b.two → slopes b ≡ 0
      tied t = omega (arith, level b.one b.two (omega arith), level b.two b.one (omega arith))

      flat : Joins b u v → slopes b ≡ 0
      flat (inl q) = tied (ap δ q.0 ∙ e ∙ sym (ap δ q.1))
      flat (inr q) = tied (ap δ q.0 ∙ sym e ∙ sym (ap δ q.1))

  -- THE COUNT: bonds between the atoms 1 to n, and to each atom but x one from below
  module _ (n x : ℕ) (bs : List Bond) (start : Within n x) (ends : (u v : ℕ) → any_joins bs u v ≡ true → Within n u × Within n v)
      (below : (y : ℕ) → Within n y → (x ≡ y → ⊥) → (p : ℕ) × (any_joins bs p y ≡ true) × (δ p < δ y)) where
    -- 1 for each atom but x
    other : ℕ → ℕ
    other y = cond (eqb x y) 0 1

    others : sum n other + 1 ≡ n
    unfolding other
    others = omega (arith, sum_pick n x (λ y. 1) start, sum_add n (λ y. cond (eqb x y) 0 1) (λ y. cond (eqb x y) 1 0), sum_cong n (λ y w. split (eqb x y)), sum_const n 1)
      where
        split : (t : Bool) → ◌≡◌ {A = ℕ} (cond t 0 1 + cond t 1 0) 1
        split true = refl
        split false = refl

    at_least : (y : ℕ) → Within n y → other y ≤ sum_bonds bs (arrives y)
    unfolding other
    at_least y w = elim (ℕ_discrete x y) [
      | yes e ↦ rw (eq-eqb x y e) (omega arith)
      | no ne ↦ let (p, j, l) = below y w ne in rw (ne_eqb x y ne) (one_arrives bs p y l j)
    ]

    arrivals : sum n (λ y. sum_bonds bs (arrives y)) ≡ sum_bonds bs slopes
    arrivals =
        sym (bonds_swap bs n (λ b y. arrives y b))
        ∙ bonds_cong bs (λ b j. let (p, q) = ends b.one b.two j in arrives_all n b p q)

    all_arrive : n ≤ sum_bonds bs slopes + 1
    all_arrive = omega (arith, arrivals, others, sum_below n at_least)

    pub enough : n ≤ length bs + 1
    enough = omega (arith, all_arrive, slopes_all bs)

    -- with one bond fewer than atoms there is exactly one, and no bond is level
    module _ (few : length bs + 1 ≡ n) where
      pub arrives_once : (y : ℕ) → Within n y → (x ≡ y → ⊥) → sum_bonds bs (arrives y) ≡ 1
      unfolding other
      arrives_once y w ne = sum_tight n at_least (omega (arith, arrivals, slopes_all bs, others)) y w ∙ rw (ne_eqb x y ne)

      pub no_level : (u v : ℕ) → any_joins bs u v ≡ true → δ u ≡ δ v → ⊥
      no_level = none_level bs (omega (arith, all_arrive))

both_ends : {g : Graph} → Sound g → (u v : ℕ) → any_joins g.bonds u v ≡ true → Within g.atoms u × Within g.atoms v
unfolding bonded
both_ends s u v j = (s.ends u v j, far_end s u v j)

-- The distances from an atom x of a molecule are such numbers.
module _ {g : Graph} (m : Molecule g) {x : ℕ} (wx : Within g.atoms x) where
  lower : (y : ℕ) → Within g.atoms y → (x ≡ y → ⊥) → (p : ℕ) × (any_joins g.bonds p y ≡ true) × (distance g x p < distance g x y)
  unfolding bonded
  lower y w ne = let (p, b, e) = parent m wx w ne in (p, b, omega arith)

  least_bonds : g.atoms ≤ length g.bonds + 1
  least_bonds = enough (distance g x) g.atoms x g.bonds wx (both_ends m.sound) lower

  module _ (few : length g.bonds + 1 ≡ g.atoms) where
    pub one_bond_nearer : {y : ℕ} → Within g.atoms y → (x ≡ y → ⊥) → sum_bonds g.bonds (arrives (distance g x) y) ≡ 1
    one_bond_nearer {y} w ne = arrives_once (distance g x) g.atoms x g.bonds wx (both_ends m.sound) lower few y w ne

    pub no_tie : (u v : ℕ) → bonded g u v ≡ true → distance g x u ≡ distance g x v → ⊥
    unfolding bonded
    no_tie = no_level (distance g x) g.atoms x g.bonds wx (both_ends m.sound) lower few

    pub one_parent : {y : ℕ} → Within g.atoms y → (p q : ℕ) → bonded g p y ≡ true → bonded g q y ≡ true → distance g x p < distance g x y → distance g x q < distance g x y → p ≡ q
    unfolding bonded
    one_parent {y} wy p q a b l k = elim (ℕ_discrete p q) [
      | yes e ↦ e
      | no ne ↦
          absurd (omega (
            arith,
            two_arrive (distance g x) g.bonds p q y ne l k a b,
            one_bond_nearer wy (λ e. omega (arith, ap (distance g x) e, distance_self m.sound wx)),
          ))
    ]

-- a molecule has at least one bond fewer than atoms
pub enough_bonds : {g : Graph} → Molecule g → g.atoms ≤ length g.bonds + 1
enough_bonds {g} m = elim (dec_lt (length g.bonds + 1) g.atoms) [
  | yes l ↦ least_bonds m {x = 1} (omega arith)
  | no l ↦ omega arith
]

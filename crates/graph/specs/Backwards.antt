-- Laws. Shortest paths read backwards: as many lead back, as many of them use a bond, and each count divides D. Assumes nothing.
use Prim.Native.Nat.{ℕ, zero, suc, ◌+◌, ◌<◌, ◌∣◌}
use Rattle.std.specs.Prelude.{Bool, [], ◌∷◌, ◌↔◌, ◌≡◌, eqb, ltb}
use Rattle.std.proofs.Math.Bool.{true, false, cond}
use Rattle.std.proofs.Math.Path.{refl, sym, ap, ap₂}
use Rattle.std.proofs.Common.{◌∙◌, arith, ltb-true, ltb-false}
use Rattle.std.proofs.Math.Nat.{dvd_refl, one-dvd}
use Rattle.std.proofs.Math.ListN.{length}
use Rattle.graph.specs.Graph.{Graph, Bond, Within, Molecule, joins, bonded, distance, sum}
use Rattle.graph.specs.Bonds.{joins_sym, any_joins_sym}
use Rattle.graph.specs.Distance.{distance_sym}
use Rattle.graph.specs.Sums.{sum_cong, sum_add, sum_swap, sum_pick}
use Rattle.graph.specs.Paths.{walks, shortest_paths, uses, passing_paths, path_count, paths_using, denominator}
use Rattle.graph.specs.Notions.{AtomPair}
use Rattle.graph.specs.Choices.{eqb_sym, cond_swap, cond-sum}
use Rattle.graph.specs.Steps.{walks-length, walks-suc, uses_suc, count_self, count_pos}
use Rattle.graph.specs.Lcm.{pairs_dvd}

-- how many ways lead from i to j in k steps along m
unfoldable pub power : ℕ → (ℕ → ℕ → Bool) → ℕ → ℕ → ℕ → ℕ
power n m zero i j = cond (eqb i j) 1 0
power n m (suc k) i j = sum n (λ v. cond (m v j) (power n m k i v) 0)

module _ (n : ℕ) (m : ℕ → ℕ → Bool) where
  -- the first step can be split off as well as the last
  power_first : (k i j : ℕ) → Within n i → Within n j → power n m (suc k) i j ≡ sum n (λ u. cond (m i u) (power n m k u j) 0)
  unfolding power
  power_first zero i j hi hj =
      sum_cong n (λ v w. cond_swap (m v j) (eqb i v) 1)
      ∙ sum_pick n i (λ v. cond (m v j) 1 0) hi
      ∙ sym (sum_cong n (λ u w. ap (λ (t : Bool). cond (m i u) (cond t 1 0) 0) (eqb_sym u j) ∙ cond_swap (m i u) (eqb j u) 1)
      ∙ sum_pick n j (λ u. cond (m i u) 1 0) hj)
  power_first (suc k) i j hi hj =
      sum_cong n (λ v w. ap (λ (x : ℕ). cond (m v j) x 0) (power_first k i v hi w) ∙ cond-sum n (m v j) (λ u. cond (m i u) (power n m k u v) 0))
      ∙ sum_swap n n (λ v u. cond (m v j) (cond (m i u) (power n m k u v) 0) 0)
      ∙ sum_cong n (λ u w. sum_cong n (λ v x. cond_swap (m v j) (m i u) (power n m k u v)) ∙ sym (cond-sum n (m i u) (λ v. cond (m v j) (power n m k u v) 0)))

  pub power_sym : ((u v : ℕ) → m u v ≡ m v u) → (k i j : ℕ) → Within n i → Within n j → power n m k i j ≡ power n m k j i
  unfolding power
  power_sym s zero i j hi hj = ap {B = ℕ} (λ (t : Bool). cond t 1 0) (eqb_sym i j)
  power_sym s (suc k) i j hi hj =
      sum_cong n (λ v w. ap₂ (λ (t : Bool) (x : ℕ). cond t x 0) (s v j) (power_sym s k i v hi w)) ∙ sym (power_first k j i hj hi)

pub walks-power : (g : Graph) (k i j : ℕ) → length (walks g k i j) ≡ power g.atoms (bonded g) k i j
unfolding walks power
walks-power g zero i j = go (eqb i j)
  where
    go : (t : Bool) → length (cond t ((j ∷ []) ∷ []) []) ≡ cond t 1 0
    go true = refl
    go false = refl
walks-power g (suc k) i j = walks-length g k i j ∙ sum_cong g.atoms (λ v w. ap (λ (x : ℕ). cond (bonded g v j) x 0) (walks-power g k i v))

-- the bonds but e
abbrev pub without : Graph → Bond → ℕ → ℕ → Bool
without g e u v = cond (joins e u v) false (bonded g u v)

-- the walks that use e, and those along the other bonds, are all
pub uses-power : (g : Graph) (e : Bond) (k i j : ℕ) → passing_paths (uses e) (walks g k i j) + power g.atoms (without g e) k i j ≡ power g.atoms (bonded g) k i j
unfolding power
uses-power g e zero i j = unfold walks passing_paths uses in go (eqb i j)
  where
    go : (t : Bool) → passing_paths (uses e) (cond t ((j ∷ []) ∷ []) []) + cond t 1 0 ≡ cond t 1 0
    go true = unfold passing_paths uses in refl
    go false = unfold passing_paths in refl
uses-power g e (suc k) i j =
    ap (λ (x : ℕ). x + power g.atoms (without g e) (suc k) i j)
    (walks-suc g k i j (uses e) ∙ sum_cong g.atoms (λ v w. ap (λ (x : ℕ). cond (bonded g v j) x 0) (uses_suc g e k i v j)))
    ∙ sym (sum_add g.atoms (λ v. cond (bonded g v j) (cond (joins e v j) (length (walks g k i v)) (passing_paths (uses e) (walks g k i v))) 0)
    (λ v. cond (without g e v j) (power g.atoms (without g e) k i v) 0))
    ∙ sum_cong g.atoms (λ v w. step (bonded g v j) (joins e v j) _ _ _ _ (walks-power g k i v) (uses-power g e k i v))
  where
    step : (b t : Bool) (l u q p : ℕ) → l ≡ p → u + q ≡ p → cond b (cond t l u) 0 + cond (cond t false b) q 0 ≡ cond b p 0
    step true true l u q p e f = omega arith
    step true false l u q p e f = f
    step false true l u q p e f = refl
    step false false l u q p e f = refl

module _ {g : Graph} (m : Molecule g) {i j : ℕ} (hi : Within g.atoms i) (hj : Within g.atoms j) where
  walks_sym : (k : ℕ) → length (walks g k i j) ≡ length (walks g k j i)
  unfolding bonded
  walks_sym k = walks-power g k i j ∙ power_sym g.atoms (bonded g) (any_joins_sym g.bonds) k i j hi hj ∙ sym (walks-power g k j i)

  pub count_sym : path_count g i j ≡ path_count g j i
  unfolding path_count shortest_paths
  count_sym = walks_sym (distance g i j) ∙ ap (λ (k : ℕ). length (walks g k j i)) (distance_sym m hi hj)

  -- as many use a bond from i to j as back
  pub using_sym : (e : Bond) → paths_using g e i j ≡ paths_using g e j i
  unfolding paths_using shortest_paths bonded
  using_sym e = at (distance g i j) ∙ ap (λ (k : ℕ). passing_paths (uses e) (walks g k j i)) (distance_sym m hi hj)
    where
      others : (u v : ℕ) → without g e u v ≡ without g e v u
      others u v = ap₂ (λ (x y : Bool). cond x false y) (joins_sym e u v) (any_joins_sym g.bonds u v)

      at : (k : ℕ) → passing_paths (uses e) (walks g k i j) ≡ passing_paths (uses e) (walks g k j i)
      at k =
          omega (
            arith,
            uses-power g e k i j,
            uses-power g e k j i,
            power_sym g.atoms (bonded g) (any_joins_sym g.bonds) k i j hi hj,
            power_sym g.atoms (without g e) others k i j hi hj,
          )

module _ {g : Graph} (m : Molecule g) where
  pub pair_pos : (i j : ℕ) → AtomPair g.atoms i j → 0 < path_count g i j
  pair_pos i j p = count_pos m (record { low = p.low; high = omega arith }) (record { low = omega arith; high = p.high })

  -- D is the least common multiple: it divides exactly what all the counts divide
  pub denominator_dvd : (t : ℕ) → (denominator g ∣ t) ↔ ((i j : ℕ) → AtomPair g.atoms i j → path_count g i j ∣ t)
  unfolding denominator
  denominator_dvd t = pairs_dvd (path_count g) g.atoms pair_pos t

  -- each count divides D, either way round and from an atom to itself too
  pub count_dvd : {i j : ℕ} → Within g.atoms i → Within g.atoms j → path_count g i j ∣ denominator g
  count_dvd {i} {j} hi hj = go (ltb i j) refl (ltb j i) refl
    where
      pair : (u v : ℕ) → Within g.atoms u → Within g.atoms v → u < v → path_count g u v ∣ denominator g
      pair u v hu hv l = (denominator_dvd (denominator g)).0 (dvd_refl _) u v (record { low = hu.low; less = l; high = hv.high })

      go : (s : Bool) → ltb i j ≡ s → (t : Bool) → ltb j i ≡ t → path_count g i j ∣ denominator g
      go true h t k = pair i j hi hj (ltb-true i j h)
      go false h true k = rw (count_sym m hi hj) (pair j i hj hi (ltb-true j i k))
      go false h false k =
          let e : j ≡ i = omega (arith, ltb-false i j h, ltb-false j i k) in
          rw (e, count_self m hi) (one-dvd _)

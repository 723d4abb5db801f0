-- Laws. Shortest paths go by their last step: so do their counts and the counts of those that use a bond. Assumes nothing.
use Rattle.std.specs.Prelude.{ℕ, zero, suc, ◌+◌, ◌≤◌, ◌<◌, Bool, ◌&&◌, List, [], ◌∷◌, ◌++◌, map, ◌≡◌}
use Rattle.std.proofs.Math.Bool.{true, false, cond}
use Rattle.std.proofs.Math.Logic.{⊎_elim}
use Rattle.std.proofs.Math.Path.{refl, sym, ap, subst}
use Rattle.std.proofs.Common.{◌∙◌, eq-zero-or-pos, arith}
use borrow.Author.Tests.{eqb-true, eqb-false, eq-eqb}
use Rattle.std.proofs.Math.Dec.{eqb}
use Rattle.std.proofs.Math.ListN.{length}
use Rattle.graph.specs.Graph.{Graph, Bond, Walk, Within, Sound, Molecule, joins, bonded, distance, sum}
use Rattle.graph.specs.Graph.Walk.{stay, step}
use Rattle.graph.specs.Distance.{distance_shortest, distance_self, distance_bond}
use Rattle.graph.specs.Sums.{sum_cong, sum_none, sum_at, sum_some}
use Rattle.graph.specs.Paths.{gather, walks, shortest_paths, uses, passing_paths, path_count, paths_using}
use Rattle.graph.specs.Notions.{near, OnTheWay}

count_append : (q : List ℕ → Bool) (a b : List (List ℕ)) → passing_paths q (a ++ b) ≡ passing_paths q a + passing_paths q b
unfolding passing_paths
count_append q [] b = omega arith
count_append q (p ∷ a) b = omega (arith, count_append q a b)

count_map : (q : List ℕ → Bool) (j : ℕ) (a : List (List ℕ)) → passing_paths q (map (λ p. j ∷ p) a) ≡ passing_paths (λ p. q (j ∷ p)) a
unfolding passing_paths
count_map q j [] = refl
count_map q j (p ∷ a) = ap (λ (n : ℕ). cond (q (j ∷ p)) 1 0 + n) (count_map q j a)

count_gather : (q : List ℕ → Bool) (n : ℕ) (f : ℕ → List (List ℕ)) → passing_paths q (gather n f) ≡ sum n (λ v. passing_paths q (f v))
unfolding gather sum passing_paths
count_gather q zero f = refl
count_gather q (suc n) f = count_append q (gather n f) (f (suc n)) ∙ ap (λ (m : ℕ). m + passing_paths q (f (suc n))) (count_gather q n f)

count_cond : (q : List ℕ → Bool) (t : Bool) (a : List (List ℕ)) → passing_paths q (cond t a []) ≡ cond t (passing_paths q a) 0
unfolding passing_paths
count_cond q true a = refl
count_cond q false a = refl

count_all : (a : List (List ℕ)) → passing_paths (λ p. true) a ≡ length a
unfolding passing_paths
count_all [] = refl
count_all (p ∷ a) = omega (arith, count_all a)

count_le : (q : List ℕ → Bool) (a : List (List ℕ)) → passing_paths q a ≤ length a
unfolding passing_paths
count_le q [] = omega arith
count_le q (p ∷ a) = go (q p) (count_le q a)
  where
    go : (t : Bool) → passing_paths q a ≤ length a → cond t 1 0 + passing_paths q a ≤ suc (length a)
    go true h = omega arith
    go false h = omega arith

pub using_le : (g : Graph) (e : Bond) (i j : ℕ) → paths_using g e i j ≤ path_count g i j
unfolding paths_using path_count
using_le g e i j = count_le (uses e) (shortest_paths g i j)

-- one more bond: a walk to j is a walk to a neighbour, and j
pub walks-suc : (g : Graph) (k i j : ℕ) (q : List ℕ → Bool)
    → passing_paths q (walks g (suc k) i j) ≡ sum g.atoms (λ v. cond (bonded g v j) (passing_paths (λ p. q (j ∷ p)) (walks g k i v)) 0)
unfolding walks
walks-suc g k i j q =
    count_map q j (gather g.atoms (λ v. cond (bonded g v j) (walks g k i v) []))
    ∙ count_gather (λ p. q (j ∷ p)) g.atoms (λ v. cond (bonded g v j) (walks g k i v) [])
    ∙ sum_cong g.atoms (λ v w. count_cond (λ p. q (j ∷ p)) (bonded g v j) (walks g k i v))

pub walks-length : (g : Graph) (k i j : ℕ) → length (walks g (suc k) i j) ≡ sum g.atoms (λ v. cond (bonded g v j) (length (walks g k i v)) 0)
walks-length g k i j =
    sym (count_all (walks g (suc k) i j)) ∙ walks-suc g k i j (λ p. true)
    ∙ sum_cong g.atoms (λ v w. ap (λ (x : ℕ). cond (bonded g v j) x 0) (count_all (walks g k i v)))

-- the list has a walk exactly where there is one
walk_of_walks : (g : Graph) (k i j : ℕ) → 0 < length (walks g k i j) → Walk g i j k
walk_of_walks g zero i j h = go (eqb i j) refl (unfold walks in h)
  where
    go : (t : Bool) → eqb i j ≡ t → 0 < length (cond t ((j ∷ []) ∷ []) []) → Walk g i j 0
    go true e p = subst (λ (v : ℕ). Walk g i v 0) (eqb-true i j e) stay
    go false e p = absurd (omega arith)
walk_of_walks g (suc k) i j h =
    let r = sum_some g.atoms (λ v. cond (bonded g v j) (length (walks g k i v)) 0) (rw (walks-length g k i j) at h) in
    go r.0 (bonded g r.0 j) refl r.2 (walk_of_walks g k i r.0)
  where
    go : (v : ℕ) (t : Bool) → bonded g v j ≡ t → 0 < cond t (length (walks g k i v)) 0 → (0 < length (walks g k i v) → Walk g i v k) → Walk g i j (suc k)
    go v true b p r = step (r p) b
    go v false b p r = absurd (omega arith)

walks_of_walk : {g : Graph} {i j k : ℕ} → Sound g → Walk g i j k → 0 < length (walks g k i j)
unfolding walks
walks_of_walk {i = i} s stay = rw (eq-eqb i i refl) (omega arith)
walks_of_walk {g} {i} s (step {v = v} {w = j} {k = k} p b) =
    omega (
      arith,
      walks_of_walk s p,
      walks-length g k i j,
      ap (λ (t : Bool). cond t (length (walks g k i v)) 0) b,
      sum_at g.atoms (λ u. cond (bonded g u j) (length (walks g k i u)) 0) v (s.ends v j b),
    )

-- whether e is used by a walk to v that goes on to j
pub uses_suc : (g : Graph) (e : Bond) (k i v j : ℕ)
    → passing_paths (λ p. uses e (j ∷ p)) (walks g k i v) ≡ cond (joins e v j) (length (walks g k i v)) (passing_paths (uses e) (walks g k i v))
unfolding walks passing_paths uses
uses_suc g e zero i v j = go (eqb i v) (joins e v j) refl
  where
    go : (t w : Bool) → joins e v j ≡ w
        → passing_paths (λ p. uses e (j ∷ p)) (cond t ((v ∷ []) ∷ []) []) ≡ cond w (length (cond t ((v ∷ []) ∷ []) [])) (passing_paths (uses e) (cond t ((v ∷ []) ∷ []) []))
    go true true h = rw h
    go true false h = rw h
    go false true h = refl
    go false false h = refl
uses_suc g e (suc k) i v j = count_map (λ p. uses e (j ∷ p)) v before ∙ go (joins e v j) refl
  where
    before : List (List ℕ)
    before = gather g.atoms (λ u. cond (bonded g u v) (walks g k i u) [])

    go : (w : Bool) → joins e v j ≡ w
        → passing_paths (λ p. uses e (j ∷ v ∷ p)) before ≡ cond w (length (map (λ p. v ∷ p) before)) (passing_paths (uses e) (map (λ p. v ∷ p) before))
    go true h = simp h (sym (count_map (λ p. true) v before) ∙ count_all (map (λ p. v ∷ p) before))
    go false h = simp h (sym (count_map (uses e) v before))

-- `near` as facts: what stands where v is not a nearer neighbour of j does not matter
near_out : (g : Graph) (i v j : ℕ) → near g i v j ≡ true → OnTheWay g i v j
unfolding near
near_out g i v j h = go (bonded g v j) refl (eqb (suc (distance g i v)) (distance g i j)) refl h
  where
    go : (t : Bool) → bonded g v j ≡ t → (w : Bool) → eqb (suc (distance g i v)) (distance g i j) ≡ w → t && w ≡ true → OnTheWay g i v j
    go true b true e h = record { bond = b; one = eqb-true (suc (distance g i v)) (distance g i j) e }
    go true b false e h = let z : ◌≡◌ {A = ℕ} 0 1 = cc in absurd (omega arith)
    go false b w e h = let z : ◌≡◌ {A = ℕ} 0 1 = cc in absurd (omega arith)

pub near_at : (g : Graph) (i v j : ℕ) {x y : ℕ} → (OnTheWay g i v j → x ≡ y) → cond (near g i v j) x 0 ≡ cond (near g i v j) y 0
near_at g i v j {x} {y} e = go (near g i v j) refl
  where
    go : (t : Bool) → near g i v j ≡ t → cond t x 0 ≡ cond t y 0
    go true h = e (near_out g i v j h)
    go false h = refl

pub near_cong : (g : Graph) (i j : ℕ) {f h : ℕ → ℕ} → ((v : ℕ) → Within g.atoms v → OnTheWay g i v j → f v ≡ h v)
    → sum g.atoms (λ v. cond (near g i v j) (f v) 0) ≡ sum g.atoms (λ v. cond (near g i v j) (h v) 0)
near_cong g i j e = sum_cong g.atoms (λ v w. near_at g i v j (e v w))

pub near_none : (g : Graph) (i j : ℕ) {f : ℕ → ℕ} → ((v : ℕ) → Within g.atoms v → OnTheWay g i v j → f v ≡ 0)
    → sum g.atoms (λ v. cond (near g i v j) (f v) 0) ≡ 0
near_none g i j e = near_cong g i j {h = λ v. 0} e ∙ sum_cong g.atoms (λ v w. same (near g i v j)) ∙ sum_none g.atoms
  where
    same : (t : Bool) → ◌≡◌ {A = ℕ} (cond t 0 0) 0
    same true = refl
    same false = refl

module _ {g : Graph} (m : Molecule g) {i : ℕ} (hi : Within g.atoms i) where
  -- the shortest paths to j that pass are those to a nearer neighbour that pass with j put before
  by_last : (k j : ℕ) (q : List ℕ → Bool) → distance g i j ≡ suc k
      → passing_paths q (shortest_paths g i j) ≡ sum g.atoms (λ v. cond (near g i v j) (passing_paths (λ p. q (j ∷ p)) (shortest_paths g i v)) 0)
  unfolding shortest_paths near
  by_last k j q d =
      ap (λ (m : ℕ). passing_paths q (walks g m i j)) d ∙ walks-suc g k i j q
      ∙ sum_cong g.atoms (λ v w. go v w (bonded g v j) refl (eqb (suc (distance g i v)) (distance g i j)) refl)
    where
      go : (v : ℕ) → Within g.atoms v → (t : Bool) → bonded g v j ≡ t → (w : Bool) → eqb (suc (distance g i v)) (distance g i j) ≡ w
          → cond t (passing_paths (λ p. q (j ∷ p)) (walks g k i v)) 0 ≡ cond (t && w) (passing_paths (λ p. q (j ∷ p)) (walks g (distance g i v) i v)) 0
      go v hv false b w e = refl
      go v hv true b true e =
          let same : k ≡ distance g i v = omega (arith, eqb-true (suc (distance g i v)) (distance g i j) e) in
          ap (λ (m : ℕ). passing_paths (λ p. q (j ∷ p)) (walks g m i v)) same
      go v hv true b false e =
          ⊎_elim (λ z. omega (arith, count_le (λ p. q (j ∷ p)) (walks g k i v)))
          (λ z. absurd (eqb-false (suc (distance g i v)) (distance g i j) e
          (omega (arith, (distance_shortest m hi hv).least k (walk_of_walks g k i v z), distance_bond m hi v j b))))
          (eq-zero-or-pos (length (walks g k i v)))

  pub count_step : (k j : ℕ) → distance g i j ≡ suc k → path_count g i j ≡ sum g.atoms (λ v. cond (near g i v j) (path_count g i v) 0)
  unfolding path_count
  count_step k j d =
      sym (count_all (shortest_paths g i j)) ∙ by_last k j (λ p. true) d
      ∙ sum_cong g.atoms (λ v w. ap (λ (x : ℕ). cond (near g i v j) x 0) (count_all (shortest_paths g i v)))

  pub using_step : (e : Bond) (k j : ℕ) → distance g i j ≡ suc k
      → paths_using g e i j ≡ sum g.atoms (λ v. cond (near g i v j) (cond (joins e v j) (path_count g i v) (paths_using g e i v)) 0)
  unfolding path_count paths_using shortest_paths
  using_step e k j d =
      by_last k j (uses e) d ∙ sum_cong g.atoms (λ v w. ap (λ (x : ℕ). cond (near g i v j) x 0) (uses_suc g e (distance g i v) i v j))

  -- at the start: one path, of no bonds
  pub count_self : path_count g i i ≡ 1
  unfolding path_count shortest_paths walks
  count_self = rw (distance_self m.sound hi, eq-eqb i i refl)

  pub using_self : (e : Bond) → paths_using g e i i ≡ 0
  unfolding paths_using shortest_paths walks passing_paths uses
  using_self e = rw (distance_self m.sound hi, eq-eqb i i refl)

  pub count_pos : {j : ℕ} → Within g.atoms j → 0 < path_count g i j
  unfolding path_count shortest_paths
  count_pos hj = walks_of_walk m.sound (distance_shortest m hi hj).walk

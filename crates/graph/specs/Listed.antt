-- Laws. `walks` lists each walk of k bonds from i to j once, and nothing else: how often a list of atoms stands in it. Assumes nothing.
use Prim.Native.Nat.{ℕ, zero, suc}
use Rattle.std.specs.Prelude.{Bool, ◌&&◌, ◌≡◌, eqb}
use Rattle.std.proofs.Math.Bool.{true, false, cond}
use Rattle.std.proofs.lemmas.Bool.{false≢true}
use mathlib.Core.List.{List, [], ◌∷◌}
use Rattle.std.proofs.Math.Path.{refl, sym, ap}
use Rattle.std.proofs.Common.{◌∙◌, ap₂, subst, arith, eqb-true, eq-eqb}
use Rattle.graph.specs.Graph.{Graph, Walk, Sound, bonded, distance, sum}
use Rattle.graph.specs.Graph.Walk.{stay, step}
use Rattle.graph.specs.Bonds.{both, both_true}
use Rattle.graph.specs.Sums.{sum_cong, sum_none, sum_pick}
use Rattle.graph.specs.Paths.{walks, shortest_paths, passing_paths}
use Rattle.graph.specs.Steps.{walks-suc}

-- whether two lists of atoms are the same
unfoldable pub same : List ℕ → List ℕ → Bool
same [] [] = true
same [] (b ∷ q) = false
same (a ∷ p) [] = false
same (a ∷ p) (b ∷ q) = eqb a b && same p q

-- whether p, from the atom before a back to i, leads from i to a along k bonds
unfoldable pub leads : Graph → ℕ → ℕ → ℕ → List ℕ → Bool
leads g zero i a [] = eqb i a
leads g zero i a (b ∷ p) = false
leads g (suc k) i a [] = false
leads g (suc k) i a (b ∷ p) = bonded g b a && leads g k i b p

-- whether a list of atoms, from j back to i, is a walk of k bonds
unfoldable pub is_walk : Graph → ℕ → ℕ → ℕ → List ℕ → Bool
is_walk g k i j [] = false
is_walk g k i j (a ∷ p) = eqb a j && leads g k i a p

pub same_is : (p q : List ℕ) → same p q ≡ true → p ≡ q
unfolding same
same_is [] [] e = refl
same_is [] (b ∷ q) e = absurd (false≢true e)
same_is (a ∷ p) [] e = absurd (false≢true e)
same_is (a ∷ p) (b ∷ q) e =
    let (h, t) = both (eqb a b) (same p q) e in
    ap₂ (λ (x : ℕ) (y : List ℕ). x ∷ y) (eqb-true a b h) (same_is p q t)

pub same_self : (p : List ℕ) → same p p ≡ true
unfolding same
same_self [] = refl
same_self (a ∷ p) = both_true (eqb a a) (same p p) (eq-eqb a a refl) (same_self p)

count_none : (a : List (List ℕ)) → passing_paths (λ p. false) a ≡ 0
unfolding passing_paths
count_none [] = refl
count_none (p ∷ a) = omega (arith, count_none a)

count_and : (t : Bool) (q : List ℕ → Bool) (a : List (List ℕ)) → passing_paths (λ p. t && q p) a ≡ cond t (passing_paths q a) 0
count_and true q a = refl
count_and false q a = count_none a

none : (t : Bool) → cond {A = ℕ} t 0 0 ≡ 0
none true = refl
none false = refl

never : (t : Bool) → cond {A = ℕ} (t && false) 1 0 ≡ 0
never true = refl
never false = refl

last_first : (s t u l : Bool) → cond s (cond t (cond {A = ℕ} (u && l) 1 0) 0) 0 ≡ cond u (cond (s && (t && l)) 1 0) 0
last_first true true true l = refl
last_first true true false l = refl
last_first true false true l = refl
last_first true false false l = refl
last_first false t true l = refl
last_first false t false l = refl

count_one : (t : Bool) (q : List ℕ → Bool) (p : List ℕ) → passing_paths q (cond t (p ∷ []) []) ≡ cond t (cond (q p) 1 0) 0
unfolding passing_paths
count_one true q p = omega arith
count_one false q p = refl

module _ {g : Graph} (s : Sound g) (i : ℕ) where
  -- a walk of no bonds is its one atom
  none_more : (j : ℕ) (p : List ℕ) → passing_paths (same p) (walks g 0 i j) ≡ cond (is_walk g 0 i j p) 1 0
  unfolding walks same is_walk leads
  none_more j p = count_one (eqb i j) (same p) (j ∷ []) ∙ go p
    where
      long : (t u : Bool) → cond t (cond {A = ℕ} (u && false) 1 0) 0 ≡ cond (u && false) 1 0
      long true u = refl
      long false true = refl
      long false false = refl

      here : (a : ℕ) (u : Bool) → eqb a j ≡ u → cond (eqb i j) (cond {A = ℕ} (u && true) 1 0) 0 ≡ cond (u && eqb i a) 1 0
      here a true e = ap (λ (x : ℕ). cond {A = ℕ} (eqb i x) 1 0) (sym (eqb-true a j e))
      here a false e = none (eqb i j)

      go : (p : List ℕ) → cond (eqb i j) (cond {A = ℕ} (same p (j ∷ [])) 1 0) 0 ≡ cond (is_walk g 0 i j p) 1 0
      go [] = none (eqb i j)
      go (a ∷ []) = here a (eqb a j) refl
      go (a ∷ b ∷ p) = long (eqb i j) (eqb a j)

  -- of the atoms before j the list names one
  one_before : (k j a b : ℕ) (p : List ℕ)
      → sum g.atoms (λ v. cond (bonded g v j) (cond (eqb a j) (cond (is_walk g k i v (b ∷ p)) 1 0) 0) 0) ≡ cond (is_walk g (suc k) i j (a ∷ b ∷ p)) 1 0
  unfolding is_walk leads
  one_before k j a b p =
      sum_cong g.atoms (λ v w. last_first (bonded g v j) (eqb a j) (eqb b v) (leads g k i b p))
      ∙ go (bonded g b j) refl
      ∙ back (eqb a j) refl
    where
      far : ℕ → ℕ
      far v = cond (bonded g v j && (eqb a j && leads g k i b p)) 1 0

      missed : (t : Bool) (v : ℕ) → eqb b v ≡ t → bonded g b j ≡ false → cond t (far v) 0 ≡ 0
      missed true v e f = rw (sym (ap (λ (x : ℕ). bonded g x j) (eqb-true b v e)) ∙ f)
      missed false v e f = refl

      go : (t : Bool) → bonded g b j ≡ t → sum g.atoms (λ v. cond (eqb b v) (far v) 0) ≡ far b
      go true e = sum_pick g.atoms b far (s.ends b j e)
      go false e = sum_cong g.atoms {h = λ v. 0} (λ v w. missed (eqb b v) v refl e) ∙ sum_none g.atoms ∙ sym (rw e)

      back : (u : Bool) → eqb a j ≡ u → cond {A = ℕ} (bonded g b j && (u && leads g k i b p)) 1 0 ≡ cond (u && (bonded g b a && leads g k i b p)) 1 0
      back true e = ap (λ (x : ℕ). cond {A = ℕ} (bonded g b x && leads g k i b p) 1 0) (sym (eqb-true a j e))
      back false e = never (bonded g b j)

  -- THE LAW: a list of atoms stands in `walks` once where it is a walk, and else not at all
  pub walks_once : (k j : ℕ) (p : List ℕ) → passing_paths (same p) (walks g k i j) ≡ cond (is_walk g k i j p) 1 0
  unfolding same is_walk leads
  walks_once zero j p = none_more j p
  walks_once (suc k) j [] =
      walks-suc g k i j (same [])
      ∙ sum_cong g.atoms {h = λ v. 0} (λ v w. ap (λ (x : ℕ). cond (bonded g v j) x 0) (count_none (walks g k i v)) ∙ none (bonded g v j))
      ∙ sum_none g.atoms
  walks_once (suc k) j (a ∷ p) =
      walks-suc g k i j (same (a ∷ p))
      ∙ sum_cong g.atoms (λ v w. ap (λ (x : ℕ). cond (bonded g v j) x 0)
      (count_and (eqb a j) (same p) (walks g k i v) ∙ ap (λ (x : ℕ). cond (eqb a j) x 0) (walks_once k v p)))
      ∙ go p
    where
      go : (p : List ℕ) → sum g.atoms (λ v. cond (bonded g v j) (cond (eqb a j) (cond (is_walk g k i v p) 1 0) 0) 0) ≡ cond (is_walk g (suc k) i j (a ∷ p)) 1 0
      go [] =
          sum_cong g.atoms {h = λ v. 0} (λ v w. ap (λ (x : ℕ). cond (bonded g v j) x 0) (none (eqb a j)) ∙ none (bonded g v j))
          ∙ sum_none g.atoms ∙ sym (never (eqb a j))
      go (b ∷ p) = one_before k j a b p

  -- so it is with the shortest paths
  pub paths_once : (j : ℕ) (p : List ℕ) → passing_paths (same p) (shortest_paths g i j) ≡ cond (is_walk g (distance g i j) i j p) 1 0
  unfolding shortest_paths
  paths_once j p = walks_once (distance g i j) j p

-- such a list of atoms is a walk, and each walk has one
pub walk_of_list : (g : Graph) (k i j : ℕ) (p : List ℕ) → is_walk g k i j p ≡ true → Walk g i j k
unfolding is_walk
walk_of_list g k i j [] e = absurd (false≢true e)
walk_of_list g k i j (a ∷ p) e =
    let (h, l) = both (eqb a j) (leads g k i a p) e in
    subst (λ (v : ℕ). Walk g i v k) (eqb-true a j h) (led k a p l)
  where
    led : (k a : ℕ) (p : List ℕ) → leads g k i a p ≡ true → Walk g i a k
    led zero a [] e = subst (λ (v : ℕ). Walk g i v 0) (eqb-true i a (unfold leads in e)) stay
    led zero a (b ∷ p) e = absurd (false≢true (unfold leads in e))
    led (suc k) a [] e = absurd (false≢true (unfold leads in e))
    led (suc k) a (b ∷ p) e = let (h, l) = both (bonded g b a) (leads g k i b p) (unfold leads in e) in step (led k b p l) h

pub list_of_walk : {g : Graph} {i j k : ℕ} → Walk g i j k → (p : List ℕ) × (is_walk g k i j (j ∷ p) ≡ true)
unfolding is_walk leads
list_of_walk {i = i} stay = ([], both_true (eqb i i) (eqb i i) (eq-eqb i i refl) (eq-eqb i i refl))
list_of_walk {g} {i} (step {v = v} {w = w} {k = k} q b) =
    let (p, e) = list_of_walk q in
    let (h, l) = both (eqb v v) (leads g k i v p) e in
    (v ∷ p, both_true (eqb w w) (bonded g v w && leads g k i v p) (eq-eqb w w refl) (both_true (bonded g v w) (leads g k i v p) b l))

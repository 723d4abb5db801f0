-- Laws. A shortest path repeats no atom. Assumes nothing.
use Prim.Native.Nat.{ℕ, zero, suc, ◌+◌, ◌≤◌}
use Rattle.std.specs.Prelude.{Bool, false, cond, ◌⊎◌, ◌≡◌, eqb}
use Rattle.std.proofs.Math.Bool.{true}
use Rattle.std.proofs.lemmas.Bool.{false≢true}
use mathlib.Core.List.{List, [], ◌∷◌}
use Rattle.std.proofs.Common.{inl, inr, sym, arith, eqb-true, eq-eqb}
use Rattle.std.proofs.Math.Logic.{⊎_elim}
use Rattle.std.proofs.Math.Path.{refl, subst}
use Rattle.graph.specs.Graph.{Graph, Walk, Within, Molecule, bonded, distance}
use Rattle.graph.specs.Graph.Walk.{step}
use Rattle.graph.specs.Bonds.{both, both_true}
use Rattle.graph.specs.Distance.{distance_shortest}
use Rattle.graph.specs.Listed.{leads, is_walk, walk_of_list}

-- how often an atom stands in a list
unfoldable pub times : ℕ → List ℕ → ℕ
times v [] = 0
times v (a ∷ p) = cond (eqb a v) 1 0 + times v p

none_there : (v : ℕ) → times v [] ≡ 0
unfolding times
none_there v = refl

at_front : (v a : ℕ) (p : List ℕ) → times v (a ∷ p) ≡ cond (eqb a v) 1 0 + times v p
unfolding times
at_front v a p = refl

one_at_most : (v a : ℕ) (p : List ℕ) → times v p ≡ 0 → times v (a ∷ p) ≤ 1
one_at_most v a p z = go (eqb a v) refl
  where
    go : (t : Bool) → eqb a v ≡ t → times v (a ∷ p) ≤ 1
    go true q = omega (arith, rw q at (at_front v a p))
    go false q = omega (arith, rw q at (at_front v a p))

-- an atom of a list is its first, or one of the others
front_or_behind : (v a : ℕ) (p : List ℕ) → 1 ≤ times v (a ∷ p) → (a ≡ v) ⊎ (1 ≤ times v p)
front_or_behind v a p h = go (eqb a v) refl
  where
    go : (t : Bool) → eqb a v ≡ t → (a ≡ v) ⊎ (1 ≤ times v p)
    go true q = inl (eqb-true a v q)
    go false q = inr (omega (arith, rw q at (at_front v a p)))

module _ {g : Graph} {i : ℕ} where
  led : (k a : ℕ) (p : List ℕ) → leads g k i a p ≡ true → Walk g i a k
  unfolding is_walk
  led k a p e = walk_of_list g k i a (a ∷ p) (both_true (eqb a a) (leads g k i a p) (eq-eqb a a refl) e)

  -- to each atom of a walk of k bonds leads a walk of at most k
  met : (k a : ℕ) (p : List ℕ) → leads g k i a p ≡ true → (v : ℕ) → 1 ≤ times v (a ∷ p) → (m : ℕ) × Walk g i v m × (m ≤ k)
  unfolding leads
  met zero a [] e v h =
      ⊎_elim (λ q. (0, subst (λ (u : ℕ). Walk g i u 0) q (led 0 a [] e), omega arith)) (λ q. absurd (omega (arith, none_there v))) (front_or_behind v a [] h)
  met zero a (b ∷ p) e v h = absurd (false≢true e)
  met (suc k) a [] e v h = absurd (false≢true e)
  met (suc k) a (b ∷ p) e v h =
      ⊎_elim (λ q. (suc k, subst (λ (u : ℕ). Walk g i u (suc k)) q (led (suc k) a (b ∷ p) e), omega arith))
      (λ q. let (m, w, l) = met k b p (both (bonded g b a) (leads g k i b p) e).1 v q in (m, w, omega arith))
      (front_or_behind v a (b ∷ p) h)

  -- so where no walk to its end is shorter, no atom of it is met again
  once : (k a : ℕ) (p : List ℕ) → leads g k i a p ≡ true → ((m : ℕ) → Walk g i a m → k ≤ m) → (v : ℕ) → times v (a ∷ p) ≤ 1
  unfolding leads
  once zero a [] e h v = one_at_most v a [] (none_there v)
  once zero a (b ∷ p) e h v = absurd (false≢true e)
  once (suc k) a [] e h v = absurd (false≢true e)
  once (suc k) a (b ∷ p) e h v =
      let (j, l) = both (bonded g b a) (leads g k i b p) e in
      go (eqb a v) refl l (once k b p l (λ m w. omega (arith, h (suc m) (step w j))) v)
    where
      again : a ≡ v → leads g k i b p ≡ true → 1 ≤ times v (b ∷ p) → ⊥
      again q l n = let (m, w, s) = met k b p l v n in omega (arith, h m (subst (λ (u : ℕ). Walk g i u m) (sym q) w))

      absent : a ≡ v → leads g k i b p ≡ true → times v (b ∷ p) ≡ 0
      absent q l = let f : 1 ≤ times v (b ∷ p) → ⊥ = again q l in omega arith

      go : (t : Bool) → eqb a v ≡ t → leads g k i b p ≡ true → times v (b ∷ p) ≤ 1 → times v (a ∷ b ∷ p) ≤ 1
      go true q l n = one_at_most v a (b ∷ p) (absent (eqb-true a v q) l)
      go false q l n = omega (arith, rw q at (at_front v a (b ∷ p)))

-- THE LAW: of the lists in `shortest_paths` (`paths_once`: those that are walks of as many bonds as the distance) none has an atom twice
pub repeats_none : {g : Graph} → Molecule g → (i j : ℕ) → Within g.atoms i → Within g.atoms j → (p : List ℕ) → is_walk g (distance g i j) i j p ≡ true
    → (v : ℕ) → times v p ≤ 1
unfolding is_walk
repeats_none m i j hi hj [] e v = absurd (false≢true e)
repeats_none {g} m i j hi hj (a ∷ p) e v =
    let (q, l) = both (eqb a j) (leads g (distance g i j) i a p) e in
    once (distance g i j) a p l (λ n w. (distance_shortest m hi hj).least n (subst (λ (u : ℕ). Walk g i u n) (eqb-true a j q) w)) v

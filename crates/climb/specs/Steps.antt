-- Laws. A step of the climb: the number of two placed atoms by that of the later one's own atom, and of the atom that it is joined to. Assumes nothing.
use Prim.Native.Nat.{ℕ, zero, suc, ◌+◌, ◌-◌, ◌≤◌, ◌<◌}
use Rattle.std.specs.Prelude.{Bool, ◌||◌, cond, List, ◌≡◌, ltb}
use Rattle.std.proofs.Math.Bool.{true, false}
use Rattle.std.proofs.Math.Path.{refl}
use Rattle.std.proofs.Common.{sym, ◌∙◌, ap, arith}
use borrow.Author.Tests.{ne_eqb, eqb-true, eqb-false, ltb-true, ltb-false}
use Rattle.std.proofs.Math.Dec.{eqb}
use Rattle.graph.specs.Assembly.{Join}
use Rattle.assembly.specs.Placements.{most_placements, placement_at, join_of, join_on}
use Rattle.assembly.specs.declared.Placement.{Placement}
use Rattle.joining.specs.Parts.{Part, far_in}
use Rattle.joining.proofs.Whole.{far_on, far_off}
use Rattle.joining.proofs.Climb.{far_keeps, far_same}
use Rattle.summaries.specs.Composing.{kept_on}
use Rattle.climb.specs.Far.{far_of, far_by, earlier_of}

pub earlier_low : (p k : ℕ) → 1 ≤ k → earlier_of p k < k
earlier_low p k h = go (eqb p 0) refl (ltb k p) refl
  where
    go : (s : Bool) → eqb p 0 ≡ s → (t : Bool) → ltb k p ≡ t → cond (s || t) 0 (p - 1) < k
    go true e t f = omega arith
    go false e true f = omega arith
    go false e false f = omega (arith, eqb-false p 0 e, ltb-false k p f)

module _ (parts : ℕ → Part) (joins : ℕ → Join) where
  abbrev far : ℕ → ℕ → ℕ → ℕ → ℕ → ℕ
  far m k i l j = far_in parts joins m k i l j

  -- a turn, whether k or l is its index or not
  turn : (m k i l j : ℕ) (s t : Bool) → eqb k (suc m) ≡ s → eqb l (suc m) ≡ t → ℕ
  turn m k i l j true true e f = (parts (suc m)).far i j
  turn m k i l j true false e f = (parts (suc m)).far (joins (suc m)).own i + 1 + far m ((joins (suc m)).parent - 1) (joins (suc m)).site l j
  turn m k i l j false true e f = far m ((joins (suc m)).parent - 1) (joins (suc m)).site k i + 1 + (parts (suc m)).far (joins (suc m)).own j
  turn m k i l j false false e f = far m k i l j

  turned : (m k i l j : ℕ) (s t : Bool) (e : eqb k (suc m) ≡ s) (f : eqb l (suc m) ≡ t) → far (suc m) k i l j ≡ turn m k i l j s t e f
  unfolding far_in turn
  turned m k i l j true true e f = rw (e, far_in) (rw f)
  turned m k i l j true false e f = rw (e, far_in) (rw f)
  turned m k i l j false true e f = rw (e, far_in) (rw f)
  turned m k i l j false false e f = rw (e, far_in) (rw f)

  -- a placement behind the last counts as the first
  record Lost (m : ℕ) : Type 0 where
    one : (k i l j : ℕ) → m < k → far m k i l j ≡ far m 0 i l j
    two : (k i l j : ℕ) → m < l → far m k i l j ≡ far m k i 0 j

  lost : (m : ℕ) → Lost m
  unfolding far_in turn
  lost zero = record { one = λ k i l j h. refl; two = λ k i l j h. refl }
  lost (suc m) = next (lost m)
    where
      none : eqb 0 (suc m) ≡ false
      none = ne_eqb 0 (suc m) (λ e. omega arith)

      next : Lost m → Lost (suc m)
      next w = record {
        one = λ k i l j h. first k i l j (ne_eqb k (suc m) (λ e. omega arith)) (omega arith) (eqb l (suc m)) refl;
        two = λ k i l j h. second k i l j (ne_eqb l (suc m) (λ e. omega arith)) (omega arith) (eqb k (suc m)) refl;
      }
        where
          first : (k i l j : ℕ) → eqb k (suc m) ≡ false → m < k → (t : Bool) → eqb l (suc m) ≡ t → far (suc m) k i l j ≡ far (suc m) 0 i l j
          first k i l j e h true f =
              turned m k i l j false true e f
              ∙ ap (λ (x : ℕ). x + 1 + (parts (suc m)).far (joins (suc m)).own j) (w.two ((joins (suc m)).parent - 1) (joins (suc m)).site k i h)
              ∙ sym (turned m 0 i l j false true none f)
          first k i l j e h false f = turned m k i l j false false e f ∙ w.one k i l j h ∙ sym (turned m 0 i l j false false none f)

          second : (k i l j : ℕ) → eqb l (suc m) ≡ false → m < l → (t : Bool) → eqb k (suc m) ≡ t → far (suc m) k i l j ≡ far (suc m) k i 0 j
          second k i l j e h true f =
              turned m k i l j true false f e
              ∙ ap (λ (x : ℕ). (parts (suc m)).far (joins (suc m)).own i + 1 + x) (w.two ((joins (suc m)).parent - 1) (joins (suc m)).site l j h)
              ∙ sym (turned m k i 0 j true false f none)
          second k i l j e h false f = turned m k i l j false false f e ∙ w.two k i l j h ∙ sym (turned m k i 0 j false false f none)

  -- so it does not matter whether a parent is one of the earlier ones
  led : (m p s l j : ℕ) → far m (p - 1) s l j ≡ far m (earlier_of p (suc m)) s l j
  led m p s l j = go (eqb p 0) refl (ltb (suc m) p) refl
    where
      go : (t : Bool) → eqb p 0 ≡ t → (u : Bool) → ltb (suc m) p ≡ u → far m (p - 1) s l j ≡ far m (cond (t || u) 0 (p - 1)) s l j
      go true e u f = let z : p - 1 ≡ 0 = omega (arith, eqb-true p 0 e) in ap (λ (x : ℕ). far m x s l j) z
      go false e true f = (lost m).one (p - 1) s l j (omega (arith, ltb-true (suc m) p f))
      go false e false f = refl

  -- k is the later one, and l is
  step_down : (n k i l j : ℕ) → k ≤ n → l < k → far n k i l j ≡ (parts k).far (joins k).own i + 1 + far n (earlier_of (joins k).parent k) (joins k).site l j
  step_down n zero i l j h q = absurd (omega arith)
  step_down n (suc m) i l j h q =
      far_keeps parts joins n (suc m) (suc m) i l j h (omega arith) (omega arith)
      ∙ far_off parts joins m (suc m) i l j refl (omega arith)
      ∙ ap (λ (x : ℕ). (parts (suc m)).far (joins (suc m)).own i + 1 + x)
      (led m (joins (suc m)).parent (joins (suc m)).site l j
      ∙ sym (far_keeps parts joins n m (earlier_of (joins (suc m)).parent (suc m)) (joins (suc m)).site l j (omega arith) (omega (arith, earlier_low (joins (suc m)).parent (suc m) (omega arith))) (omega arith)))

  turn_round : (n k i l j : ℕ) → l ≤ n → k < l → far n k i l j ≡ far n l j k i
  turn_round n k i zero j h q = absurd (omega arith)
  turn_round n k i (suc m) j h q = omega (
    arith,
    far_keeps parts joins n (suc m) k i (suc m) j h (omega arith) (omega arith),
    far_on parts joins m k i (suc m) j (omega arith) refl,
    far_keeps parts joins n (suc m) (suc m) j k i h (omega arith) (omega arith),
    far_off parts joins m (suc m) j k i refl (omega arith),
  )

-- over a book
module _ (b xs : List ℕ) (k i l j : ℕ) where
  pub within_one : k < most_placements → k ≡ l → (q : Placement) → q ≡ placement_at xs k → far_by b xs k i l j ≡ far_of b q.block i j
  within_one h e q f = rw f (ap (λ (x : ℕ). far_by b xs k i x j) (sym e) ∙ far_same (kept_on b xs) (join_on (placement_at xs)) (most_placements - 1) k i j (omega arith))

  pub from_later : k < most_placements → l < k → (q : Placement) → q ≡ placement_at xs k
      → far_by b xs k i l j ≡ far_of b q.block q.own i + 1 + far_by b xs (earlier_of q.parent k) q.site l j
  unfolding join_of
  from_later h g q e = rw e (step_down (kept_on b xs) (join_on (placement_at xs)) (most_placements - 1) k i l j (omega arith) g)

  pub turned_round : l < most_placements → k < l → far_by b xs k i l j ≡ far_by b xs l j k i
  turned_round h g = turn_round (kept_on b xs) (join_on (placement_at xs)) (most_placements - 1) k i l j (omega arith) g

-- Laws. The weights after a merge is stored, and the keys after more is added to one.
use Prim.Native.Nat.{ℕ, ◌+◌, ◌<◌}
use mathlib.Core.Bool.{Bool, cond}
use mathlib.Core.List.{List}
use mathlib.Core.Path.{◌≡◌, sym, ap₂, ◌∙◌}
use native.Mathlib.Decide.{ℕ_discrete}
use native.Mathlib.Omega.{arith}
use lib.Dec.{eqb}
use lib.ListN.{length, get_or, set, length-set}
use lib.Seq.{get_or-set_same, get_or-set_other}
use borrow.Author.Tests.{eq-eqb, ne_eqb}
use Rattle.sets.specs.Merging.{weight, taken, held, Store, Stored}
use Rattle.sets.specs.declared.Weight.{Weight}

module _ (l : List ℕ) (u v x y : ℕ) where
  -- first at v, then at u
  abbrev twice : List ℕ
  twice = set (set l v x) u y

  pub at_child : u < length l → get_or twice u 0 ≡ y
  at_child i = get_or-set_same (set l v x) u y 0 (omega (arith, length-set l v x))

  pub at_parent : v < length l → (u ≡ v → ⊥) → get_or twice v 0 ≡ x
  at_parent i ne = get_or-set_other (set l v x) u v y 0 (λ z. ne (sym z)) ∙ get_or-set_same l v x 0 i

  pub elsewhere : (t : ℕ) → (t ≡ u → ⊥) → (t ≡ v → ⊥) → get_or twice t 0 ≡ get_or l t 0
  elsewhere t f g = get_or-set_other (set l v x) u t y 0 f ∙ get_or-set_other l v t x 0 g

  pub twice_size : length twice ≡ length l
  twice_size = length-set (set l v x) u y ∙ length-set l v x

pub stored : (κ : Bool) (xs ys : List ℕ) (u v : ℕ) (w : Weight) → Store κ xs ys u v → w ≡ taken κ (held xs ys v) (held xs ys u) → Stored κ xs ys u v (set (set xs v w.x) u 1) (set (set ys v w.y) u 0)
stored κ xs ys u v w s e =
    let i : u < length xs = omega (arith, s.child, s.first) in
    let j : u < length ys = omega (arith, s.child, s.second) in
    let k : v < length xs = omega (arith, s.parent, s.first) in
    let l : v < length ys = omega (arith, s.parent, s.second) in
    record {
      first = twice_size xs u v w.x 1 ∙ s.first;
      second = twice_size ys u v w.y 0 ∙ s.second;
      child = ap₂ weight (at_child xs u v w.x 1 i) (at_child ys u v w.y 0 j);
      parent = ap₂ weight (at_parent xs u v w.x 1 k s.differ) (at_parent ys u v w.y 0 l s.differ) ∙ e;
      others = λ t f g. ap₂ weight (elsewhere xs u v w.x 1 t f g) (elsewhere ys u v w.y 0 t f g);
    }

-- there is still an entry for u
pub room_first : {κ : Bool} {xs ys : List ℕ} {u v : ℕ} → Store κ xs ys u v → (x : ℕ) → u < length (set xs v x)
room_first {xs = xs} {v = v} s x = omega (arith, length-set xs v x, s.child, s.first)

pub room_second : {κ : Bool} {xs ys : List ℕ} {u v : ℕ} → Store κ xs ys u v → (y : ℕ) → u < length (set ys v y)
room_second {ys = ys} {v = v} s y = omega (arith, length-set ys v y, s.child, s.second)

-- x more at u
pub more_at : (l : List ℕ) (u x v : ℕ) → u < length l → get_or (set l u (get_or l u 0 + x)) v 0 ≡ cond (eqb u v) x 0 + get_or l v 0
more_at l u x v i = elim (ℕ_discrete u v) [
  | yes e ↦ rw (eq-eqb u v e, ← e) (get_or-set_same l u (get_or l u 0 + x) 0 i ∙ omega arith)
  | no ne ↦ rw (ne_eqb u v ne) (get_or-set_other l u v (get_or l u 0 + x) 0 (λ z. ne (sym z)) ∙ omega arith)
]

-- Laws. What the bonds before say of two atoms, bond by bond. Assumes nothing.
use Prim.Native.Nat.{ℕ, ◌+◌, ◌*◌, ◌≤◌}
use mathlib.Core.Bool.{Bool, false, ◌||◌, cond}
use mathlib.Core.List.{List}
use mathlib.Core.Path.{◌≡◌, refl, sym, ◌∙◌}
use native.Mathlib.Omega.{arith}
use native.Mathlib.Numerals.{add-one}
use lib.Dec.{eqb}
use lib.ListN.{get_or}
use Rattle.graph.specs.Graph.{joins, any_joins, degree}
use Rattle.block.specs.Numbered.{bond_at}
use Rattle.block.proofs.Reading.{before}
use Rattle.wholefile.specs.Said.{seen_by}

-- what the first k bonds say
pub record LookedBack (xs : List ℕ) (a b k : ℕ) (joined : Bool) (one two : ℕ) : Type 0 where
  pub joined_is : joined ≡ any_joins (before xs k) a b
  pub one_is : one ≡ degree (before xs k) a
  pub two_is : two ≡ degree (before xs k) b
  pub few : (one ≤ 2 * k) × (two ≤ 2 * k)

pub looked_none : (xs : List ℕ) (a b : ℕ) → LookedBack xs a b 0 false 0 0
unfolding before any_joins degree
looked_none xs a b = record { joined_is = refl; one_is = refl; two_is = refl; few = omega arith }

any_more : (xs : List ℕ) (a b k : ℕ) → any_joins (before xs (k + 1)) a b ≡ (joins (bond_at xs k) a b || any_joins (before xs k) a b)
unfolding before any_joins
any_more xs a b k = rw (add-one k)

degree_more : (xs : List ℕ) (v k : ℕ) → degree (before xs (k + 1)) v ≡ cond (eqb (get_or xs (2 * k) 0) v) 1 0 + cond (eqb (get_or xs (2 * k + 1) 0) v) 1 0 + degree (before xs k) v
unfolding before degree
degree_more xs v k = rw (add-one k)

module _ (xs : List ℕ) (a b k : ℕ) (joined : Bool) (one two : ℕ) (L : LookedBack xs a b k joined one two) where
  pub looked_more : (joined' s : Bool) (u v w z : ℕ) → joined' ≡ (s || joined) → s ≡ joins (bond_at xs k) a b
      → (u ≡ cond (eqb (get_or xs (2 * k) 0) a) 1 0) × (u ≤ 1) → (v ≡ cond (eqb (get_or xs (2 * k + 1) 0) a) 1 0) × (v ≤ 1)
      → (w ≡ cond (eqb (get_or xs (2 * k) 0) b) 1 0) × (w ≤ 1) → (z ≡ cond (eqb (get_or xs (2 * k + 1) 0) b) 1 0) × (z ≤ 1)
      → LookedBack xs a b (k + 1) joined' (u + v + one) (w + z + two)
  looked_more joined' s u v w z e f p q r t = record {
    joined_is = e ∙ rw (f, L.joined_is) (sym (any_more xs a b k));
    one_is = rw (p.0, q.0, L.one_is) (sym (degree_more xs a k));
    two_is = rw (r.0, t.0, L.two_is) (sym (degree_more xs b k));
    few = omega (arith, p.1, q.1, r.1, t.1, L.few);
  }

pub looked_all : (xs : List ℕ) (a b k i : ℕ) {joined : Bool} {one two : ℕ} → i ≡ k → LookedBack xs a b i joined one two
    → record { joined = joined; one = one; two = two } ≡ seen_by (before xs k) a b
looked_all xs a b k i e L = rw (← e) (λ j. record { joined = L.joined_is j; one = L.one_is j; two = L.two_is j })

-- The counts n(k) of a graph: none is above the square of the atom count, those beyond the largest distance are 0, and the values need no others than those that a block's table holds.
use Prim.Native.Nat.{ℕ, zero, suc, ◌*◌, ◌≤◌, ◌<◌}
use mathlib.Core.Path.{◌≡◌, refl}
use mathlib.Core.Bool.{Bool, true, false, cond}
use native.Mathlib.Nat.{mul-le-mul}
use native.Mathlib.Omega.{arith}
use lib.Dec.{eqb}
use lib.Ieee.{Float}
use borrow.Author.Tests.{ne_eqb}
use Rattle.graph.specs.Graph.{Graph, Within, Molecule, distance, total, is_at, pairs_at}
use Rattle.graph.specs.Sums.{wider, last}
use Rattle.graph.specs.Bounds.{pairs_most}
use Rattle.block.specs.Block.{most_atoms}
use Rattle.block.specs.Index.{pairs_of}
use Rattle.block.specs.Tables.{get_or-table}
use Rattle.poly.specs.Poly.{pairs_counted, of_parity, turn, horner, most_distance, value, polynomial_values, polynomial_at, zero_f}
use Rattle.graph.specs.Farthest.{largest}
use Rattle.graph.specs.Largest.{largest_over}

is_at_most : (k d : ℕ) → is_at k d ≤ 1
unfolding is_at
is_at_most k d = go (eqb d k)
  where
    go : (b : Bool) → cond b 1 0 ≤ 1
    go true = omega arith
    go false = omega arith

pub count_most : (g : Graph) (k m : ℕ) → g.atoms ≤ m → pairs_at g k ≤ m * m
unfolding total
count_most g k m h =
    omega (arith, pairs_most g.atoms 1 (λ i j. is_at k (distance g i j)) (λ i j w v. is_at_most k (distance g i j)), mul-le-mul h h)

not_at : (k d : ℕ) → d < k → is_at k d ≡ 0
unfolding is_at
not_at k d h = rw (ne_eqb d k (omega arith))

pub none_beyond : (g : Graph) (d k : ℕ) → Molecule g → largest g ≤ d → d < k → pairs_at g k ≡ 0
unfolding total
none_beyond g d k m short h =
    omega (arith, pairs_most g.atoms 0 (λ i j. is_at k (distance g i j)) (λ i j w v. omega (arith, not_at k (distance g i j) (omega (arith, largest_over m i j w v)))))

-- the values at counts that agree from 1 on
horner_same : (n m : ℕ → ℕ) (x : Float) (k : ℕ) (v : Float) → ((i : ℕ) → Within k i → n i ≡ m i) → horner n x k v ≡ horner m x k v
unfolding horner
horner_same n m x zero v e = refl
horner_same n m x (suc k) v e = rw (e (suc k) (last k)) (horner_same n m x k (turn (m (suc k)) x v) (λ i w. e i (wider w)))

value_same : (p : ℕ) (n m : ℕ → ℕ) (x : Float) → ((i : ℕ) → Within most_distance i → n i ≡ m i) → value p n x ≡ value p m x
unfolding value of_parity
value_same p n m x e = horner_same (of_parity p n) (of_parity p m) x most_distance zero_f (λ i w. rw (e i w))

-- the values at the counts of a block's table are those at the counts of its graph
pub table_values : (g : Graph) (x : Float) → polynomial_at (pairs_counted (pairs_of g)) x ≡ polynomial_at (pairs_at g) x
unfolding polynomial_at polynomial_values pairs_of
table_values g x =
    let e : (i : ℕ) → Within most_distance i → pairs_counted (pairs_of g) i ≡ pairs_at g i = λ i w. get_or-table most_atoms (pairs_at g) i 0 (omega arith) in
    rw (value_same 0 (pairs_counted (pairs_of g)) (pairs_at g) x e, value_same 1 (pairs_counted (pairs_of g)) (pairs_at g) x e)

-- The bonds are tested one by one: what holds after k of them. Assumes nothing.
use Prim.Native.Nat.{ℕ, zero, suc, ◌+◌, ◌-◌, ◌*◌, ◌≤◌, ◌<◌}
use mathlib.Core.Bool.{Bool, true, false, ◌&&◌, ◌||◌, not, cond, or-false}
use mathlib.Core.List.{List, [], ◌∷◌}
use mathlib.Core.Logic.{◌≢◌}
use mathlib.Core.Path.{◌≡◌, refl, sym, ap, ◌∙◌}
use native.Mathlib.Omega.{arith}
use native.Mathlib.Numerals.{add-one}
use borrow.Author.Tests.{le-leb, lt-leb}
use lib.Dec.{eqb, leb}
use lib.ListN.{length, get_or, take, drop, replicate, length-take}
use lib.Pow.{pow_pos}
use lib.Seq.{get_or-take}
use Rattle.graph.specs.Graph.{Bond, joins, any_joins, bonded, degree}
use Rattle.graph.specs.Sets.{has}
use Rattle.graph.specs.SetLaws.{has-none}
use Rattle.graph.specs.Bonds.{any_none}
use Rattle.reply.specs.Read.{refused, read, ◌then◌, refuse_for, refusal}
use Rattle.block.specs.Block.{limit, most_atoms, bonds_of, graph_of, bond_fault, bonds_reply}
use Rattle.block.specs.Near.{Draws}
use Rattle.block.specs.Numbered.{bond_at, rest, rest_cons, rest_none, bonds_next, bonds_over}
use Rattle.block.specs.Lent.{zeros}

-- the first k bonds, the last of them first
unfoldable pub before : List ℕ → ℕ → List Bond
before xs zero = []
before xs (suc k) = bond_at xs k ∷ before xs k

length_before : (xs : List ℕ) (k : ℕ) → length (before xs k) ≡ k
unfolding before
length_before xs zero = refl
length_before xs (suc k) = ap suc (length_before xs k)

-- before k, or from k on
joined_before : (xs : List ℕ) (k : ℕ) → 2 * k ≤ length xs → (u v : ℕ) → (any_joins (before xs k) u v || any_joins (rest xs k) u v) ≡ any_joins (bonds_of xs) u v
unfolding before any_joins
joined_before xs zero l u v = refl
joined_before xs (suc k) l u v =
    turn (joins (bond_at xs k) u v) (any_joins (before xs k) u v) (any_joins (rest xs (suc k)) u v)
    ∙ rw (rest_cons xs k (omega arith)) at (joined_before xs k (omega arith) u v)
  where
    turn : (p q r : Bool) → ((p || q) || r) ≡ (q || (p || r))
    turn true true r = refl
    turn true false r = refl
    turn false q r = refl

-- after the last
pub all_before : (n : ℕ) (xs : List ℕ) (k : ℕ) → 2 * k ≤ length xs → length xs < 2 * k + 2 → (u v : ℕ) → any_joins (before xs k) u v ≡ bonded (graph_of n xs) u v
unfolding bonded any_joins
all_before n xs k l last u v =
    sym (or-false (any_joins (before xs k) u v)) ∙ rw (rest_none xs k last, any_joins) at (joined_before xs k l u v)

abbrev pub blank : List ℕ
blank = replicate most_atoms 0

pub blank_draws : (n : ℕ) → n ≤ most_atoms → Draws n (any_joins []) blank
unfolding any_joins
blank_draws n s = record {
  small = s;
  size = refl;
  ends = λ u w e. absurd (any_none u w e);
  drawn = λ u w a b. ap (λ (x : ℕ). has x w) (zeros most_atoms (u - 1)) ∙ has-none w;
  fits = λ p. omega (arith, zeros most_atoms p, pow_pos n);
  behind = λ p l. zeros most_atoms p;
}

-- the ends at an atom, before k or from k on
ends_before : (xs : List ℕ) (k : ℕ) → 2 * k ≤ length xs → (v : ℕ) → degree (before xs k) v + degree (rest xs k) v ≡ degree (bonds_of xs) v
unfolding before degree
ends_before xs zero l v = omega arith
ends_before xs (suc k) l v = omega (arith, rw (rest_cons xs k (omega arith), degree) at (ends_before xs k (omega arith) v))

before-take : (xs : List ℕ) (m k : ℕ) → k ≤ m → before (take (2 * m) xs) k ≡ before xs k
unfolding before
before-take xs m zero l = refl
before-take xs m (suc k) l = rw (get_or-take (2 * m) xs (2 * k) 0 (omega arith), get_or-take (2 * m) xs (2 * k + 1) 0 (omega arith), before-take xs m k (omega arith))

-- a bond has the same fault after the first k bonds in either order
module _ (n : ℕ) (xs : List ℕ) (k : ℕ) (l : 2 * k ≤ length xs) where
  abbrev ys : List ℕ
  ys = take (2 * k) xs

  long : length ys ≡ 2 * k
  long = length-take (2 * k) xs ∙ omega arith

  same_joined : (u v : ℕ) → any_joins (bonds_of ys) u v ≡ any_joins (before xs k) u v
  unfolding bonded
  same_joined u v = sym (all_before n ys k (omega (arith, long)) (omega (arith, long)) u v) ∙ ap (λ (bs : List Bond). any_joins bs u v) (before-take xs k k (omega arith))

  same_ends : (v : ℕ) → degree (bonds_of ys) v ≡ degree (before xs k) v
  unfolding degree
  same_ends v =
      let none : degree (rest ys k) v ≡ 0 = rw (rest_none ys k (omega (arith, long))) in
      omega (arith, ends_before ys k (omega (arith, long)) v, ap (λ (bs : List Bond). degree bs v) (before-take xs k k (omega arith)))

  pub same_fault : (b : Bond) → bond_fault n (bonds_of ys) b ≡ bond_fault n (before xs k) b
  unfolding bond_fault
  same_fault b = rw (same_joined b.one b.two, same_ends b.one, same_ends b.two)

-- an atom with all the bonds that it may have, and one with fewer
pub full : {r d : ℕ} → r ≡ d → limit ≤ r → leb limit d ≡ true
full {r} {d} e l = le-leb limit d (omega arith)

pub roomy : {r d : ℕ} → r ≡ d → r < limit → leb limit d ≡ false
roomy {r} {d} e l = lt-leb limit d (omega arith)

-- what holds after k bonds that have no fault
pub record Reads (n : ℕ) (xs : List ℕ) (k : ℕ) : Type 0 where
  pub answer : bonds_reply n [] (bonds_of xs) ≡ bonds_reply n (before xs k) (rest xs k)

pub reads_start : (n : ℕ) (xs : List ℕ) → Reads n xs 0
unfolding before
reads_start n xs = record { answer = refl }

module _ (n : ℕ) (xs : List ℕ) (k : ℕ) (A : Reads n xs k) where
  module _ (more : 2 * k + 1 < length xs) where
    step : bonds_reply n [] (bonds_of xs) ≡ (refuse_for (bond_fault n (before xs k) (bond_at xs k)) (suc k) then λ _. bonds_reply n (bond_at xs k ∷ before xs k) (rest xs (suc k)))
    unfolding bonds_reply
    step = A.answer ∙ rw (rest_cons xs k more, length_before xs k) refl

    pub reads_fault : (f : ℕ) → f ≢ 0 → f ≡ bond_fault n (before xs k) (bond_at xs k) → bonds_reply n [] (bonds_of xs) ≡ refused (refusal f (k + 1))
    reads_fault zero ne e = absurd (ne refl)
    reads_fault (suc f) ne e = step ∙ rw (← e, add-one)

    pub reads_next : bond_fault n (before xs k) (bond_at xs k) ≡ 0 → Reads n xs (k + 1)
    unfolding before
    reads_next e = record { answer = step ∙ rw (e, add-one k) }

  pub reads_fine : length xs < 2 * k + 2 → bonds_reply n [] (bonds_of xs) ≡ read tt
  unfolding bonds_reply
  reads_fine last = A.answer ∙ rw (rest_none xs k last) refl

-- the bonds from byte i on: what two bytes add, and that fewer are none
module _ (xs : List ℕ) (i a : ℕ) where
  pub degree_next : i + 2 ≤ length xs → degree (bonds_of (drop i xs)) a ≡ cond (eqb (get_or xs i 0) a) 1 0 + cond (eqb (get_or xs (i + 1) 0) a) 1 0 + degree (bonds_of (drop (i + 2) xs)) a
  unfolding degree
  degree_next h = rw (bonds_next xs i h)

  pub degree_over : length xs < i + 2 → degree (bonds_of (drop i xs)) a ≡ 0
  unfolding degree
  degree_over h = rw (bonds_over xs i h)

  module _ (b : ℕ) where
    pub listed_over : length xs < i + 2 → any_joins (bonds_of (drop i xs)) a b ≡ false
    unfolding any_joins
    listed_over h = rw (bonds_over xs i h)

    pub listed_next : i + 2 ≤ length xs → {s t : ℕ} → s ≡ cond (eqb (get_or xs i 0) a && eqb (get_or xs (i + 1) 0) b) 1 0 → t ≡ cond (eqb (get_or xs i 0) b && eqb (get_or xs (i + 1) 0) a) 1 0
        → any_joins (bonds_of (drop i xs)) a b ≡ (not (eqb (s + t) 0) || any_joins (bonds_of (drop (i + 2) xs)) a b)
    unfolding any_joins joins
    listed_next h {s} {t} p q =
        rw (bonds_next xs i h, p, q) (go (eqb (get_or xs i 0) a && eqb (get_or xs (i + 1) 0) b) (eqb (get_or xs i 0) b && eqb (get_or xs (i + 1) 0) a) (any_joins (bonds_of (drop (i + 2) xs)) a b))
      where
        go : (x y z : Bool) → ((x || y) || z) ≡ (not (eqb (cond x 1 0 + cond y 1 0) 0) || z)
        go true true z = refl
        go true false z = refl
        go false true z = refl
        go false false z = refl

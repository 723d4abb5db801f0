-- Laws. The largest distance: it is met by some atom and exceeded by none, and that of two parts taken together. Assumes nothing.
use Prim.Native.Nat.{ℕ, zero, suc, ◌+◌, ◌≤◌, ◌<◌, max}
use Rattle.std.proofs.Common.{⊎_elim, ◌∙◌, add-zero, add-suc}
use Rattle.std.specs.Prelude.{◌≡◌, refl}
use Rattle.std.proofs.Math.Path.{sym, ap, ap₂}
use Rattle.std.proofs.Math.Nat.{le-suc_iff}
use native.Mathlib.Omega.{arith}
use Rattle.std.proofs.Math.Decide.{dec_lt}
use Rattle.graph.specs.Graph.{Graph, Within, Molecule, distance}
use Rattle.graph.specs.Farthest.{most, most_pairs, farthest, largest}
use Rattle.graph.specs.Distance.{distance_sym, distance_self, distance_below}
use Rattle.graph.specs.Sums.{wider, last}

-- none of some numbers is larger than the largest, and one of them is as large
pub most_over : (n : ℕ) (f : ℕ → ℕ) (v : ℕ) → Within n v → f v ≤ most n f
unfolding most
most_over zero f v w = absurd (omega arith)
most_over (suc n) f v w =
    ⊎_elim (λ q. omega (arith, most_over n f v (record { low = w.low; high = q }))) (λ q. omega (arith, ap f q)) (le-suc_iff.0 w.high)

pub most_met : (n : ℕ) (f : ℕ → ℕ) → 1 ≤ n → (v : ℕ) × Within n v × (f v ≡ most n f)
unfolding most
most_met zero f h = absurd (omega arith)
most_met (suc zero) f h = (1, last 0, omega arith)
most_met (suc (suc n)) f h =
    let r = most_met (suc n) f (omega arith) in
    elim (dec_lt (max (most n f) (f (suc n))) (f (suc (suc n)))) [
      | yes l ↦ (suc (suc n), last (suc n), omega arith)
      | no l ↦ (r.0, wider r.1, omega (arith, r.2))
    ]

-- what each of them is at most, the largest is at most; so a number that is met and not exceeded is the largest
pub most_below : (n : ℕ) (f : ℕ → ℕ) (m : ℕ) → ((i : ℕ) → Within n i → f i ≤ m) → most n f ≤ m
unfolding most
most_below zero f m h = omega arith
most_below (suc n) f m h = omega (arith, most_below n f m (λ i w. h i (wider w)), h (suc n) (last n))

most_is : (n : ℕ) (f : ℕ → ℕ) (m : ℕ) → ((i : ℕ) → Within n i → f i ≤ m) → (v : ℕ) → Within n v → f v ≡ m → most n f ≡ m
most_is n f m h v w e = omega (arith, most_below n f m h, most_over n f v w)

-- the same of the pairs
most_pairs_below : (n : ℕ) (f : ℕ → ℕ → ℕ) (m : ℕ) → ((i j : ℕ) → Within n i → Within n j → f i j ≤ m) → most_pairs n f ≤ m
unfolding most_pairs
most_pairs_below zero f m h = omega arith
most_pairs_below (suc n) f m h =
    omega (arith, most_pairs_below n f m (λ i j w v. h i j (wider w) (wider v)), most_below n (λ i. f i (suc n)) m (λ i w. h i (suc n) (wider w) (last n)))

pub most_pairs_over : (n : ℕ) (f : ℕ → ℕ → ℕ) (i j : ℕ) → 1 ≤ i → suc i ≤ j → j ≤ n → f i j ≤ most_pairs n f
unfolding most_pairs
most_pairs_over zero f i j a b c = absurd (omega arith)
most_pairs_over (suc n) f i j a b c =
    ⊎_elim (λ q. omega (arith, most_pairs_over n f i j a b q))
    (λ q. omega (arith, ap (f i) q, most_over n (λ k. f k (suc n)) i (record { low = a; high = omega arith }))) (le-suc_iff.0 c)

-- The atom that is farthest from atom a: there is one, and none is farther.
pub farthest_over : (g : Graph) (a j : ℕ) → Within g.atoms j → distance g a j ≤ farthest g a
unfolding farthest
farthest_over g a j w = most_over g.atoms (distance g a) j w

pub farthest_met : (g : Graph) (a : ℕ) → 1 ≤ g.atoms → (j : ℕ) × Within g.atoms j × (distance g a j ≡ farthest g a)
unfolding farthest
farthest_met g a h = most_met g.atoms (distance g a) h

pub farthest_is : (g : Graph) (a d : ℕ) → ((j : ℕ) → Within g.atoms j → distance g a j ≤ d) → (j : ℕ) → Within g.atoms j → distance g a j ≡ d → farthest g a ≡ d
unfolding farthest
farthest_is g a d h j w e = most_is g.atoms (distance g a) d h j w e

-- The two atoms that are farthest from each other: there are such, and none are farther. So the largest is that of the farthest from each atom.
module _ {g : Graph} (m : Molecule g) where
  pub largest_over : (i j : ℕ) → Within g.atoms i → Within g.atoms j → distance g i j ≤ largest g
  unfolding largest
  largest_over i j w v = elim (dec_lt i j) [
    | yes l ↦ most_pairs_over g.atoms (distance g) i j w.low l v.high
    | no l ↦ elim (dec_lt j i) [
      | yes k ↦ omega (arith, distance_sym m w v, most_pairs_over g.atoms (distance g) j i v.low k w.high)
      | no k ↦ let e : j ≡ i = omega arith in omega (arith, ap (distance g i) e, distance_self m.sound w)
    ]
  ]

  largest_low : largest g ≤ most g.atoms (farthest g)
  unfolding largest
  largest_low =
      most_pairs_below g.atoms (distance g) (most g.atoms (farthest g)) (λ i j w v. omega (arith, farthest_over g i j v, most_over g.atoms (farthest g) i w))

  largest_high : most g.atoms (farthest g) ≤ largest g
  unfolding farthest
  largest_high =
      most_below g.atoms (farthest g) (largest g) (λ i w. most_below g.atoms (distance g i) (largest g) (λ j v. largest_over i j w v))

  pub largest_is : largest g ≡ most g.atoms (farthest g)
  largest_is = omega (arith, largest_low, largest_high)

  pub largest_met : 1 ≤ g.atoms → (i : ℕ) × (j : ℕ) × Within g.atoms i × Within g.atoms j × (distance g i j ≡ largest g)
  largest_met h =
      let (i, w, e) = most_met g.atoms (farthest g) h in
      let (j, v, f) = farthest_met g i h in
      (i, j, w, v, f ∙ e ∙ sym largest_is)

  -- both are below the atom count
  pub farthest_below : {a : ℕ} → Within g.atoms a → farthest g a < g.atoms
  farthest_below {a} w = let (j, v, e) = farthest_met g a (omega (arith, w.low, w.high)) in omega (arith, distance_below m w v)

  pub largest_below : 1 ≤ g.atoms → largest g < g.atoms
  largest_below h = let (i, j, w, v, e) = largest_met h in omega (arith, distance_below m w v)

-- Equal numbers have equal largest ones, and those of two parts are taken together.
pub most_cong : (n : ℕ) {f h : ℕ → ℕ} → ((i : ℕ) → Within n i → f i ≡ h i) → most n f ≡ most n h
unfolding most
most_cong zero e = refl
most_cong (suc n) e = ap₂ max (most_cong n (λ i w. e i (wider w))) (e (suc n) (last n))

pub most_pairs_cong : (n : ℕ) {f h : ℕ → ℕ → ℕ} → ((i j : ℕ) → Within n i → Within n j → f i j ≡ h i j) → most_pairs n f ≡ most_pairs n h
unfolding most_pairs
most_pairs_cong zero e = refl
most_pairs_cong (suc n) e =
    ap₂ max (most_pairs_cong n (λ i j w v. e i j (wider w) (wider v))) (most_cong n (λ i w. e i (suc n) (wider w) (last n)))

pub most_split : (n m : ℕ) (f : ℕ → ℕ) → most (n + m) f ≡ max (most n f) (most m (λ j. f (n + j)))
unfolding most
most_split n zero f = ap (λ (k : ℕ). most k f) (add-zero n) ∙ omega arith
most_split n (suc m) f = ap (λ (k : ℕ). most k f) (add-suc n m) ∙ omega (arith, most_split n m f, ap f (add-suc n m))

pub most-max : (n : ℕ) (f h : ℕ → ℕ) → most n (λ i. max (f i) (h i)) ≡ max (most n f) (most n h)
unfolding most
most-max zero f h = refl
most-max (suc n) f h = omega (arith, most-max n f h)

-- a number added to each of at least one
pub most_add : (n : ℕ) (f : ℕ → ℕ) (c : ℕ) → 1 ≤ n → most n (λ i. c + f i) ≡ c + most n f
unfolding most
most_add zero f c h = absurd (omega arith)
most_add (suc zero) f c h = omega arith
most_add (suc (suc n)) f c h = omega (arith, most_add (suc n) f c (omega arith))

most_none : (n : ℕ) → most n (λ i. 0) ≡ 0
unfolding most
most_none zero = refl
most_none (suc n) = omega (arith, most_none n)

apart : (z c x y : ℕ) → max (max z c) (max x y) ≡ max (max z y) (max c x)
apart z c x y = omega arith

right : (x y z : ℕ) → max (max x y) z ≡ max x (max y z)
right x y z = omega arith

-- the pairs of 1 to n + m: those of the first n, those of the last m, and those across
pub most_pairs_split : (n m : ℕ) (f : ℕ → ℕ → ℕ)
    → most_pairs (n + m) f ≡ max (max (most_pairs n f) (most_pairs m (λ i j. f (n + i) (n + j)))) (most n (λ i. most m (λ j. f i (n + j))))
unfolding most_pairs most
most_pairs_split n zero f = ap (λ (k : ℕ). most_pairs k f) (add-zero n) ∙ omega (arith, most_none n)
most_pairs_split n (suc m) f =
    let e = add-suc n m in
    let P = most_pairs n f in
    let Q = most_pairs m (λ i j. f (n + i) (n + j)) in
    let C = most n (λ i. most m (λ j. f i (n + j))) in
    let X = most n (λ i. f i (n + suc m)) in
    let Y = most m (λ i. f (n + i) (n + suc m)) in
    ap (λ (k : ℕ). most_pairs k f) e
    ∙ ap₂ max (most_pairs_split n m f) (most_split n m (λ i. f i (suc (n + m))) ∙ ap₂ max (ap (λ (k : ℕ). most n (λ i. f i k)) (sym e)) (ap (λ (k : ℕ). most m (λ i. f (n + i) k)) (sym e)))
    ∙ apart (max P Q) C X Y
    ∙ ap₂ max (right P Q Y) (sym (most-max n (λ i. most m (λ j. f i (n + j))) (λ i. f i (n + suc m))))

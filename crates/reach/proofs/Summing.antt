-- Sums over the pairs within reach. Assumes nothing.
use Prim.Native.Nat.{ℕ, suc, ◌+◌, ◌*◌, ◌≤◌, ◌<◌, min}
use mathlib.Core.Bool.{Bool, true, false, cond}
use mathlib.Core.Path.{◌≡◌, refl, sym, ap, ◌∙◌}
use native.Mathlib.Decide.{ℕ_discrete, dec_lt}
use native.Mathlib.Omega.{arith}
use borrow.Author.Tests.{le-leb, lt-leb}
use lib.Count.{ones}
use lib.Dec.{leb}
use mathlib.Core.List.{List}
use Rattle.graph.specs.Graph.{Graph, Within, Sound, Molecule, connected, distance, sum, total, each, vertex, vertex_sum}
use Rattle.graph.specs.Distance.{not_true, walk_of_distance, walked, on_the_way, all_on_the_way, distance_below, distance_sym, distance_self}
use Rattle.graph.specs.Connected.{connected_molecule, connected_from}
use Rattle.graph.specs.Farthest.{largest}
use Rattle.graph.specs.Largest.{largest_over, largest_met}
use Rattle.graph.specs.Matched.{pairs_twice}
use Rattle.graph.specs.Sums.{sum_cong, sum_add, sum_scale, sum_const, sum_le, sum_below, sum_tight}
use Rattle.graph.specs.Walk.{concat, reverse}
use Rattle.block.specs.Near.{around}
use Rattle.reach.specs.Reach.{Reach, up_to}
use Rattle.block.specs.Digits.{count_atoms}

-- what is counted of a distance x up to d
abbrev pub short : (ℕ → ℕ) → ℕ → ℕ → ℕ
short f d x = cond (leb x d) (f x) 0

pub short_in : (f : ℕ → ℕ) (d x : ℕ) → x ≤ d → short f d x ≡ f x
short_in f d x l = rw (le-leb x d l)

pub short_out : (f : ℕ → ℕ) (d x : ℕ) → d < x → short f d x ≡ 0
short_out f d x l = rw (lt-leb x d l)

-- one bond farther: those that come are all at d + 1
short_next : (f : ℕ → ℕ) (d x : ℕ) → short f (suc d) x + f (suc d) * short each d x ≡ short f d x + f (suc d) * short each (suc d) x
short_next f d x = elim (dec_lt d x) [
  | yes h ↦ elim (ℕ_discrete x (suc d)) [
    | yes e ↦ rw (short_in f (suc d) x (omega arith), short_out each d x h, short_out f d x h, short_in each (suc d) x (omega arith)) (omega (arith, ap f e))
    | no e ↦ rw (short_out f (suc d) x (omega arith), short_out each d x h, short_out f d x h, short_out each (suc d) x (omega arith)) refl
  ]
  | no h ↦ rw (short_in f (suc d) x (omega arith), short_in each d x (omega arith), short_in f d x (omega arith), short_in each (suc d) x (omega arith)) refl
]

pub sum_mixed : (k c : ℕ) (p q : ℕ → ℕ) → sum k (λ j. p j + c * q j) ≡ sum k p + c * sum k q
sum_mixed k c p q = sum_add k p (λ j. c * q j) ∙ ap (λ (x : ℕ). sum k p + x) (sum_scale k c q)

module _ (g : Graph) where
  abbrev n : ℕ
  n = g.atoms

  up_mixed : (f : ℕ → ℕ) (d e c : ℕ) → up_to g f d + c * up_to g each e ≡ sum n (λ i. sum n (λ j. short f d (distance g i j) + c * short each e (distance g i j)))
  unfolding up_to
  up_mixed f d e c =
      sym (sum_mixed n c (λ i. sum n (λ j. short f d (distance g i j))) (λ i. sum n (λ j. short each e (distance g i j))))
      ∙ sum_cong n (λ i w. sym (sum_mixed n c (λ j. short f d (distance g i j)) (λ j. short each e (distance g i j))))

  pub up_next : (f : ℕ → ℕ) (d : ℕ) → up_to g f (suc d) + f (suc d) * up_to g each d ≡ up_to g f d + f (suc d) * up_to g each (suc d)
  up_next f d =
      up_mixed f (suc d) d (f (suc d))
      ∙ sum_cong n (λ i w. sum_cong n (λ j v. short_next f d (distance g i j)))
      ∙ sym (up_mixed f d (suc d) (f (suc d)))

  -- no more than all of them
  pub up_most : (f : ℕ → ℕ) (d c : ℕ) → ((x : ℕ) → x ≤ d → f x ≤ c) → up_to g f d ≤ n * (n * c)
  unfolding up_to
  up_most f d c h = sum_le n (λ i w. sum_le n (λ j v. at (distance g i j)))
    where
      at : (x : ℕ) → short f d x ≤ c
      at x = elim (dec_lt d x) [ yes l ↦ omega (arith, short_out f d x l) | no l ↦ omega (arith, short_in f d x (omega arith), h x (omega arith)) ]

  more : (d x : ℕ) → short each d x ≤ short each (suc d) x
  more d x = elim (dec_lt d x) [ yes l ↦ omega (arith, short_out each d x l) | no l ↦ omega (arith, short_in each d x (omega arith), short_in each (suc d) x (omega arith)) ]

  pub up_more : (d : ℕ) → up_to g each d ≤ up_to g each (suc d)
  unfolding up_to
  up_more d = sum_below n (λ i w. sum_below n (λ j v. more d (distance g i j)))

  abbrev All : ℕ → Type 0
  All d = (i j : ℕ) → Within n i → Within n j → distance g i j ≤ d

  -- all pairs are within reach exactly where they are n times n
  pub all_met : (d : ℕ) → All d → up_to g each d ≡ n * n
  unfolding up_to
  all_met d a = sum_cong n (λ i w. sum_cong n (λ j v. short_in each d (distance g i j) (a i j w v)) ∙ sum_const n 1) ∙ sum_const n (n * 1) ∙ omega arith

  -- sums over all pairs that are the same: so are the terms
  tight : (p q : ℕ → ℕ → ℕ) → ((i j : ℕ) → p i j ≤ q i j) → sum n (λ i. sum n (λ j. q i j)) ≤ sum n (λ i. sum n (λ j. p i j)) → (i j : ℕ) → Within n i → Within n j → q i j ≡ p i j
  tight p q l h i j w v =
      sum_tight n {f = λ j. p i j} {h = λ j. q i j} (λ j v. l i j)
      (omega (arith, sum_tight n {f = λ i. sum n (λ j. p i j)} {h = λ i. sum n (λ j. q i j)} (λ i w. sum_below n (λ j v. l i j)) h i w)) j v

  pub met_all : (d : ℕ) → n * n ≤ up_to g each d → All d
  unfolding up_to
  met_all d e i j w v = elim (dec_lt d (distance g i j)) [
    | yes h ↦ absurd (omega (arith, short_out each d (distance g i j) h, tight (λ i j. short each d (distance g i j)) (λ i j. 1) (λ i j. low (distance g i j)) (omega (arith, all)) i j w v))
    | no h ↦ omega arith
  ]
    where
      low : (x : ℕ) → short each d x ≤ 1
      low x = elim (dec_lt d x) [ yes l ↦ omega (arith, short_out each d x l) | no l ↦ omega (arith, short_in each d x (omega arith)) ]

      all : sum n (λ i. sum n (λ j. 1)) ≡ n * n
      all = sum_cong n (λ i w. sum_const n 1) ∙ sum_const n (n * 1) ∙ omega arith

  -- some pair is d bonds apart
  abbrev Deep : ℕ → Type 0
  Deep d = ((i j : ℕ) → Within n i → Within n j → distance g i j ≡ d → ⊥) → ⊥

  -- where pairs came, some are so far apart
  pub deeper : (d : ℕ) → up_to g each d < up_to g each (suc d) → Deep (suc d)
  unfolding up_to
  deeper d l none = omega (arith, sum_cong n (λ i w. sum_cong n (λ j v. same (distance g i j) (none i j w v))))
    where
      same : (x : ℕ) → (x ≡ suc d → ⊥) → short each (suc d) x ≡ short each d x
      same x ne = elim (dec_lt d x) [
        | yes h ↦ rw (short_out each d x h, short_out each (suc d) x (omega arith)) refl
        | no h ↦ rw (short_in each d x (omega arith), short_in each (suc d) x (omega arith)) refl
      ]

  module _ (s : Sound g) where
    -- NOTHING IS ADDED: where no pair came and not all are met, the graph is not connected
    pub apart : (d : ℕ) → up_to g each (suc d) ≤ up_to g each d → up_to g each d < n * n → connected g ≡ false
    unfolding up_to
    apart d e h = not_true (connected g) (λ c. omega (arith, all_met d (λ i j w v. near (connected_molecule s c) i j w v)))
      where
        near : Molecule g → (i j : ℕ) → Within n i → Within n j → distance g i j ≤ d
        near m i j w v = elim (dec_lt d (distance g i j)) [
          | yes q ↦
              let (u, a, z) = on_the_way s w j (distance_below m w v) (suc d) q in
              absurd (omega (
                arith,
                tight (λ i j. short each d (distance g i j)) (λ i j. short each (suc d) (distance g i j)) (λ i j. more d (distance g i j)) e i u w a,
                short_out each d (distance g i u) (omega arith),
                short_in each (suc d) (distance g i u) (omega arith),
              ))
          | no q ↦ omega arith
        ]

    -- where a pair is not met, there are more atoms: on a way past all atoms all are met
    pub room : (d : ℕ) → d < n → Deep d → up_to g each d < n * n → suc d < n
    room d l deep h = elim (dec_lt (suc d) n) [
      | yes q ↦ q
      | no q ↦ absurd (deep (λ i j w v e. omega (
        arith,
        all_met d (λ a b x y.
            let to : (c : ℕ) → Within n c → distance g i c < n = all_on_the_way s w j (omega arith) in
            omega (arith, (walked s x (concat (reverse (walk_of_distance g i a (to a x))) (walk_of_distance g i b (to b y)))).1)),
      )))
    ]

    pub all_connected : (d : ℕ) → d < n → All d → connected g ≡ true
    all_connected d l a = connected_from s 1 (λ j v. (distance g 1 j, walk_of_distance g 1 j (omega (arith, a 1 j (omega arith) v))))

  module _ (m : Molecule g) where
    -- in the end each pair is counted both ways round
    pub up_all : (f : ℕ → ℕ) → f 0 ≡ 0 → (d : ℕ) → All d → up_to g f d ≡ total g f + total g f
    unfolding up_to total
    up_all f z d a =
        sum_cong n (λ i w. sum_cong n (λ j v. short_in f d (distance g i j) (a i j w v)))
        ∙ sym (pairs_twice n (λ i j. f (distance g i j)) (record { either = λ i j w v. ap f (distance_sym m w v) }))
        ∙ omega (arith, sum_cong n {f = λ i. f (distance g i i)} {h = λ i. 0} (λ i w. ap f (distance_self m.sound w) ∙ z), sum_const n 0)

    pub last_is : (d : ℕ) → 1 ≤ n → All d → Deep d → largest g ≡ d
    last_is d p a deep =
        let (i, j, w, v, e) = largest_met m p in
        elim (dec_lt (largest g) d) [ yes h ↦ absurd (deep (λ i j w v q. omega (arith, largest_over m i j w v))) | no h ↦ omega (arith, a i j w v) ]

  -- the digits of the sets are the pairs
  pub count_reach : (d : ℕ) (sets : List ℕ) → Reach g d sets → sum n (λ v. ones (around sets v)) ≡ up_to g each d
  unfolding up_to
  count_reach d sets R = sum_cong n (λ v a. count_atoms n (around sets v) (R.fits v a) ∙ sum_cong n (λ w b. ap (λ (t : Bool). cond t 1 0) (R.holds v w a b)))

  -- each atom that is not within reach is one bond farther at least
  pub one_farther : (d : ℕ) (sets : List ℕ) → Reach g d sets → (v : ℕ) → Within n v
      → ones (around sets v) + sum n (λ w. min (distance g v w) (suc d)) ≡ sum n (λ w. min (distance g v w) d) + n
  one_farther d sets R v a =
      omega (
        arith,
        count_atoms n (around sets v) (R.fits v a),
        sum_cong n (λ w b. ap (λ (t : Bool). cond t 1 0) (R.holds v w a b)),
        sum_add n (λ w. short each d (distance g v w)) (λ w. min (distance g v w) (suc d)),
        sum_add n (λ w. min (distance g v w) d) (λ w. 1),
        sum_cong n (λ w b. at (distance g v w)),
        sum_const n 1,
      )
    where
      at : (x : ℕ) → short each d x + min x (suc d) ≡ min x d + 1
      at x = elim (dec_lt d x) [ yes l ↦ omega (arith, short_out each d x l) | no l ↦ omega (arith, short_in each d x (omega arith)) ]

  pub all_wanting : (d : ℕ) → All d → (v : ℕ) → Within n v → sum n (λ w. min (distance g v w) d) ≡ vertex_sum g v
  unfolding vertex
  all_wanting d a v h = sum_cong n (λ w b. let l = a v w h b in omega arith)

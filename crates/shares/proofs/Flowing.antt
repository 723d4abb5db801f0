-- What a bond carries from one start, over the arrays. Assumes nothing.
use Prim.Native.Nat.{ℕ, suc, ◌+◌, ◌*◌, ◌-◌, ◌/◌, ◌≤◌, ◌<◌}
use mathlib.Core.Bool.{Bool, true, false, ◌&&◌, cond}
use mathlib.Core.List.{List}
use mathlib.Core.Path.{◌≡◌, sym, ◌∙◌, ap, ap₂}
use native.Mathlib.Nat.{mul-le-mul, mul-le-mul_right, le_of_dvd}
use native.Mathlib.Omega.{arith}
use borrow.Author.Tests.{eq-eqb, ne_eqb}
use lib.Dec.{eqb}
use lib.ListN.{length, get_or}
use Rattle.graph.specs.Graph.{Graph, Bond, Within, any_joins, bonded, distance}
use Rattle.graph.specs.Bonds.{any_joins_sym}
use Rattle.graph.specs.Paths.{path_count}
use Rattle.graph.specs.Notions.{near, BondInside, weight, gathered}
use Rattle.graph.specs.Steps.{count_pos}
use Rattle.graph.specs.Lcm.{starts_pos}
use Rattle.graph.specs.Backwards.{pair_pos}
use Rattle.graph.specs.Uses.{start_le}
use Rattle.graph.specs.Flow.{through}
use Rattle.block.specs.Block.{most_atoms, bonds_of, graph_of}
use Rattle.block.specs.Numbered.{bond_at}
use Rattle.shares.specs.Reply.{most_denominator}
use Rattle.shares.specs.Work.{cap, full, at, carried, WholeBlock, StartRows}
use Rattle.shares.proofs.Counting.{shown_at}
use Rattle.shares.proofs.Listing.{listed}
use Rattle.shares.proofs.Scaling.{count_divides}

-- a number that a test lets pass, times another
pub let_pass : (p q x t : ℕ) → p + 1 ≡ q → x * t ≡ cond (eqb (suc p) q) x 0 * t
let_pass p q x t e = simp (eq-eqb (suc p) q (omega arith))

pub let_none : (p q x t : ℕ) → (p + 1 ≡ q → ⊥) → 0 ≡ cond (eqb (suc p) q) x 0 * t
let_none p q x t d = simp (ne_eqb (suc p) q (λ z. d (omega arith))) (omega arith)

module _ {n : ℕ} {xs : List ℕ} {i d : ℕ} (W : WholeBlock n xs i d) where
  pub count_low : {v : ℕ} → Within n i → Within n v → path_count (graph_of n xs) i v ≤ most_denominator
  count_low hi hv =
      omega (arith, W.is, W.low, le_of_dvd (starts_pos (path_count (graph_of n xs)) n (pair_pos W.molecule) i) (count_divides W.molecule hi hv))

  pub carried_low : {s : ℕ} → Within n s → (e : Bond) → carried (graph_of n xs) s d e ≤ full
  carried_low hi e = omega (arith, start_le W.molecule hi e d, mul-le-mul W.small W.low)

module _ {n : ℕ} {xs row c t : List ℕ} {i d : ℕ} (R : StartRows n xs row c t i d) (k : ℕ) (l : k < length xs / 2) where
  abbrev g : Graph
  g = graph_of n xs

  abbrev e : Bond
  e = bond_at xs k

  abbrev T : ℕ → ℕ
  T = gathered g i (weight g d i)

  ends : BondInside n e
  ends = (listed n xs R.whole.plain k l).0

  passes : (u v : ℕ) → Within n u → Within n v → Within most_atoms u × Within most_atoms v × (at c u ≤ cap) × (at t v ≤ full)
  passes u v hu hv = (
    record { low = hu.low; high = omega (arith, R.whole.small) },
    record { low = hv.low; high = omega (arith, R.whole.small) },
    omega (arith, R.counts.holds u hu),
    omega (arith, R.passed.holds v hv),
  )

  -- one way over a bond, as the arrays have it
  one_way : (u v : ℕ) → Within n u → Within n v → bonded g u v ≡ true → cond (near g i u v) (path_count g i u) 0 * T v ≤ full
      → cond (eqb (suc (get_or row (u - 1) 0)) (get_or row (v - 1) 0)) (at c u) 0 * at t v ≡ cond (near g i u v) (path_count g i u) 0 * T v
  unfolding near
  one_way u v hu hv b low =
      ap₂ (λ (p q : ℕ). cond (eqb (suc p) q) (at c u) 0 * at t v) (shown_at R.far u hu) (shown_at R.far v hv)
      ∙ go (eqb (suc (distance g i u)) (distance g i v)) (rw b at low)
      ∙ ap (λ (s : Bool). cond (s && eqb (suc (distance g i u)) (distance g i v)) (path_count g i u) 0 * T v) (sym b)
    where
      go : (s : Bool) → cond s (path_count g i u) 0 * T v ≤ full → cond s (at c u) 0 * at t v ≡ cond s (path_count g i u) 0 * T v
      go false h = omega arith
      go true h =
          let p : 1 * T v ≤ path_count g i u * T v = mul-le-mul_right (T v) (count_pos R.whole.molecule R.start hu) in
          let x : at c u ≡ path_count g i u = omega (arith, R.counts.holds u hu, count_low R.whole R.start hu) in
          let y : at t v ≡ T v = omega (arith, R.passed.holds v hv) in
          ap₂ ◌*◌ x y

  -- what stands at the ends of the bond, read as a and b
  module _ (a b : ℕ) (is_one : a ≡ e.one) (is_two : b ≡ e.two) where
    one : Within n a
    one = rw is_one ends.one

    two : Within n b
    two = rw is_two ends.two

    pub there_fits : Within most_atoms a × Within most_atoms b × (at c a ≤ cap) × (at t b ≤ full)
    there_fits = passes a b one two

    pub back_fits : Within most_atoms b × Within most_atoms a × (at c b ≤ cap) × (at t a ≤ full)
    back_fits = passes b a two one

    -- both ways together are what the bond carries
    pub flows : (x y : ℕ) → x ≡ cond (eqb (suc (get_or row (a - 1) 0)) (get_or row (b - 1) 0)) (at c a) 0 * at t b
        → y ≡ cond (eqb (suc (get_or row (b - 1) 0)) (get_or row (a - 1) 0)) (at c b) 0 * at t a → x + y ≡ carried g i d e
    unfolding bonded
    flows x y p q =
        let whole : carried g i d e ≡ cond (near g i a b) (path_count g i a) 0 * T b + cond (near g i b a) (path_count g i b) 0 * T a =
        rw (is_one, is_two) (through R.whole.molecule R.start e ends (weight g d i)) in
        let low = carried_low R.whole R.start e in
        let joined : any_joins (bonds_of xs) a b ≡ true = rw (is_one, is_two) (listed n xs R.whole.plain k l).1 in
        omega (
          arith,
          p,
          q,
          whole,
          one_way a b one two joined (omega (arith, whole, low)),
          one_way b a two one (any_joins_sym (bonds_of xs) b a ∙ joined) (omega (arith, whole, low)),
        )

-- The least common multiple of path counts, taken in one by one, up to the cap. Assumes nothing.
use Prim.Native.Nat.{ℕ, suc, ◌+◌, ◌*◌, ◌-◌, min, ◌≤◌, ◌<◌}
use mathlib.Core.List.{List}
use mathlib.Core.Path.{◌≡◌, sym, ◌∙◌, ap, ap₂}
use native.Mathlib.Nat.{pos_of_dvd_of_pos, mul-le-mul, lt_of_le_of_lt}
use native.Mathlib.Numerals.{add-one}
use native.Mathlib.Omega.{arith}
use lib.Dec.{lit<}
use lib.ListN.{get_or}
use mir.Syntax.{w64}
use mir.Val.{Fits}
use Rattle.graph.specs.Graph.{Bond, Within, Molecule, distance}
use Rattle.graph.specs.Farthest.{farthest}
use Rattle.graph.specs.Largest.{farthest_over, farthest_below}
use Rattle.graph.specs.Paths.{path_count, lcm, lcm_over, denominator}
use Rattle.graph.specs.Notions.{Gcd, AtomPair, lcm_starts}
use Rattle.graph.specs.Lcm.{over_pos, lcm_cap, starts_pos, starts_all, starts_le}
use Rattle.graph.specs.Steps.{count_pos}
use Rattle.graph.specs.Backwards.{pair_pos}
use Rattle.half.specs.Half.{half_row}
use Rattle.block.specs.Block.{most_atoms}
use Rattle.block.specs.Sums.{entry}
use Rattle.shares.specs.Work.{cap, full, at, ShowsRow, Tops, Levels, CappedRow, graph, Start, Tally, BlockGiven}
use Rattle.shares.proofs.Counting.{shown_at, row_below, by_distance}

pub divisor_pos : {a b d : ℕ} → Gcd a b d → 0 < a → 0 < d
divisor_pos h p = pos_of_dvd_of_pos h.left p

pub product_fits : (x y : ℕ) → x ≤ full → y ≤ full → Fits w64 (x * y)
product_fits x y h k = record { fits = lt_of_le_of_lt (mul-le-mul h k) (lit< tt) }

module _ {n : ℕ} {f : ℕ → ℕ} {m : ℕ} {c : List ℕ} {before : ℕ} (t : Tally n f m c before) (start : ℕ) where
  -- the multiple of m and of the counts after start, before k
  abbrev so_far : ℕ → ℕ
  so_far k = lcm_over (k - (start + 1)) (λ j. f (start + j)) m

  pub none_yet : before ≡ min cap (so_far (start + 1))
  unfolding lcm_over
  none_yet = let z : start + 1 - (start + 1) ≡ 0 = omega arith in t.capped ∙ rw z

  module _ (k : ℕ) (after : start < k) (inside : k ≤ n) where
    so_far_pos : 0 < so_far k
    so_far_pos = over_pos (λ j. f (start + j)) m t.first (k - (start + 1)) (λ j w. t.positive (start + j) (record { low = omega arith; high = omega arith }))

    here : Within n k
    here = record { low = omega arith; high = omega arith }

    pub taken_fits : (all : ℕ) → all ≡ min cap (so_far k) → (0 < all) × (all ≤ cap) × (0 < at c k) × (at c k ≤ cap)
    taken_fits all e = (omega (arith, so_far_pos), omega arith, omega (arith, t.counts.holds k here, t.positive k here), omega (arith, t.counts.holds k here))

    pub taken_in : (all x : ℕ) → all ≡ min cap (so_far k) → x ≡ min cap (lcm all (at c k)) → x ≡ min cap (so_far (k + 1))
    unfolding lcm_over
    taken_in all x e h =
        let next : k + 1 - (start + 1) ≡ suc (k - (start + 1)) = omega arith in
        let last : k ≡ start + suc (k - (start + 1)) = omega arith in
        h ∙ ap₂ (λ (u v : ℕ). min cap (lcm u v)) e (t.counts.holds k here)
        ∙ lcm_cap cap (so_far k) (f k) (omega arith) so_far_pos (t.positive k here)
        ∙ rw (next, ← last)

  pub taken_all : (all : ℕ) → all ≡ min cap (so_far (n + 1)) → all ≡ min cap (lcm_over (n - start) (λ j. f (start + j)) m)
  taken_all all e = let z : n + 1 - (start + 1) ≡ n - start = omega arith in (rw z at e)

-- a start's arrays, of all
module _ {n : ℕ} {bs : List Bond} {near : List ℕ} {half fars : List ℕ} (G : BlockGiven n bs near half fars) (i : ℕ) (l : i < n) (row : List ℕ) (is : row ≡ half_row half (i + 1)) where
  first : Within n (i + 1)
  first = record { low = omega arith; high = omega arith }

  shown : ShowsRow n (distance (graph n bs) (i + 1)) row
  shown = rw is (G.far (i + 1) first)

  pub start_below : (j : ℕ) → j < n → get_or row j 0 < most_atoms
  start_below = row_below G.small G.molecule first shown

  -- the largest distance is the last level
  start_top : (top : ℕ) → top ≡ get_or fars i 0 → Tops n (entry row) top
  start_top top e = record {
    low = omega (arith, G.small, largest, farthest_below G.molecule first);
    high = λ v w. omega (arith, shown_at shown v w, largest, farthest_over (graph n bs) (i + 1) v w);
  }
    where
      largest : top ≡ farthest (graph n bs) (i + 1)
      largest = let k : i + 1 - 1 ≡ i = omega arith in e ∙ ap (λ (x : ℕ). get_or fars x 0) (sym k) ∙ G.largest (i + 1) first

  pub start_of : {sets : List ℕ} {top : ℕ} → top ≡ get_or fars i 0 → ((t : ℕ) → Tops n (entry row) t → Levels n (entry row) sets t) → Start n bs near row sets top (i + 1)
  start_of {top = top} e L = record {
    small = G.small;
    molecule = G.molecule;
    beside = G.beside;
    far = shown;
    levels = by_distance G.small G.molecule first shown (L top (start_top top e));
    start = first;
  }

-- the starts one by one
module _ {n : ℕ} {bs : List Bond} (molecule : Molecule (graph n bs)) where
  pairs : (i j : ℕ) → AtomPair n i j → 0 < path_count (graph n bs) i j
  pairs = pair_pos molecule

  abbrev starts : ℕ → ℕ
  starts i = lcm_starts n (path_count (graph n bs)) i

  pub tally_of : (i : ℕ) {near row sets c : List ℕ} {top all : ℕ} → Start n bs near row sets top (i + 1) → CappedRow n cap (path_count (graph n bs) (i + 1)) c → all ≡ starts i → all ≤ cap
      → Tally n (path_count (graph n bs) (i + 1)) (starts i) c all
  tally_of i s h e l = record {
    small = s.small;
    counts = h;
    positive = λ v w. count_pos molecule s.start w;
    first = starts_pos (path_count (graph n bs)) n pairs i;
    capped = omega arith;
  }

  pub start_next : (i all : ℕ) → all ≡ min cap (lcm_over (n - (i + 1)) (λ k. path_count (graph n bs) (i + 1) (i + 1 + k)) (starts i)) → all ≡ min cap (starts (i + 1))
  unfolding lcm_starts
  start_next i all e = e ∙ rw (add-one i)

  pub stops_early : (all i : ℕ) → all ≡ min cap (starts i) → cap ≤ all → cap ≡ min cap (denominator (graph n bs))
  unfolding denominator
  stops_early all i e l = omega (arith, starts_le (path_count (graph n bs)) n pairs i)

  pub starts_done : (all i : ℕ) → i ≡ n → all ≡ min cap (starts i) → all ≡ min cap (denominator (graph n bs))
  unfolding denominator
  starts_done all i z e = e ∙ ap (min cap) (ap starts z ∙ starts_all (path_count (graph n bs)) n pairs)

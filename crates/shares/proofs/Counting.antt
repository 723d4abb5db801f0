-- Path counts and what is gathered, as rules over the levels. Assumes nothing.
use Prim.Native.Nat.{ℕ, suc, ◌+◌, ◌-◌, ◌≤◌, ◌<◌}
use mathlib.Core.Bool.{Bool, true, false, ◌&&◌, cond}
use mathlib.Core.List.{List}
use mathlib.Core.Path.{◌≡◌, refl, sym, ◌∙◌, ap, ap₂}
use native.Mathlib.Omega.{arith}
use borrow.Author.Tests.{eqb-true, eqb-false, eq-eqb, ne_eqb}
use lib.Dec.{eqb}
use lib.ListN.{get_or}
use Rattle.graph.specs.Graph.{Bond, Within, Molecule, bonded, distance}
use Rattle.graph.specs.Bonds.{any_joins_sym}
use Rattle.graph.specs.Distance.{distance_below}
use Rattle.graph.specs.Sums.{sum_cong}
use Rattle.graph.specs.Paths.{path_count}
use Rattle.graph.specs.Notions.{near, gathered}
use Rattle.graph.proofs.StepsLaws.{count_rule}
use Rattle.graph.specs.Flow.{gathered_step}
use Rattle.block.specs.Block.{most_atoms}
use Rattle.block.specs.Sums.{entry}
use Rattle.shares.specs.Work.{ShowsRow, Levels, heights, Rule, graph, Start}
use Rattle.shares.proofs.Rows.{of_places}
use Rattle.shares.proofs.Layering.{levels_same}

-- two tests that hold together
eqb_same : (a b c d : ℕ) → (a ≡ b → c ≡ d) → (c ≡ d → a ≡ b) → eqb a b ≡ eqb c d
eqb_same a b c d f h = go (eqb a b) refl
  where
    go : (t : Bool) → eqb a b ≡ t → t ≡ eqb c d
    go true e = sym (eq-eqb c d (f (eqb-true a b e)))
    go false e = sym (ne_eqb c d (λ q. eqb-false a b e (h q)))

-- a row by the atoms' numbers
pub shown_at : {n : ℕ} {d : ℕ → ℕ} {row : List ℕ} → ShowsRow n d row → (v : ℕ) → Within n v → entry row v ≡ d v
shown_at {n} {d} {row} s = of_places (λ v. entry row v ≡ d v) n (λ j l. let e : suc j - 1 ≡ j = omega arith in ap (λ (k : ℕ). get_or row k 0) e ∙ s.shows j l)

-- the row of a start, by levels
module _ {n : ℕ} {bs : List Bond} (small : n ≤ most_atoms) (m : Molecule (graph n bs)) {i : ℕ} (start : Within n i) {row : List ℕ} (far : ShowsRow n (distance (graph n bs) i) row) where
  far_below : (v : ℕ) → Within n v → distance (graph n bs) i v < n
  far_below v hv = distance_below m start hv

  pub row_below : (j : ℕ) → j < n → get_or row j 0 < most_atoms
  row_below j l = omega (arith, small, far.shows j l, far_below (suc j) (record { low = omega arith; high = omega arith }))

  pub by_distance : {sets : List ℕ} {top : ℕ} → Levels n (entry row) sets top → Levels n (distance (graph n bs) i) sets top
  by_distance {sets} {top} = levels_same n (entry row) (distance (graph n bs) i) sets top (shown_at far)

module _ {n : ℕ} {bs : List Bond} {near row sets : List ℕ} {top i : ℕ} (S : Start n bs near row sets top i) where
  -- path counts, outwards
  pub rule_counts : {own : ℕ → ℕ} → ((v : ℕ) → Within n v → own v ≡ cond (eqb i v) 1 0)
      → Rule n (bonded (graph n bs)) (distance (graph n bs) i) own (path_count (graph n bs) i)
  unfolding near bonded
  rule_counts o = record {
    rule = λ v hv.
        count_rule S.molecule S.start hv
        ∙ ap₂ ◌+◌ (sym (o v hv))
        (sum_cong n (λ w hw. ap (λ (t : Bool). cond (t && eqb (suc (distance (graph n bs) i w)) (distance (graph n bs) i v)) (path_count (graph n bs) i w) 0) (any_joins_sym bs w v)));
  }

  -- what is gathered, inwards
  pub rule_gathered : {own q : ℕ → ℕ} → ((v : ℕ) → Within n v → own v ≡ q v)
      → Rule n (bonded (graph n bs)) (heights top (distance (graph n bs) i)) own (gathered (graph n bs) i q)
  unfolding near bonded
  rule_gathered {q = q} o = record {
    rule = λ v hv.
        gathered_step (graph n bs) i q v (distance_below S.molecule S.start hv)
        ∙ ap₂ ◌+◌ (sym (o v hv))
        (sum_cong n (λ w hw. ap (λ (t : Bool). cond (bonded (graph n bs) v w && t) (gathered (graph n bs) i q w) 0)
        (eqb_same (suc (distance (graph n bs) i v)) (distance (graph n bs) i w) (suc (heights top (distance (graph n bs) i) w)) (heights top (distance (graph n bs) i) v)
        (λ e. omega (arith, S.levels.high v hv, S.levels.high w hw)) (λ e. omega (arith, S.levels.high v hv, S.levels.high w hw)))));
  }

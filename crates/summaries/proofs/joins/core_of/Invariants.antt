use Prim.Native.Nat.{◌≤◌}
use mathlib.Core.Path.{◌≡◌}
use lib.ListN.{length}
use Rattle.summaries.specs.Ready.{joins_in, sight_from, Kept}
use Rattle.summaries.proofs.joins.core_of.Given as goal

-- `summaries::joins::core_of` meets its contract. The loop's invariant: v is counted from the parent's atom in the first m placements, and the
-- distances of those since the parent are kept. Assumes nothing.
abbrev pub invariant-loop-m : goal.invariant-loop-m
invariant-loop-m l =
    ((joins_in l.links l.k).parent ≤ l.m) × (l.m ≤ l.k) × (l.v ≡ sight_from l.book l.links l.m l.k) × (l.p ≡ (joins_in l.links l.k).parent) × (length l.far ≡ length l.initial.far) × Kept l.book l.links l.far l.k l.m

use Prim.Native.Nat.{◌-◌}
use mathlib.Core.Path.{◌≡◌}
use lib.ListN.{length}
use Rattle.joining.specs.Parts.{six_in}
use Rattle.summaries.specs.Ready.{kept_in, joins_in, Counted}
use Rattle.summaries.proofs.joins.composed.Given as goal

abbrev pub invariant-loop-k : goal.invariant-loop-k
invariant-loop-k l =
    (length l.counts ≡ length l.initial.counts) × (l.s.fields ≡ six_in (kept_in l.book l.links) (joins_in l.links) (l.k - 1)) × Counted l.book l.links l.counts l.count l.k
    × (length l.far ≡ length l.initial.far)

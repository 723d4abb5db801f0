use mathlib.Core.Path.{◌≡◌}
use lib.ListN.{length}
use lib.Seq.{sets}
use Rattle.records.specs.Bytes.{little_bytes}
use Rattle.records.proofs.little.put_bytes.Given as goal

-- `put_bytes` meets its contract. The loop's invariant: what is left to store makes of the buffer what all of it makes of the first one.
abbrev pub invariant-loop-left : goal.invariant-loop-left
invariant-loop-left l = (length l.out ≡ length l.initial.out) × (sets l.initial.out l.at (little_bytes l.width l.n) ≡ sets l.out l.k (little_bytes l.left l.rest))

abbrev pub decreases-loop-left : goal.decreases-loop-left
decreases-loop-left l = l.left

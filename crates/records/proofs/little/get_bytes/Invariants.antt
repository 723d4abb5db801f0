use Prim.Native.Nat.{◌<◌, min}
use lib.ListN.{length}
use Rattle.records.proofs.Numbers.{Last}
use Rattle.records.proofs.little.get_bytes.Given as goal

-- `get_bytes` meets its contract. The loop's invariant: n is the number of the bytes from k on.
abbrev pub invariant-loop-k : goal.invariant-loop-k
invariant-loop-k l = (l.at < length l.d) × Last l.d l.at (min l.width 8) l.k l.n

abbrev pub decreases-loop-k : goal.decreases-loop-k
decreases-loop-k l = l.k

use Prim.Native.Nat.{◌-◌, ◌≤◌}
use mathlib.Core.Path.{◌≡◌}
use lib.ListN.{length, replicate}
use lib.Seq.{sets}
use Rattle.queues.specs.Table.{table_bytes}
use Rattle.summary.specs.Layout.{summary_bytes}
use Rattle.queues.proofs.places.clear.Given as goal

-- `clear` meets its contract. The loop's invariant: what is left to store makes of the bytes what all of it makes of the first ones.
abbrev pub invariant-loop-k : goal.invariant-loop-k
invariant-loop-k l = (length l.t ≡ length l.initial.t) × (table_bytes summary_bytes ≤ length l.initial.t) × (sets l.initial.t 0 (replicate (table_bytes summary_bytes) 0) ≡ sets l.t l.k (replicate (table_bytes summary_bytes - l.k) 0))

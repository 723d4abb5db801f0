use Prim.Native.Nat.{◌-◌, ◌≤◌}
use mathlib.Core.Path.{◌≡◌}
use Rattle.queues.specs.Shelf.{places, number_in, place_holding, seek}
use Rattle.summary.specs.Layout.{summary_bytes}
use Rattle.queues.proofs.places.place_of.Given as goal

-- `place_of` meets its contract. The loop's invariant: the search from place k on finds what the search from the first finds.
abbrev pub invariant-loop-k : goal.invariant-loop-k
invariant-loop-k l = (l.k ≤ places) × (place_holding summary_bytes l.s l.number ≡ seek (number_in summary_bytes l.s) l.number l.k (places - l.k))

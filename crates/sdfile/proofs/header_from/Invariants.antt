use Prim.Native.Nat.{◌-◌}
use mathlib.Core.Path.{◌≡◌}
use lib.ListN.{length}
use Rattle.sdfile.specs.Sdf.{header_from}
use Rattle.sdfile.proofs.header_from.Given as goal

-- `sdfile::header_from` meets its contract. The loop's invariant: the lines from `at` on are to be looked at.
abbrev pub invariant-loop-at : goal.invariant-loop-at
invariant-loop-at l = header_from l.d l.name l.from ≡ header_from l.d l.name l.at

abbrev pub decreases-loop-at : goal.decreases-loop-at
decreases-loop-at l = length l.d - l.at

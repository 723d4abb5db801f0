use Prim.Native.Nat.{◌-◌}
use mathlib.Core.Path.{◌≡◌}
use lib.ListN.{length}
use Rattle.text.specs.Text.{starts_with}
use Rattle.sdfile.specs.Sdf.{line_from}
use Rattle.sdfile.proofs.line_from.Given as goal

-- `sdfile::line_from` meets its contract. The loop's invariant: the lines from `at` on are to be looked at.
abbrev pub invariant-loop-at : goal.invariant-loop-at
invariant-loop-at l = line_from (starts_with l.word) l.d l.from ≡ line_from (starts_with l.word) l.d l.at

abbrev pub decreases-loop-at : goal.decreases-loop-at
decreases-loop-at l = length l.d - l.at

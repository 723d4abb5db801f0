use Prim.Native.Nat.{◌-◌}
use mathlib.Core.Bool.{true}
use mathlib.Core.Path.{◌≡◌}
use lib.ListN.{length, drop}
use Rattle.text.specs.Text.{line_starts}
use Rattle.text.proofs.line_starts.Given as goal

-- `text::line_starts` meets its contract. The loop's invariant: the lines from `at` on are to be looked at.
abbrev pub invariant-loop-at : goal.invariant-loop-at
invariant-loop-at l = line_starts l.word true (drop l.from l.d) ≡ line_starts l.word true (drop l.at l.d)

abbrev pub decreases-loop-at : goal.decreases-loop-at
decreases-loop-at l = length l.d - l.at

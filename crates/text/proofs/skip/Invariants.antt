use Prim.Native.Nat.{◌-◌}
use mathlib.Core.Path.{◌≡◌}
use lib.ListN.{length}
use Rattle.text.specs.Text.{line_end}
use Rattle.text.proofs.skip.Given as goal

-- `text::skip` meets its contract. The loop's invariant: the line that goes on at i ends where the whole line does.
abbrev pub invariant-loop-i : goal.invariant-loop-i
invariant-loop-i l = line_end l.d l.at ≡ line_end l.d l.i

abbrev pub decreases-loop-i : goal.decreases-loop-i
decreases-loop-i l = length l.d - l.i

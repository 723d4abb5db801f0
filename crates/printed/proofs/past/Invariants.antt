use Prim.Native.Nat.{◌-◌}
use mathlib.Core.Path.{◌≡◌}
use lib.ListN.{length}
use Rattle.printed.specs.Printed.{past}
use Rattle.printed.proofs.past.Reads as reads
use Rattle.printed.proofs.past.Lts as lts
use Rattle.printed.proofs.is_of.Reads as is-of-reads
use Rattle.printed.proofs.past.Given as goal

-- `printed::past` meets its contract. The loop's invariant: the stretch that goes on at i ends where the whole one does.
abbrev pub invariant-loop-i : goal.invariant-loop-i
invariant-loop-i l = past l.class l.text l.at ≡ past l.class l.text l.i

abbrev pub decreases-loop-i : goal.decreases-loop-i
decreases-loop-i l = length l.text - l.i

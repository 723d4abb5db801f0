use Prim.Native.Nat.{◌-◌, ◌<◌}
use mathlib.Core.Path.{◌≡◌}
use Rattle.text.specs.Text.{value_from}
use Rattle.records.specs.Bytes.{part}
use Rattle.printed.specs.Printed.{most_printed}
use Rattle.printed.proofs.digits.Reads as reads
use Rattle.printed.proofs.digits.Lts as lts
use Rattle.printed.proofs.more.Reads as more-reads
use Rattle.printed.proofs.digits.Given as goal

-- `printed::digits` meets its contract. The loop's invariant: the digits that are left make of v what all make of the start.
abbrev pub invariant-loop-i : goal.invariant-loop-i
invariant-loop-i l = (value_from l.start (part l.text l.from (l.to - l.from)) ≡ value_from l.v (part l.text l.i (l.to - l.i))) × (l.v < most_printed)

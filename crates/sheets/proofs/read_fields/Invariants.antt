use Prim.Native.Nat.{◌+◌, ◌^◌, ◌<◌}
use mathlib.Core.Path.{◌≡◌}
use lib.ListN.{length}
use Rattle.sheets.specs.Along.{widths_total}
use Rattle.sheets.proofs.Puts.{Reading}
use Rattle.sheets.proofs.read_fields.Given as goal

-- `sheets::read_fields` meets its contract. The loop's invariant: what is left to read makes of the fields what all of it makes of the first ones.
abbrev pub invariant-loop-i : goal.invariant-loop-i
invariant-loop-i l = (length l.initial.fields ≡ length l.widths) × (l.from + widths_total l.widths < 2 ^ 64) × Reading l.widths l.d l.initial.fields l.from l.i l.at l.fields

use Prim.Native.Nat.{suc}
use mathlib.Core.Path.{◌≡◌}
use lib.ListN.{length, drop}
use Rattle.sheets.specs.Sheets.{first_wrong}
use Rattle.sheets.proofs.first_apart.Given as goal

-- `sheets::first_apart` meets its contract. The loop's invariant: the answer is that of what is left, counted from where it stands.
abbrev pub invariant-loop-i : goal.invariant-loop-i
invariant-loop-i l = (length l.xs ≡ length l.ys) × (first_wrong 1 l.xs l.ys ≡ first_wrong (suc l.i) (drop l.i l.xs) (drop l.i l.ys))

use mathlib.Core.Path.{◌≡◌}
use lib.ListN.{length, drop}
use Rattle.text.specs.Text.{starts_with}
use Rattle.text.proofs.starts_with.Given as goal

-- `text::starts_with` meets its contract. The loop's invariant: what is left of both is to be compared.
abbrev pub invariant-loop-i : goal.invariant-loop-i
invariant-loop-i l = starts_with l.word l.d ≡ starts_with (drop l.i l.word) (drop l.i l.d)

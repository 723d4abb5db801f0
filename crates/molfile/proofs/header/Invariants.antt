use Prim.Native.Nat.{◌-◌, ◌≤◌}
use mathlib.Core.Path.{◌≡◌}
use Rattle.reply.specs.Read.{read}
use Rattle.text.specs.Text.{later_line}
use Rattle.molfile.specs.Molfile.{in_turn, header_reply}
use Rattle.molfile.proofs.header.Given as goal

-- `molfile::header` meets its contract. The loop's invariant: k lines are there, and the next begins at `at`.
abbrev pub invariant-loop : goal.invariant-loop
invariant-loop l = (l.counter ≤ 3) × (l.at ≡ later_line l.d 0 l.counter) × (in_turn l.counter (header_reply l.d) ≡ read tt)

use Prim.Native.Nat.{◌≤◌}
use mathlib.Core.Path.{◌≡◌}
use Rattle.text.specs.Clear.{Clear}
use Rattle.text.proofs.feeds.Given as goal

-- `text::feeds` meets its contract. The loop's invariant: where the count is 0, none of the bytes passed is a line feed.
abbrev pub invariant-loop-k : goal.invariant-loop-k
invariant-loop-k l = (l.k ≤ 16) × (l.n ≤ l.k) × (l.n ≡ 0 → Clear l.d l.at l.k)

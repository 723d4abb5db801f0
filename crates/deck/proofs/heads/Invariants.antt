use Prim.Native.Nat.{◌+◌, ◌*◌, ◌-◌, ◌≤◌}
use mathlib.Core.Path.{◌≡◌}
use Rattle.assembly.specs.Book.{most_blocks}
use Rattle.deck.specs.Unfilled.{heads_from}
use Rattle.deck.proofs.heads.Given as goal

-- `deck::heads` meets its contract. The loop's invariant: those counted and those from here on are all. Assumes nothing.
abbrev pub invariant-loop-i : goal.invariant-loop-i
invariant-loop-i l = (l.i ≤ most_blocks) × (l.at ≤ 65539 * l.i) × (heads_from most_blocks l.d 0 ≡ l.i + heads_from (most_blocks - l.i) l.d l.at)

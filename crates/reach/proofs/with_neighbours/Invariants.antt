use Prim.Native.Nat.{ℕ, ◌^◌, ◌≤◌}
use mathlib.Core.List.{List}
use lib.Bits.{bit_or}
use lib.ListN.{get_or}
use Rattle.block.specs.Lent.{EntriesFilled}
use Rattle.reach.proofs.with_neighbours.Given as goal

-- the sets of the first i atoms
abbrev pub Filled : List ℕ → ℕ → List ℕ → List ℕ → Type 0
Filled near i old sets = EntriesFilled i (λ p. bit_or (get_or near p 0) (2 ^ p)) old sets

abbrev pub invariant-loop-i : goal.invariant-loop-i
invariant-loop-i l = (l.i ≤ l.n) × Filled l.near l.i l.initial.odd l.odd × Filled l.near l.i l.initial.even l.even

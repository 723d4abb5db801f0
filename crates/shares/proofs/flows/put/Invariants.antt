use Prim.Native.Nat.{◌≤◌}
use lib.ListN.{get_or}
use Rattle.block.specs.Lent.{EntriesFilled}
use Rattle.shares.proofs.flows.put.Given as goal

-- `put` meets its contract: the entries passed are put.
abbrev pub invariant-loop-j : goal.invariant-loop-j
invariant-loop-j l = (l.j ≤ l.m) × EntriesFilled l.j (λ k. get_or l.entries k 0) l.initial.out l.out

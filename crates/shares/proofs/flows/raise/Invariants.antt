use Prim.Native.Nat.{◌*◌, ◌≤◌}
use lib.ListN.{get_or}
use Rattle.block.specs.Lent.{EntriesFilled}
use Rattle.shares.proofs.flows.raise.Given as goal

-- `raise` meets its contract: the entries passed are multiplied.
abbrev pub invariant-loop-k : goal.invariant-loop-k
invariant-loop-k l = (l.k ≤ l.m) × EntriesFilled l.k (λ j. get_or l.initial.out j 0 * l.f) l.initial.out l.out

use Prim.Native.Nat.{ℕ, ◌+◌, ◌≤◌}
use lib.ListN.{get_or}
use Rattle.block.specs.Block.{graph_of}
use Rattle.block.specs.Numbered.{bond_at}
use Rattle.block.specs.Lent.{EntriesFilled}
use Rattle.shares.specs.Work.{carried, StartRows}
use Rattle.shares.proofs.flows.add_flows.Given as goal

-- `add_flows` meets its contract: the bonds passed have what they carry added.
abbrev pub invariant-loop-k : goal.invariant-loop-k
invariant-loop-k l = (l.k ≤ l.m) × ((n i d : ℕ) → StartRows n l.bonds l.row l.c l.t i d → EntriesFilled l.k (λ j. get_or l.initial.out j 0 + carried (graph_of n l.bonds) i d (bond_at l.bonds j)) l.initial.out l.out)

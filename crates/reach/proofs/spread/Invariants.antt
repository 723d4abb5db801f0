use Rattle.block.specs.Block.{graph_of}
use Rattle.reach.proofs.Spreading.{Took, Gone}
use Rattle.reach.proofs.spread.Given as goal

abbrev pub invariant-loop-k : goal.invariant-loop-k
invariant-loop-k l = Took (graph_of l.n l.bonds) l.near l.initial.sets l.sets (Gone l.n l.bonds l.k)

use Rattle.balaban.proofs.Blocks.{Adding}
use Rattle.balaban.proofs.reckon.Given as goal

-- `reckon` meets its contract: what the bonds passed bring is added up. Assumes nothing.
abbrev pub invariant-loop-k : goal.invariant-loop-k
invariant-loop-k l = Adding l.n l.bonds l.total l.k

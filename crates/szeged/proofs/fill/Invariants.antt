use Rattle.szeged.proofs.Filling.{Filling}
use Rattle.szeged.proofs.fill.Given as goal

-- `fill` meets its contract: the terms of the bonds passed are put and added up.
abbrev pub invariant-loop-k : goal.invariant-loop-k
invariant-loop-k l = Filling l.n l.bonds l.initial.out l.out l.total l.k

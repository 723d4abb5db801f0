use Rattle.sighted.proofs.Looking.{Leaves}
use Rattle.sighted.specs.Sighted.{sets_in}
use Rattle.sighted.proofs.look.Given as goal

abbrev pub invariant-loop-level : goal.invariant-loop-level
invariant-loop-level l = Leaves (sets_in l.s) l.d l.first l.initial.row l.level l.row l.found l.atoms

abbrev pub decreases-loop-level : goal.decreases-loop-level
decreases-loop-level l = l.level

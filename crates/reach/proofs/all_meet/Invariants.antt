use Rattle.reach.proofs.Meeting.{Meeting}
use Rattle.reach.proofs.all_meet.Given as goal

abbrev pub invariant-loop-rest : goal.invariant-loop-rest
invariant-loop-rest l = Meeting l.near l.some l.set l.rest

abbrev pub decreases-loop-rest : goal.decreases-loop-rest
decreases-loop-rest l = l.rest

use Prim.Native.Nat.{max}
use Rattle.climb.proofs.+climb.Given as goal

-- the larger index falls at each call
abbrev pub decreases-climb : goal.decreases-climb
decreases-climb l = max l.k l.l

use Prim.Native.Nat.{◌-◌, ◌+◌}
use mathlib.Core.Path.{◌≡◌}
use native.Mathlib.Omega.{arith}
use Rattle.text.specs.Put.{Puts}
use Rattle.text.proofs.Putting as putting
use Rattle.adjacency.specs.Written.{up_to, is_greater, greater, listed}
use Rattle.adjacency.specs.Work.{joined_in}
use Rattle.adjacency.proofs.Putting.{listed_next}
use Rattle.neighbours.proofs.writing.neighbours.Goals as goal
use Rattle.neighbours.proofs.writing.neighbours.Goals.{After-neighbour-at}

pub loop-j-init : goal.loop-j-init
unfolding up_to listed
loop-j-init c = (putting.none, omega arith)

pub neighbour-at-requires : goal.neighbour-at-requires
neighbour-at-requires c = (c.requires.1, omega arith)

-- the greater neighbours up to j are put
put : (c : After-neighbour-at) → Puts c.args.out.now c.args.from (listed (up_to c.loop-j.j (is_greater (joined_in c.args.near.now) c.args.i))) c.neighbour-at.new.out c.neighbour-at.result
put c =
    let l = c.loop-j in
    let e : l.j - 1 + 1 ≡ l.j = omega arith in
    rw (rw e at (listed_next (l.j - 1) (is_greater (joined_in c.args.near.now) c.args.i))) at (putting.both l.invariant.0 c.neighbour-at.ensures)

pub loop-j-preserved : goal.loop-j-preserved
loop-j-preserved c =
    let e : c.loop-j.j + 1 - 1 ≡ c.loop-j.j = omega arith in
    (rw e (put (goal.at.loop-j-preserved c).After-neighbour-at), omega arith)

pub shape_of-out : goal.shape_of-out
shape_of-out c = putting.same_length c.loop-j.invariant.0

pub returns : goal.returns
unfolding greater
returns c = let e : c.loop-j.j - 1 ≡ c.args.n = omega arith in rw e at c.loop-j.invariant.0

pub returns-2 : goal.returns-2
unfolding greater
returns-2 c = let e : c.loop-j.j ≡ c.args.n = omega arith in rw e at (put (goal.at.returns-2 c).After-neighbour-at)

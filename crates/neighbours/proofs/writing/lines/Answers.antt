use Prim.Native.Nat.{◌-◌, ◌+◌}
use mathlib.Core.Path.{◌≡◌}
use native.Mathlib.Omega.{arith}
use Rattle.text.specs.Put.{Puts}
use Rattle.text.proofs.Putting as putting
use Rattle.adjacency.specs.Written.{lines}
use Rattle.adjacency.specs.Work.{joined_in}
use Rattle.adjacency.proofs.Putting.{lines_next}
use Rattle.neighbours.proofs.writing.lines.Goals as goal
use Rattle.neighbours.proofs.writing.lines.Goals.{After-line-at}

pub loop-i-init : goal.loop-i-init
unfolding lines
loop-i-init c = (putting.none, omega arith)

pub line-at-requires : goal.line-at-requires
line-at-requires c = (c.requires, omega arith)

-- the lines of the atoms up to i are put
put : (c : After-line-at) → Puts c.args.out.now c.args.from (lines (joined_in c.args.near.now) c.args.n c.loop-i.i) c.line-at.new.out c.line-at.result
put c =
    let l = c.loop-i in
    let a = c.args in
    let e : l.i - 1 + 1 ≡ l.i = omega arith in
    rw (← (rw e at (lines_next (joined_in a.near.now) a.n (l.i - 1)))) at (putting.both l.invariant.0 c.line-at.ensures)

pub loop-i-preserved : goal.loop-i-preserved
loop-i-preserved c =
    let e : c.loop-i.i + 1 - 1 ≡ c.loop-i.i = omega arith in
    (rw e (put (goal.at.loop-i-preserved c).After-line-at), omega arith)

pub shape_of-out : goal.shape_of-out
shape_of-out c = putting.same_length c.loop-i.invariant.0

pub returns : goal.returns
returns c = let e : c.loop-i.i - 1 ≡ c.args.n = omega arith in rw e at c.loop-i.invariant.0

pub returns-2 : goal.returns-2
returns-2 c = let e : c.loop-i.i ≡ c.args.n = omega arith in rw e at (put (goal.at.returns-2 c).After-line-at)

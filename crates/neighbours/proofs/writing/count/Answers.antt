use Prim.Native.Nat.{◌-◌, ◌+◌}
use mathlib.Core.Path.{◌≡◌, refl}
use native.Mathlib.Omega.{arith}
use lib.ListN.{length}
use Rattle.adjacency.specs.Written.{up_to, is_greater, greater}
use Rattle.adjacency.specs.Work.{joined_in}
use Rattle.adjacency.proofs.Putting.{up_count, up_short}
use Rattle.neighbours.proofs.writing.count.Goals as goal
use Rattle.neighbours.proofs.writing.count.Goals.{After-one_if_greater-k}

pub loop-j-init : goal.loop-j-init
unfolding up_to
loop-j-init c = (refl, omega arith)

pub one_if_greater-k-requires : goal.one_if_greater-k-requires
one_if_greater-k-requires c = (c.requires.1, omega arith)

-- the greater neighbours up to j
counted : (c : After-one_if_greater-k) → c.loop-j.k + c.one_if_greater-k.result ≡ length (up_to c.loop-j.j (is_greater (joined_in c.args.near.now) c.args.i))
counted c =
    let l = c.loop-j in
    let e : l.j - 1 + 1 ≡ l.j = omega arith in
    omega (arith, c.one_if_greater-k.ensures, rw e at (up_count (l.j - 1) (is_greater (joined_in c.args.near.now) c.args.i)), l.invariant.0)

pub overflow_add-k : goal.overflow_add-k
overflow_add-k c = record { fits = omega (arith, counted (goal.at.overflow_add-k c).After-one_if_greater-k, up_short c.loop-j.j (is_greater (joined_in c.args.near.now) c.args.i)) }

pub loop-j-preserved : goal.loop-j-preserved
loop-j-preserved c =
    let e : c.loop-j.j + 1 - 1 ≡ c.loop-j.j = omega arith in
    (rw e (counted (goal.at.loop-j-preserved c).After-one_if_greater-k), omega arith)

pub returns : goal.returns
unfolding greater
returns c = let e : c.loop-j.j - 1 ≡ c.args.n = omega arith in rw e at c.loop-j.invariant.0

pub returns-2 : goal.returns-2
unfolding greater
returns-2 c = let e : c.loop-j.j ≡ c.args.n = omega arith in rw e at (counted (goal.at.returns-2 c).After-one_if_greater-k)

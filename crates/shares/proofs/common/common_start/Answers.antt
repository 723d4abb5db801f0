use Prim.Native.Nat.{◌+◌}
use mathlib.Core.Path.{◌≡◌}
use native.Mathlib.Omega.{arith}
use Rattle.shares.proofs.Tallying.{none_yet, taken_fits, taken_in, taken_all}
use Rattle.shares.proofs.common.common_start.Goals as goal

pub loop-k-init : goal.loop-k-init
loop-k-init c = (omega arith, omega arith, λ f m t. none_yet t c.args.start)

pub common-all-requires : goal.common-all-requires
common-all-requires c =
    let p = c.requires.1 in
    let l = c.loop-k in
    taken_fits p.2 c.args.start l.k l.invariant.0 c.loop-k-test.true l.all (l.invariant.2 p.0 p.1 p.2)

pub loop-k-preserved : goal.loop-k-preserved
loop-k-preserved c =
    let l = c.loop-k in
    (omega arith, omega arith, λ f m t. taken_in t c.args.start l.k l.invariant.0 c.loop-k-test.true l.all c.common-all.result (l.invariant.2 f m t) c.common-all.ensures)

pub returns : goal.returns
returns c f m t =
    let l = c.loop-k in
    let e : l.k ≡ c.args.n + 1 = omega arith in
    taken_all t c.args.start l.all (rw e at (l.invariant.2 f m t))

pub returns-2 : goal.returns-2
returns-2 c f m t =
    let l = c.loop-k in
    let x = c.common-all in
    let e : l.k ≡ c.args.n = omega arith in
    taken_all t c.args.start x.result (rw e at (taken_in t c.args.start l.k l.invariant.0 c.loop-k-test.true l.all x.result (l.invariant.2 f m t) x.ensures))

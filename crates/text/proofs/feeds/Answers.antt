use Prim.Native.Nat.{◌+◌, ◌-◌}
use mathlib.Core.Path.{◌≡◌}
use lib.ListN.{get_or}
use Rattle.text.proofs.Lines.{clear_more, one_feed}
use native.Mathlib.Omega.{arith}
use Rattle.text.proofs.feeds.Goals as goal

pub loop-k-init : goal.loop-k-init
loop-k-init c = (omega arith, omega arith, λ z. record { none = λ k h. absurd (omega arith) })

pub overflow_add-at : goal.overflow_add-at
overflow_add-at c = omega (arith, c.requires)

pub bounds-d-at : goal.bounds-d-at
bounds-d-at c = omega (arith, c.requires)

pub overflow_add-n : goal.overflow_add-n
overflow_add-n c =
    let l = c.loop-k in
    omega (arith, c.is_feed-n.ensures, one_feed (get_or c.args.d.now (c.args.at + l.k) 0))

pub loop-k-preserved : goal.loop-k-preserved
loop-k-preserved c =
    let l = c.loop-k in
    (omega arith, omega (arith, c.is_feed-n.ensures, one_feed (get_or c.args.d.now (c.args.at + l.k) 0)), clear_more c.args.d.now c.args.at l.k l.n c.is_feed-n.result c.is_feed-n.ensures l.invariant.2)

pub returns : goal.returns
returns c =
    let l = c.loop-k in
    let e : l.k ≡ 16 = omega arith in rw e at l.invariant.2

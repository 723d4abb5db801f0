use native.Mathlib.Omega.{arith}
use Rattle.climb.specs.Steps.{turned_round}
use Rattle.climb.proofs.+climb.Goals as goal

pub returns-then-k-l : goal.returns-then-k-l
returns-then-k-l t c =
    let a = c.args in
    let f = c.first_leg-up.ensures in
    let h = c.if-k-l.true in
    let r = c.climb.ensures in (
      omega (arith, f.rest h, r.0, turned_round a.book.now a.xs.now a.k a.i a.l a.j c.requires.1 h),
      omega (arith, f.few, r.1, f.low h, h),
    )

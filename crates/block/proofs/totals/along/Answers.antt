use Prim.Native.Nat.{◌-◌}
use native.Mathlib.Omega.{arith}
use mathlib.Core.Path.{◌≡◌}
use lib.Dec.{eqb}
use Rattle.block.proofs.Tallies.{bit_low, tally_none, tally_even, tally_odd}
use Rattle.block.proofs.totals.along.Goals as goal
use Rattle.block.proofs.totals.along.Goals.{then-d-eq0, else-d-eq0}

pub loop-j-init : goal.loop-j-init
loop-j-init c = (omega arith, tally_none _)

pub overflow_add-ones : goal.overflow_add-ones
overflow_add-ones c = let B = c.loop-j.invariant.1.low in omega (arith, bit_low (eqb c.wide-d.result 1))

pub overflow_add-twos : goal.overflow_add-twos
overflow_add-twos c = let B = c.loop-j.invariant.1.low in omega (arith, bit_low (eqb c.wide-d.result 2))

pub loop-j-preserved : goal.loop-j-preserved
loop-j-preserved c =
    let l = c.loop-j in
    let d = c.wide-d in (
      omega arith,
      elim c.if-d-eq0.branch [
        | then-d-eq0 t ↦ rw (t.even-is, t.odd-is, t.evens-is, t.odds-is) (tally_even _ l.j _ l.invariant.1 d.result d.ensures.0 d.ensures.1 t.if-d-eq0.true)
        | else-d-eq0 t ↦ rw (t.even-is, t.odd-is, t.evens-is, t.odds-is) (tally_odd _ l.j _ l.invariant.1 d.result d.ensures.0 d.ensures.1 t.if-d-eq0.false)
      ],
    )

pub returns : goal.returns
returns c =
    let e : c.loop-j.j ≡ c.args.k = omega arith in
    rw e at c.loop-j.invariant.1

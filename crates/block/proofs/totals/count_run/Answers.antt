use Prim.Native.Nat.{◌-◌}
use mathlib.Core.Path.{◌≡◌, ◌∙◌}
use native.Mathlib.Omega.{arith}
use Rattle.block.proofs.Tallies.{run_here}
use Rattle.block.proofs.Counting.{count_none, count_low, count_in, count_out}
use Rattle.block.proofs.totals.count_run.Goals as goal
use Rattle.block.proofs.totals.count_run.Goals.{then-d-lt-ATOMS, else-d-lt-ATOMS}

pub loop-j-init : goal.loop-j-init
loop-j-init c = (omega arith, count_none _ _ _ c.requires.2)

pub wide-d-requires : goal.wide-d-requires
wide-d-requires c = tt

pub overflow_add-counts : goal.overflow_add-counts
overflow_add-counts c = omega (arith, count_low _ _ _ _ c.loop-j.invariant.1 _ c.wide-d.result c.requires.2 c.if-d-lt-ATOMS.true)

pub loop-j-preserved : goal.loop-j-preserved
loop-j-preserved c =
    let C = c.loop-j.invariant.1 in
    let here = c.wide-d.ensures.0 ∙ run_here c.args.half.now c.args.from c.loop-j.j in (
      omega arith,
      elim c.if-d-lt-ATOMS.branch [
        | then-d-lt-ATOMS t ↦ rw t.counts-is (count_in _ _ _ _ C _ here t.if-d-lt-ATOMS.true)
        | else-d-lt-ATOMS t ↦ rw t.counts-is (count_out _ _ _ _ C _ here t.if-d-lt-ATOMS.false)
      ],
    )

pub returns : goal.returns
returns c = let e : c.loop-j.j ≡ c.args.k = omega arith in (rw e at c.loop-j.invariant.1)

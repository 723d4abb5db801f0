use Prim.Native.Nat.{ℕ, ◌-◌}
use mathlib.Core.Path.{◌≡◌, sym, ap, ◌∙◌}
use native.Mathlib.Omega.{arith}
use Rattle.half.specs.Half.{half_at}
use Rattle.half.specs.Places.{start_first}
use Rattle.block.specs.Sums.{counts_by}
use Rattle.block.proofs.Summing.{run_fits, from_next}
use Rattle.block.proofs.Counting.{pairs_none, pairs_counts, pairs_more, pairs_end}
use Rattle.block.proofs.totals.count_pairs.Goals as goal

pub within-m-requires : goal.within-m-requires
within-m-requires c = tt

pub loop-i-init : goal.loop-i-init
loop-i-init c = (omega arith, omega arith, sym start_first, pairs_none _ _)

pub count_run-next-requires : goal.count_run-next-requires
count_run-next-requires c =
    let v = c.loop-i.invariant in
    let t = c.loop-i-test.true in
    let (a, b) = run_fits c.args.half.now _ _ _ t v.1 v.2 in
    (a, b, pairs_counts _ _ _ _ v.3 t v.1)

pub overflow_add-from : goal.overflow_add-from
overflow_add-from c = let v = c.loop-i.invariant in omega (arith, (from_next _ _ (omega arith) v.2).1)

pub loop-i-preserved : goal.loop-i-preserved
loop-i-preserved c =
    let l = c.loop-i in
    let v = l.invariant in
    (omega arith, v.1, (from_next l.i _ (omega arith) v.2).0, pairs_more _ _ l.i _ v.3 c.loop-i-test.true v.1 _ v.2 _ c.count_run-next.ensures)

pub returns : goal.returns
returns c =
    let l = c.loop-i in
    let w = c.within-m in
    let e : l.i ≡ w.result = omega arith in
    pairs_end _ _ _ (rw e at l.invariant.3) ∙ ap (λ (m : ℕ). counts_by m (half_at c.args.half.now)) w.ensures.0

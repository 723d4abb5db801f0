use Prim.Native.Nat.{◌*◌, ◌≤◌}
use mathlib.Core.Path.{sym, ◌∙◌, ap}
use native.Mathlib.Omega.{arith}
use lib.ListN.{length}
use lib.Seq.{length-take-le}
use Rattle.std.specs.Prelude.{Result}
use Rattle.std.proofs.lemmas.Result.{err_from_is_err_and}
use Rattle.reply.specs.Read.{as_result, as_read}
use Rattle.reply.specs.declared.Refusal.{Refusal}
use Rattle.reply.specs.declared.Counts.{Counts}
use Rattle.measuring.specs.Measuring.{counted_reply}
use Rattle.measuring.proofs.counted.Goals as goal
use Rattle.measuring.proofs.counted.Goals.{In_ok-x}

-- `measuring::counted` meets its contract.
-- the bonds that are counted are there
there : (c : In_ok-x) → 2 * c.in_ok-x.x.bonds ≤ length c.args.bytes.now
there c = c.requires _ c.in_ok-x.was

pub overflow_mul-len : goal.overflow_mul-len
overflow_mul-len c = omega (arith, there (goal.at.overflow_mul-len c).In_ok-x)

pub slice_bounds-measure-end : goal.slice_bounds-measure-end
slice_bounds-measure-end c = sym (length-take-le _ _ (there (goal.at.slice_bounds-measure-end c).In_ok-x))

pub returns-in_err-x : goal.returns-in_err-x
returns-in_err-x c =
    let a = c.args in
    let p = err_from_is_err_and c.from_residual.result c.from_residual.ensures.1 in
    rw (p.1, p.2) (ap (λ (s : Result Counts Refusal). as_result (counted_reply (as_read s) a.bytes.now)) (sym c.in_err-x.was))

pub returns : goal.returns
returns c =
    let a = c.args in
    c.measure.ensures ∙ ap (λ (s : Result Counts Refusal). as_result (counted_reply (as_read s) a.bytes.now)) (sym c.in_ok-x.was)

use mathlib.Core.Path.{◌≡◌, sym, ◌∙◌, ap}
use native.Mathlib.Omega.{arith}
use lib.ListN.{length}
use Rattle.std.specs.Prelude.{Err}
use Rattle.std.proofs.lemmas.Result.{err_from_is_err_and}
use Rattle.reply.specs.Read.{read, as_result}
use Rattle.block.specs.Block.{graph_of, block_reply}
use Rattle.block.specs.Drawn.{drawn_near_lem}
use Rattle.block.specs.Index.{indices_of}
use Rattle.block.specs.Told.{few_atoms, fine_drawn}
use Rattle.reach.specs.Told.{indices_refused, indices_fine}
use Rattle.filling.proofs.Told.{reply-refused, reply_short, reply_fine, bytes_stay, bytes_put, all_put}
use Rattle.filling.proofs.fill.Goals as goal
use Rattle.filling.proofs.fill.Goals.{In_ok-indices}

-- `fill` meets its contract.
-- a block with indices is fine, and they are its
told : (c : In_ok-indices) → let a = c.args in
    (block_reply a.n a.bonds.now ≡ read tt) × (c.in_ok-indices.indices ≡ indices_of (graph_of a.n a.bonds.now))
told c = indices_fine _ _ _ (sym c.opened.ensures.reply ∙ c.in_ok-indices.was)

pub returns-then-out-lt-SUMMARY : goal.returns-then-out-lt-SUMMARY
returns-then-out-lt-SUMMARY c =
    let e = reply_short _ _ (told (goal.at.returns-then-out-lt-SUMMARY c).In_ok-indices).0 _ c.if-out-lt-SUMMARY.true in
    record { reply = ap Err c.at.ensures ∙ sym (ap as_result e); bytes = bytes_stay _ _ _ _ e }

pub put_atoms-requires : goal.put_atoms-requires
put_atoms-requires c = (few_atoms _ _ (told (goal.at.put_atoms-requires c).In_ok-indices).0).high

pub returns-in_err-indices : goal.returns-in_err-indices
returns-in_err-indices c =
    let p = err_from_is_err_and c.from_residual.result c.from_residual.ensures.1 in
    let e = reply-refused _ _ _ (indices_refused _ _ _ (sym c.opened.ensures.reply ∙ c.in_err-indices.was)) in
    record { reply = rw (p.1, p.2) (sym (ap as_result e)); bytes = bytes_stay _ _ _ _ e }

pub returns : goal.returns
returns c =
    let (f, x) = told (goal.at.returns c).In_ok-indices in
    let near = c.opened.ensures.near ∙ drawn_near_lem _ _ (fine_drawn _ _ f) in
    let e = reply_fine _ _ f (length c.args.out.now) (omega (arith, c.if-out-lt-SUMMARY.false)) in
    record { reply = sym (ap as_result e); bytes = bytes_put _ _ _ _ e (all_put _ _ f _ _ _ x c.put_head.ensures _ near c.put_atoms.ensures) }

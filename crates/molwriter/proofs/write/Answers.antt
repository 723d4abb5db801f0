use mathlib.Core.Path.{sym, ap}
use lib.ListN.{length}
use Rattle.block.specs.Block.{bonds_of}
use Rattle.molwriter.specs.Written.{molfile_text}
use Rattle.molwriter.specs.Replies.{write_refused, stays}
use Rattle.reply.specs.Chain.{fine_read, refused_read}
use Rattle.molwriter.proofs.write.Goals as goal
use Rattle.reply.specs.Read.{as_result}
use Rattle.std.proofs.lemmas.Result.{err_from_is_err_and}

-- `molwriter::write` meets its contract. Assumes nothing.
pub written-requires : goal.written-requires
written-requires c = fine_read _ (sym c.in_ok-check.ensures)

pub returns-in_err-check : goal.returns-in_err-check
returns-in_err-check c =
    let a = c.args in
    let e = write_refused a.n a.bonds.now (length a.out.now) _ (refused_read _ _ (sym c.in_err-check.ensures)) in
    let p = err_from_is_err_and c.from_residual.result c.from_residual.ensures.1 in
    record { reply = rw (p.1, p.2) (sym (ap as_result e)); bytes = sym (stays (molfile_text a.n (bonds_of a.bonds.now)) a.out.now e) }

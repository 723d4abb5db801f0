use mathlib.Core.Path.{◌≡◌, sym, ◌∙◌, ap}
use lib.ListN.{length}
use Rattle.reply.specs.Read.{read}
use Rattle.reply.specs.Chain.{fine_read, refused_read}
use Rattle.block.specs.Block.{block_reply}
use Rattle.block.specs.Told.{few_atoms}
use Rattle.adjacency.specs.Writing.{by_sets, write_given, write_refused, text_stays}
use Rattle.adjacency.proofs.RoundTrip.{text_fits}
use Rattle.neighbours.specs.Said.{said_neighbours_written}
use Rattle.std.proofs.lemmas.Result.{err_from_is_err_and}
use Rattle.neighbours.proofs.write.Goals as goal
use Rattle.neighbours.proofs.write.Goals.{In_ok-neighbours}

-- `write` meets its contract. Assumes nothing.
-- the block is fine
fine : (c : In_ok-neighbours) → let a = c.args in block_reply a.n a.bonds.now ≡ read tt
fine c = fine_read _ (sym c.in_ok-neighbours.ensures.reply)

pub write_fine-requires : goal.write_fine-requires
write_fine-requires c =
    ((few_atoms _ _ (fine (goal.at.write_fine-requires c).In_ok-neighbours)).high, rw (by_sets _ _ (fine (goal.at.write_fine-requires c).In_ok-neighbours) _ c.in_ok-neighbours.ensures.near) (text_fits _ _ (fine (goal.at.write_fine-requires c).In_ok-neighbours)))

pub returns-in_err-neighbours : goal.returns-in_err-neighbours
returns-in_err-neighbours c =
    let a = c.args in
    let e = refused_read _ _ (sym c.in_err-neighbours.ensures.reply) in
    let w = write_refused a.n a.bonds.now (length a.out.now) _ e in
    let p = err_from_is_err_and c.from_residual.result c.from_residual.ensures.1 in
    record { reply = rw (p.1, p.2) (sym (ap said_neighbours_written w)); bytes = text_stays a.out.now w }

pub returns : goal.returns
returns c =
    let e = rw (sym (by_sets _ _ (fine (goal.at.returns c).In_ok-neighbours) _ c.in_ok-neighbours.ensures.near)) at (write_given _ _ (fine (goal.at.returns c).In_ok-neighbours) (length c.args.out.now)) in
    record { reply = c.write_fine.ensures.reply ∙ sym (ap said_neighbours_written e); bytes = c.write_fine.ensures.bytes ∙ rw e }

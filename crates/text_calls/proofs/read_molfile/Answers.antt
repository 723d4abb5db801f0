use mathlib.Core.Path.{◌∙◌}
use native.Mathlib.Omega.{arith}
use lib.ListN.{length}
use Rattle.block.specs.Block.{block_reply}
use Rattle.molfile.specs.Molfile.{bytes_of, molfile_reply}
use Rattle.calls.proofs.Laws.{counts_short, counts_beside}
use Rattle.text_calls.proofs.MolfileReplies.{any_room, bonds_filled}
use Rattle.text_calls.proofs.read_molfile.Goals as goal

-- `text_calls::read_molfile` meets its contract.
pub returns-then-counts-lt2 : goal.returns-then-counts-lt2
returns-then-counts-lt2 c =
    let d = c.args.text.now in
    let out = c.args.bonds.now in
    counts_short (molfile_reply d (length out)) _ _ out c.args.counts.now _ c.give_counts.ensures (molfile_reply d 1) (omega (arith, c.if-counts-lt2.true)) (any_room block_reply d 1 (length out)) c.read-lacking.ensures.reply

pub returns : goal.returns
returns c =
    let d = c.args.text.now in
    let out = c.args.bonds.now in
    counts_beside (molfile_reply d (length out)) _ _ out c.args.counts.now _ c.give_counts-2.ensures (omega (arith, c.if-counts-lt2.false)) c.read-answer.ensures.reply (c.read-answer.ensures.bytes ∙ bonds_filled (molfile_reply d (length out)) (bytes_of d) out)

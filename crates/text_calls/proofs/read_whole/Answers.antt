use mathlib.Core.Path.{◌∙◌}
use native.Mathlib.Omega.{arith}
use lib.ListN.{length}
use Rattle.molfile.specs.Molfile.{bytes_of}
use Rattle.wholefile.specs.Whole.{molecule_reply, whole_file_reply}
use Rattle.calls.proofs.Laws.{counts_short, counts_beside}
use Rattle.text_calls.proofs.MolfileReplies.{any_room, bonds_filled}
use Rattle.text_calls.proofs.read_whole.Goals as goal

-- `text_calls::read_whole` meets its contract.
pub returns-then-counts-lt2 : goal.returns-then-counts-lt2
returns-then-counts-lt2 c =
    let d = c.args.text.now in
    let out = c.args.bonds.now in
    counts_short (whole_file_reply d (length out)) _ _ out c.args.counts.now _ c.give_counts.ensures (whole_file_reply d 1) (omega (arith, c.if-counts-lt2.true)) (any_room molecule_reply d 1 (length out)) c.read_whole-lacking.ensures.reply

pub returns : goal.returns
returns c =
    let d = c.args.text.now in
    let out = c.args.bonds.now in
    counts_beside (whole_file_reply d (length out)) _ _ out c.args.counts.now _ c.give_counts-2.ensures (omega (arith, c.if-counts-lt2.false)) c.read_whole-answer.ensures.reply (c.read_whole-answer.ensures.numbers ∙ bonds_filled (whole_file_reply d (length out)) (bytes_of d) out)

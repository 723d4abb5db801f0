use mathlib.Core.Path.{◌∙◌}
use native.Mathlib.Omega.{arith}
use lib.ListN.{length}
use Rattle.adjacency.specs.Neighbours.{neighbours_reply}
use Rattle.calls.proofs.Laws.{counts_short, counts_beside}
use Rattle.text_calls.proofs.Texts.{any_room, bytes_filled}
use Rattle.text_calls.proofs.read_neighbours.Goals as goal

-- `text_calls::read_neighbours` meets its contract.
pub returns-then-counts-lt2 : goal.returns-then-counts-lt2
returns-then-counts-lt2 c =
    let d = c.args.text.now in
    let out = c.args.bonds.now in
    counts_short (neighbours_reply d (length out)) _ _ out c.args.counts.now _ c.give_counts.ensures (neighbours_reply d 1) (omega (arith, c.if-counts-lt2.true)) (any_room d 1 (length out)) c.read-lacking.ensures.reply

pub returns : goal.returns
returns c =
    let d = c.args.text.now in
    let out = c.args.bonds.now in
    counts_beside (neighbours_reply d (length out)) _ _ out c.args.counts.now _ c.give_counts-2.ensures (omega (arith, c.if-counts-lt2.false)) c.read-answer.ensures.reply (c.read-answer.ensures.bytes ∙ bytes_filled (neighbours_reply d (length out)) out)

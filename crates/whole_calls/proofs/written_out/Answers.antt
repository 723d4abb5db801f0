use mathlib.Core.Path.{◌∙◌}
use native.Mathlib.Omega.{arith}
use lib.ListN.{length}
use Rattle.whole.specs.Whole.{whole_reply}
use Rattle.calls.proofs.Laws.{counts_short, counts_beside}
use Rattle.whole_calls.proofs.Replies.{any_room, numbers_filled}
use Rattle.whole_calls.proofs.written_out.Goals as goal

-- `whole_calls::written_out` meets its contract. Assumes nothing.
pub returns-then-counts-lt2 : goal.returns-then-counts-lt2
returns-then-counts-lt2 c =
    let d = c.args.deck.now in
    let out = c.args.bonds.now in
    counts_short (whole_reply d (length out)) _ _ out c.args.counts.now _ c.give_counts.ensures (whole_reply d 1) (omega (arith, c.if-counts-lt2.true)) (any_room d 1 (length out)) c.bonds-lacking.ensures.reply

pub returns : goal.returns
returns c =
    let d = c.args.deck.now in
    let out = c.args.bonds.now in
    counts_beside (whole_reply d (length out)) _ _ out c.args.counts.now _ c.give_counts-2.ensures (omega (arith, c.if-counts-lt2.false)) c.bonds-answer.ensures.reply (c.bonds-answer.ensures.numbers ∙ numbers_filled d out)

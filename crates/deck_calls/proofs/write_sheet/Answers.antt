use mathlib.Core.Path.{◌∙◌}
use lib.ListN.{length}
use Rattle.judging.specs.Judging.{sheet_write_reply}
use Rattle.deck_calls.proofs.Laws.{written_coded}
use Rattle.deck_calls.proofs.write_sheet.Goals as goal

-- `deck_calls::write_sheet` meets its contract.
pub returns : goal.returns
returns c =
    let a = c.args in
    record { reply = c.written_code.ensures ∙ written_coded _ (sheet_write_reply a.sheet a.deck.now (length a.out.now)) c.write_sheet-written.ensures.reply; bytes = c.write_sheet-written.ensures.bytes }

use mathlib.Core.Path.{refl, sym, ◌∙◌}
use Rattle.std.proofs.lemmas.Result.{err_from_is_err_and}
use Rattle.reply.specs.Chain.{fine_read, refused_read}
use Rattle.deck.specs.Deck.{sheet_reply}
use Rattle.compose.specs.Fields.{behind_reply}
use Rattle.compose.proofs.behind.Goals as goal

-- `compose::behind` meets its contract. Assumes nothing.
pub returns-in_err-sheet_reply : goal.returns-in_err-sheet_reply
unfolding behind_reply
returns-in_err-sheet_reply c = let a = c.args in
    let p = err_from_is_err_and c.from_residual.result c.from_residual.ensures.1 in
    rw (p.1, p.2, refused_read (sheet_reply a.form a.d.now a.sheet) _ (sym c.sheet_reply.ensures ∙ c.in_err-sheet_reply.was)) refl

pub returns : goal.returns
unfolding behind_reply
returns c = let a = c.args in
    rw (fine_read (sheet_reply a.form a.d.now a.sheet) (sym c.sheet_reply.ensures ∙ c.in_ok-sheet_reply.was)) refl

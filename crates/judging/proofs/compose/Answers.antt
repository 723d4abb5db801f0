use mathlib.Core.Path.{sym, ◌∙◌}
use Rattle.std.proofs.lemmas.Result.{err_from_is_err_and}
use Rattle.deck.specs.declared.Form.TheVariants.{Composed}
use Rattle.judging.proofs.Judging.{composed-refused, composed-read, fields_refused, fields_read}
use Rattle.judging.proofs.compose.Goals as goal

-- `judging::compose` meets its contract. Assumes nothing.
pub returns-in_err-x : goal.returns-in_err-x
returns-in_err-x c =
    let p = err_from_is_err_and c.from_residual.result c.from_residual.ensures.1 in
    rw (p.1, p.2) (fields_refused Composed _ _ (composed-refused Composed _ _ (sym c.in_err-x.was ∙ c.fields.ensures)))

pub returns : goal.returns
returns c = let (k, e, p, q) = composed-read Composed _ _ (sym c.in_ok-x.was ∙ c.fields.ensures) in fields_read Composed _ k _ e p

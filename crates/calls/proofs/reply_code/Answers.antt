use mathlib.Core.Path.{sym, ◌∙◌, ap}
use Rattle.calls.specs.Convention.{reply_code}
use Rattle.calls.proofs.reply_code.Goals as goal

-- `calls::reply_code` meets its contract. Assumes nothing.
pub returns-in-Err : goal.returns-in-Err
returns-in-Err c = c.code_of.ensures ∙ ap reply_code (sym c.in-Err.is)

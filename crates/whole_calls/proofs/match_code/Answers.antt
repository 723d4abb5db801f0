use mathlib.Core.Path.{sym, ◌∙◌, ap}
use Rattle.std.specs.Prelude.{Result, Ok}
use Rattle.reply.specs.declared.Refusal.{Refusal}
use Rattle.matched.specs.declared.Match.{Match}
use Rattle.whole_calls.specs.Replies.{match_code}
use Rattle.whole_calls.proofs.match_code.Goals as goal

-- `whole_calls::match_code` meets its contract. Assumes nothing.
pub returns-in-Err : goal.returns-in-Err
returns-in-Err c = c.code_of.ensures ∙ ap match_code (sym c.in-Err.is)

pub returns-in-Ok-Differs : goal.returns-in-Ok-Differs
returns-in-Ok-Differs c = c.verdict_code.ensures ∙ ap match_code (sym (c.in-Ok-Differs.is ∙ ap (λ (m : Match). Ok m) (rw c.in-Ok-Differs.is at c.in-Ok-Differs.field-0-is)))

use mathlib.Core.Bool.{true≢false}
use mathlib.Core.Path.{sym, ◌∙◌}
use Rattle.claims.proofs.sets_asked.Goals as goal

-- `claims::sets_asked` meets its contract. Assumes nothing.
pub returns-then-is_asked : goal.returns-then-is_asked
returns-then-is_asked c = record { bonds = (λ a. c.sets_of.ensures.bonds); atoms = (λ a. c.sets_of.ensures.atoms) }

pub returns-then-is_asked-2 : goal.returns-then-is_asked-2
returns-then-is_asked-2 c = record { bonds = (λ a. c.sets_of-then-is_asked-2.ensures.bonds); atoms = (λ a. c.sets_of-then-is_asked-2.ensures.atoms) }

pub returns : goal.returns
returns c = record { bonds = (λ a. absurd (true≢false (sym a ∙ sym c.is_asked.ensures ∙ c.if-is_asked.false))); atoms = (λ a. absurd (true≢false (sym a ∙ sym c.is_asked-2.ensures ∙ c.if-is_asked-2.false))) }

use mathlib.Core.Path.{ap, ◌∙◌}
use native.Mathlib.Omega.{arith}
use borrow.Author.Tests.{eq-eqb, ne_eqb}
use Rattle.wholefile.specs.Whole.{molecule_reply}
use Rattle.wholefile.proofs.molecule.Goals as goal
use Rattle.std.specs.Prelude.{Err}

-- `wholefile::molecule` meets its contract: no atom, then the bonds.
pub returns-then-n-eq0 : goal.returns-then-n-eq0
unfolding molecule_reply
returns-then-n-eq0 c = ap Err c.at.ensures ∙ simp (eq-eqb c.args.n 0 (omega (arith, c.if-n-eq0.true)))

pub returns : goal.returns
unfolding molecule_reply
returns c = c.bonds.ensures ∙ simp (ne_eqb c.args.n 0 (λ z. omega (arith, c.if-n-eq0.false)))

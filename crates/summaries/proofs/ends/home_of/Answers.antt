use mathlib.Core.Path.{sym, ◌∙◌}
use native.Mathlib.Omega.{arith}
use Rattle.summaries.proofs.Storing.{own_home, site_home}
use Rattle.summaries.proofs.ends.home_of.Goals as goal

-- `summaries::ends::home_of` meets its contract. Assumes nothing.
pub returns-then-e-eq0 : goal.returns-then-e-eq0
returns-then-e-eq0 c = let a = c.args in sym (own_home a.links.now a.e (omega (arith, c.if-e-eq0.true)))

pub returns : goal.returns
returns c = let a = c.args in c.parent_of.ensures.0 ∙ sym (site_home a.links.now a.e (λ h. omega (arith, c.if-e-eq0.false, h)))

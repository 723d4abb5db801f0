use native.Mathlib.Omega.{arith}
use Rattle.ranking_calls.specs.Unlent.{wants_smallest, wants_greatest_lem}
use Rattle.ranking_calls.proofs.wants.Goals as goal

-- `ranking_calls::wants` meets its contract. Assumes nothing.
pub returns-then-greatest-eq0 : goal.returns-then-greatest-eq0
returns-then-greatest-eq0 c = wants_smallest c.args.greatest (omega (arith, c.if-greatest-eq0.true))

pub returns : goal.returns
returns c = wants_greatest_lem c.args.greatest (λ e. omega (arith, c.if-greatest-eq0.false, e))

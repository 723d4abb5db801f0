use mathlib.Core.Path.{sym}
use lib.Seq.{set_out}
use native.Mathlib.Omega.{arith}
use Rattle.whole.proofs.put.Goals as goal

-- `whole::put` meets its contract: where there is no room nothing changes.
pub returns-then-out-at : goal.returns-then-out-at
returns-then-out-at c = let a = c.args in sym (set_out a.out.now a.at a.x (omega (arith, c.if-out-at.true)))

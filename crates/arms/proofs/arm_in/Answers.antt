use Rattle.arms.proofs.Keeping.{arm_kept}
use Rattle.arms.proofs.arm_in.Goals as goal

-- `arms::arm_in` meets its contract. Assumes nothing.
pub returns : goal.returns
returns c = let a = c.args in arm_kept a.s.now a.a _ _ c.fields-six.ensures c.seen.ensures

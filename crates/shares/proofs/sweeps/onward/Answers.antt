use native.Mathlib.Omega.{arith}
use Rattle.shares.proofs.Counting.{rule_gathered}
use Rattle.shares.proofs.sweeps.onward.Goals as goal

-- `onward` meets its contract: the levels in reverse and the weights give the rule of what is gathered.
pub reversed-back-requires : goal.reversed-back-requires
reversed-back-requires c = c.requires.0.4.levels.low

pub sweep-requires : goal.sweep-requires
sweep-requires c =
    let p = c.requires in
    ((_, _, _, p.0.4.beside, c.reversed-back.ensures _ _ p.0.4.levels, omega arith), p.1, p.2)

pub returns : goal.returns
returns c n bs row i q S e = c.sweep.ensures _ _ _ _ S.beside (c.reversed-back.ensures _ _ S.levels) (rule_gathered S e)

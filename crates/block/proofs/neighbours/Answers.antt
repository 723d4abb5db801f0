use mathlib.Core.Path.{sym, ap}
use Rattle.block.specs.Drawn.{none_opened}
use Rattle.block.proofs.Replies.{refused_block, near_opened}
use Rattle.block.proofs.neighbours.Goals as goal
use Rattle.reply.specs.Read.{as_result}

pub returns-then-admit : goal.returns-then-admit
returns-then-admit c = let R = c.admit.ensures.ready c.if-admit.true in record { reply = sym (ap as_result R.fine); near = near_opened _ _ R }

pub returns : goal.returns
returns c =
    let b = refused_block _ _ c.refusal.ensures (c.admit.ensures.refuses c.if-admit.false) in
    record { reply = sym (ap as_result b); near = sym (none_opened _ _ b) }

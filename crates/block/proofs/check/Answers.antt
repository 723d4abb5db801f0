use mathlib.Core.Path.{refl, sym, ap}
use Rattle.block.proofs.Replies.{refused_block}
use Rattle.block.proofs.check.Goals as goal
use Rattle.reply.specs.Read.{as_result}

pub admit-requires : goal.admit-requires
admit-requires c = refl

pub returns-then-admit : goal.returns-then-admit
returns-then-admit c = sym (ap as_result (c.admit.ensures.ready c.if-admit.true).fine)

pub returns : goal.returns
returns c = sym (ap as_result (refused_block _ _ c.refusal.ensures (c.admit.ensures.refuses c.if-admit.false)))

use mathlib.Core.Path.{refl, sym, ap}
use borrow.Author.Tests.{not-true, not-false}
use Rattle.block.proofs.Filling.{kept, stored}
use Rattle.block.proofs.Replies.{refused_block}
use Rattle.block.proofs.halved.Goals as goal
use Rattle.reply.specs.Read.{as_result}

pub admit-requires : goal.admit-requires
admit-requires c = refl

pub returns-then-not-admit : goal.returns-then-not-admit
returns-then-not-admit c =
    let b = refused_block _ _ c.refusal.ensures (c.admit.ensures.refuses (not-true _ c.if-not-admit.true-raw)) in
    record { reply = sym (ap as_result b); half = kept _ _ _ b _ _ }

pub from_all-requires : goal.from_all-requires
from_all-requires c =
    ((_, c.admit.ensures.ready (not-false _ c.if-not-admit.false-raw)), refl)

pub returns : goal.returns
returns c =
    let R = c.admit.ensures.ready (not-false _ c.if-not-admit.false-raw) in
    record { reply = sym (ap as_result R.fine); half = stored _ _ R.fine _ _ _ (c.from_all.ensures.half _ R) }

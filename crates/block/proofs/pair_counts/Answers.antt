use mathlib.Core.Path.{refl, sym, ◌∙◌}
use Rattle.reply.specs.Chain.{fine_read, refused_read}
use Rattle.block.specs.Halved.{half_lent}
use Rattle.block.proofs.Answers.{pairs_refused, pairs_fine}
use Rattle.block.proofs.pair_counts.Goals as goal

pub returns-in_default : goal.returns-in_default
returns-in_default c =
    let e = c.in_default.is in
    pairs_refused _ _ _ _ (refused_read _ _ (sym c.halved-reply.ensures.reply ∙ e)) e refl

pub returns : goal.returns
returns c =
    let e = c.in-Ok.is in
    let h = c.halved-reply.ensures in
    pairs_fine _ _ (fine_read _ (sym h.reply ∙ e)) _ (h.half ∙ half_lent _ _) _ e c.count_pairs-at.ensures

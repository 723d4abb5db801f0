use mathlib.Core.Logic.{⊎_elim}
use mathlib.Core.Path.{◌≡◌, sym, ap, ◌∙◌}
use Rattle.std.specs.Prelude.{Err}
use Rattle.std.proofs.lemmas.Result.{err_from_is_err_and}
use Rattle.reply.specs.Read.{read}
use Rattle.reply.specs.Chain.{fine_read, refused_read}
use Rattle.block.specs.Block.{block_reply}
use Rattle.block.proofs.Answers.{distance_refused, distance_first, distance_second, distance_fine}
use Rattle.block.proofs.distance.Goals as goal
use Rattle.block.proofs.distance.Goals.{In_ok-halved}

-- the block is fine
fine : (c : In_ok-halved) → let a = c.args in block_reply a.n a.bonds.now ≡ read tt
fine c = fine_read _ (sym c.halved.ensures.reply ∙ c.in_ok-halved.was)

pub returns-then-is_outside : goal.returns-then-is_outside
returns-then-is_outside c =
    let o = c.is_outside.ensures in
    let f = fine (goal.at.returns-then-is_outside c).In_ok-halved in
    ap Err c.at.ensures
    ∙ ⊎_elim (λ t. distance_first _ _ _ _ f (sym o ∙ t.if-is_outside.true)) (λ t. distance_second _ _ _ _ f (sym o ∙ t.if-is_outside.false) (sym t.is_outside-else-is_outside.ensures ∙ t.if-is_outside-2.true))
    c.then-is_outside.branch-raw

pub returns-in_err-halved : goal.returns-in_err-halved
returns-in_err-halved c = let p = err_from_is_err_and c.from_residual.result c.from_residual.ensures.1 in rw (p.1, p.2) (distance_refused _ _ _ _ _ (refused_read _ _ (sym c.halved.ensures.reply ∙ c.in_err-halved.was)))

pub returns : goal.returns
returns c =
    distance_fine _ _ _ _ (fine (goal.at.returns c).In_ok-halved) (sym c.is_outside.ensures ∙ c.if-is_outside.false) (sym c.is_outside-else-is_outside.ensures ∙ c.if-is_outside-2.false) _ c.halved.ensures.half _ (c.wide.ensures.0 ∙ c.get.ensures)

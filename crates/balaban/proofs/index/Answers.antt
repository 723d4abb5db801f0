use mathlib.Core.Path.{◌≡◌, sym, ◌∙◌}
use Rattle.std.proofs.lemmas.Result.{err_from_is_err_and}
use Rattle.reply.specs.Read.{read}
use Rattle.reply.specs.Chain.{fine_read, refused_read}
use Rattle.block.specs.Block.{block_reply}
use Rattle.reach.specs.Told.{sums_told}
use Rattle.balaban.proofs.Blocks.{task}
use Rattle.balaban.proofs.Reply.{refused_reply, fine_reply}
use Rattle.balaban.proofs.index.Goals as goal
use Rattle.balaban.proofs.index.Goals.{In_ok-vertex_sums}

-- `index` meets its contract: a refusal is the block's. Assumes nothing.
fine : (c : In_ok-vertex_sums) → let a = c.args in block_reply a.n a.bonds.now ≡ read tt
fine c = fine_read _ (sym c.vertex_sums.ensures.reply ∙ c.in_ok-vertex_sums.was)

pub reckon-requires : goal.reckon-requires
reckon-requires c = let f = fine (goal.at.reckon-requires c).In_ok-vertex_sums in task _ _ f _ (c.vertex_sums.ensures.sums ∙ sums_told _ _ f)

pub returns-in_err-vertex_sums : goal.returns-in_err-vertex_sums
returns-in_err-vertex_sums c =
    let p = err_from_is_err_and c.from_residual.result c.from_residual.ensures.1 in
    rw (p.1, p.2) (refused_reply _ _ _ (refused_read _ _ (sym c.vertex_sums.ensures.reply ∙ c.in_err-vertex_sums.was)))

pub returns : goal.returns
returns c = fine_reply _ _ (fine (goal.at.returns c).In_ok-vertex_sums) _ c.reckon.ensures

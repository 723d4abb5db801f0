use Rattle.std.proofs.lemmas.Result.{err_from_is_err_and}
use Rattle.block.proofs.Answers.{vertex_refused, vertex_fine}
use Rattle.block.proofs.vertex_sums.Goals as goal

pub returns-in_err-seen : goal.returns-in_err-seen
returns-in_err-seen c = let p = err_from_is_err_and c.from_residual.result c.from_residual.ensures.1 in rw (p.1, p.2) (vertex_refused _ _ _ _ c.row-seen.ensures _ c.in_err-seen.was)

pub returns : goal.returns
returns c = vertex_fine _ _ _ _ c.row-seen.ensures c.in_ok-seen.was _ c.around_row.ensures

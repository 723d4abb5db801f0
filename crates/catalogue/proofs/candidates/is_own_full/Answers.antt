use mathlib.Core.Path.{sym}
use Rattle.catalogue.proofs.candidates.is_own_full.Goals as goal

-- `catalogue::candidates::is_own_full` meets its contract. Assumes nothing.
pub returns-then-is_sparse : goal.returns-then-is_sparse
returns-then-is_sparse c = sym (c.is_sparse.ensures c.if-is_sparse.true)

use native.Mathlib.Nat.{le_trans, div-le_self}
use Rattle.balaban.proofs.roots.guess.Goals as goal

-- `roots::guess` meets its contract: a fraction of 10 ^ 9, divided. Assumes nothing.
pub returns : goal.returns
returns c = le_trans (div-le_self c.times-t.result _) c.times-t.ensures

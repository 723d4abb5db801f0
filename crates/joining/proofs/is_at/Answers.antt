use native.Mathlib.Omega.{arith}
use mathlib.Core.Bool.{Bool, cond}
use mathlib.Core.Path.{sym, ap}
use Prim.Native.Nat.{ℕ}
use borrow.Author.Tests.{eq-eqb, ne_eqb}
use Rattle.graph.specs.Graph.{is_at}
use Rattle.joining.proofs.is_at.Goals as goal

-- `joining::is_at` meets its contract. Assumes nothing.
pub returns-then-d-k : goal.returns-then-d-k
unfolding is_at
returns-then-d-k c = (sym (ap (λ (t : Bool). cond {A = ℕ} t 1 0) (eq-eqb _ _ c.if-d-k.true)), omega arith)

pub returns-else-d-k : goal.returns-else-d-k
unfolding is_at
returns-else-d-k c = (sym (ap (λ (t : Bool). cond {A = ℕ} t 1 0) (ne_eqb _ _ c.if-d-k.false)), omega arith)

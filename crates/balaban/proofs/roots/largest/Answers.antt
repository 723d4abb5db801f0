use mathlib.Core.Path.{sym, ap, ◌∙◌}
use native.Mathlib.Nat.{div-le_self}
use native.Mathlib.Omega.{arith}
use Rattle.balaban.specs.Balaban.{bound, largest_root}
use Rattle.balaban.proofs.Squares.{largest_is, largest_none}
use Rattle.balaban.proofs.roots.largest.Goals as goal

-- `roots::largest` meets its contract: the root of the quotient is the largest number. Assumes nothing.
pub returns-then-p-eq0 : goal.returns-then-p-eq0
returns-then-p-eq0 c = (sym (largest_none (bound 1)) ∙ ap (largest_root (bound 1)) (sym c.if-p-eq0.true), omega arith)

pub up-requires : goal.up-requires
up-requires c = let d = c.down-s.ensures in (d.0, d.1, div-le_self (bound 1) c.args.p)

pub returns : goal.returns
returns c = let r = c.up.ensures in (largest_is (bound 1) c.args.p c.up.result r.0, r.1)

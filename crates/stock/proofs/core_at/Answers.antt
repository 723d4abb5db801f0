use mathlib.Core.Path.{sym, ◌∙◌, ap, ap₂}
use native.Mathlib.Omega.{arith}
use lib.ListN.{length, take}
use Rattle.arms.specs.Arms.{opened_of, core_in}
use Rattle.arms.proofs.Keeping.{opened_long}
use Rattle.stock.specs.Stock.{core_at}
use Rattle.stock.proofs.core_at.Goals as goal

-- `stock::core_at` meets its contract. Assumes nothing.

pub returns : goal.returns
unfolding core_at
returns c =
    let a = c.args in
    c.core_in.ensures ∙ ap₂ core_in (c.hold.ensures.place ∙ ap (opened_of a.d.now (take a.count a.blocks)) c.le16_at.ensures) c.atoms_of.ensures

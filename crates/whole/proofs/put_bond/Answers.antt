use Prim.Native.Nat.{ℕ, ◌+◌}
use native.Mathlib.Numerals.{add-one}
use mathlib.Core.Path.{◌∙◌, ap}
use mathlib.Core.List.{List}
use lib.ListN.{set}
use Rattle.whole.proofs.put_bond.Goals as goal

-- `whole::put_bond` meets its contract.
-- src/lib.rt:49:18
-- src/lib.rt:49:5
-- src/lib.rt:50:14
-- src/lib.rt:50:22
-- src/lib.rt:50:5
-- src/lib.rt:45:1
-- src/lib.rt:45:1
pub returns : goal.returns
returns c =
    let a = c.args in
    c.put-2.ensures
    ∙ ap (λ (l : List ℕ). set l (a.at + 1) a.two) c.put.ensures
    ∙ ap (λ (n : ℕ). set (set a.out.now a.at a.one) n a.two) (add-one a.at)

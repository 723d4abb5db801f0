use Prim.Native.Nat.{◌-◌}
use mathlib.Core.Path.{◌≡◌, ◌∙◌, ap}
use native.Mathlib.Omega.{arith}
use Rattle.assembly.specs.Placements.{placement_at}
use Rattle.assembly.specs.declared.Placement.{Placement}
use Rattle.summaries.proofs.links.block_of.Goals as goal

-- `summaries::links::block_of` meets its contract. Assumes nothing.
pub returns-then-p-eq0 : goal.returns-then-p-eq0
returns-then-p-eq0 c =
    let a = c.args in
    let e : 0 ≡ a.p - 1 = omega (arith, c.if-p-eq0.true) in
    ap (λ (q : Placement). q.block) (c.placement_at.ensures ∙ ap (placement_at a.xs.now) e)

pub returns : goal.returns
returns c = ap (λ (q : Placement). q.block) c.placement_at-2.ensures

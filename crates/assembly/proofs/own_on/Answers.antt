use Prim.Native.Nat.{◌-◌}
use mathlib.Core.Path.{◌≡◌, sym, ◌∙◌}
use native.Mathlib.Omega.{arith}
use Rattle.assembly.specs.Placements.{join_of}
use Rattle.assembly.specs.Work.{own_on}
use Rattle.assembly.proofs.own_on.Goals as goal

-- `assembly::own_on` meets its contract. Assumes nothing.
pub returns-then-p-eq0 : goal.returns-then-p-eq0
unfolding own_on
returns-then-p-eq0 c = let e : c.args.p - 1 ≡ 0 = omega arith in (rw e, omega arith)

pub returns-then-is_outside : goal.returns-then-is_outside
unfolding own_on
returns-then-is_outside c = (rw (sym c.is_outside.ensures ∙ c.if-is_outside.true), omega arith)

pub returns : goal.returns
unfolding own_on join_of
returns c =
    let inside = sym c.is_outside.ensures ∙ c.if-is_outside.false in
    (rw (inside, ← c.placement_at.ensures) c.one_if.ensures.0, c.one_if.ensures.1)

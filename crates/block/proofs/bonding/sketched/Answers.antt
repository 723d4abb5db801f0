use Prim.Native.Nat.{◌-◌, ◌*◌, ◌+◌, ◌≤◌}
use mathlib.Core.Bool.{true≢false}
use mathlib.Core.Logic.{inl, inr, ⊎_elim}
use mathlib.Core.Path.{◌≡◌, sym, ap, ◌∙◌}
use native.Mathlib.Numerals.{add-one}
use native.Mathlib.Omega.{arith}
use lib.ListN.{length, length-set}
use Rattle.graph.specs.Graph.{Within}
use Rattle.graph.specs.SetLaws.{shifted_one}
use Rattle.block.specs.Block.{most_atoms}
use Rattle.block.specs.Faults.{inside}
use Rattle.block.specs.Numbered.{bond_at}
use Rattle.block.proofs.Sketching.{sketching_start, sketching_next, sketching_shows, end_outside}
use Rattle.block.proofs.bonding.sketched.Goals as goal
use Rattle.block.proofs.bonding.sketched.Goals.{Else-is_outside-2}

pub loop-k-init : goal.loop-k-init
loop-k-init c = (omega arith, rw c.requires.1 (sketching_start _ _ c.requires.0))

pub overflow_cast-a : goal.overflow_cast-a
overflow_cast-a c = omega (arith, c.type_inv.bonds (2 * c.loop-k.k))

pub overflow_cast-b : goal.overflow_cast-b
overflow_cast-b c = omega (arith, c.type_inv.bonds (2 * c.loop-k.k + 1))

pub shape_of-near-then-is_outside : goal.shape_of-near-then-is_outside
shape_of-near-then-is_outside c = omega (arith, c.loop-k.invariant.1.draws.size, ap length c.requires.1)

pub returns-then-is_outside : goal.returns-then-is_outside
returns-then-is_outside c = end_outside c.loop-k.k (omega arith) (⊎_elim (λ t. inl (sym c.is_outside.ensures ∙ t.if-is_outside.true)) (λ t. inr (sym t.is_outside-else-is_outside.ensures ∙ t.if-is_outside-2.true)) c.then-is_outside.branch-raw)

-- both ends are atoms, and there is a set for each
first : (c : Else-is_outside-2) → let s = c.args in Within s.n (bond_at s.bonds.now c.loop-k.k).one
first c = inside _ _ (sym c.is_outside.ensures ∙ c.if-is_outside.false)

second : (c : Else-is_outside-2) → let s = c.args in Within s.n (bond_at s.bonds.now c.loop-k.k).two
second c = inside _ _ (sym c.is_outside-else-is_outside.ensures ∙ c.if-is_outside-2.false)

room : (c : Else-is_outside-2) → (c.args.n ≤ most_atoms) × (length c.loop-k.near ≡ most_atoms)
room c = (c.requires.0, c.loop-k.invariant.1.draws.size)

pub overflow_sub-u : goal.overflow_sub-u
overflow_sub-u c = omega (arith, first (goal.at.overflow_sub-u c).Else-is_outside-2, room (goal.at.overflow_sub-u c).Else-is_outside-2)

pub overflow_sub-v : goal.overflow_sub-v
overflow_sub-v c = omega (arith, second (goal.at.overflow_sub-v c).Else-is_outside-2, room (goal.at.overflow_sub-v c).Else-is_outside-2)

pub overflow_shl-one : goal.overflow_shl-one
overflow_shl-one c = omega (arith, first (goal.at.overflow_shl-one c).Else-is_outside-2, room (goal.at.overflow_shl-one c).Else-is_outside-2)

pub overflow_shl-two : goal.overflow_shl-two
overflow_shl-two c = omega (arith, second (goal.at.overflow_shl-two c).Else-is_outside-2, room (goal.at.overflow_shl-two c).Else-is_outside-2)

pub offset_bounds-near-u : goal.offset_bounds-near-u
offset_bounds-near-u c = omega (arith, first (goal.at.offset_bounds-near-u c).Else-is_outside-2, room (goal.at.offset_bounds-near-u c).Else-is_outside-2)

pub bounds-near-u : goal.bounds-near-u
bounds-near-u c = omega (arith, first (goal.at.bounds-near-u c).Else-is_outside-2, room (goal.at.bounds-near-u c).Else-is_outside-2)

pub offset_bounds-near-u-in-loop-k : goal.offset_bounds-near-u-in-loop-k
offset_bounds-near-u-in-loop-k c = omega (arith, first (goal.at.offset_bounds-near-u-in-loop-k c).Else-is_outside-2, room (goal.at.offset_bounds-near-u-in-loop-k c).Else-is_outside-2)

pub bounds-near-u-in-loop-k : goal.bounds-near-u-in-loop-k
bounds-near-u-in-loop-k c = omega (arith, first (goal.at.bounds-near-u-in-loop-k c).Else-is_outside-2, room (goal.at.bounds-near-u-in-loop-k c).Else-is_outside-2)

pub offset_bounds-near-v : goal.offset_bounds-near-v
offset_bounds-near-v c = omega (arith, second (goal.at.offset_bounds-near-v c).Else-is_outside-2, room (goal.at.offset_bounds-near-v c).Else-is_outside-2)

pub bounds-near-v : goal.bounds-near-v
bounds-near-v c = rw length-set (omega (arith, second (goal.at.bounds-near-v c).Else-is_outside-2, room (goal.at.bounds-near-v c).Else-is_outside-2))

pub offset_bounds-near-v-in-loop-k : goal.offset_bounds-near-v-in-loop-k
offset_bounds-near-v-in-loop-k c = omega (arith, second (goal.at.offset_bounds-near-v-in-loop-k c).Else-is_outside-2, room (goal.at.offset_bounds-near-v-in-loop-k c).Else-is_outside-2)

pub bounds-near-v-in-loop-k : goal.bounds-near-v-in-loop-k
bounds-near-v-in-loop-k c = rw length-set (omega (arith, second (goal.at.bounds-near-v-in-loop-k c).Else-is_outside-2, room (goal.at.bounds-near-v-in-loop-k c).Else-is_outside-2))

pub loop-k-preserved : goal.loop-k-preserved
loop-k-preserved c =
    let l = c.loop-k in
    let J = rw (shifted_one most_atoms _ (overflow_shl-one (goal.at.loop-k-preserved c).Else-is_outside-2), shifted_one most_atoms _ (overflow_shl-two (goal.at.loop-k-preserved c).Else-is_outside-2)) at c.reached_by-reached.ensures in
    (omega arith, rw (add-one l.k, shifted_one most_atoms _ (overflow_shl-two (goal.at.loop-k-preserved c).Else-is_outside-2), shifted_one most_atoms _ (overflow_shl-one (goal.at.loop-k-preserved c).Else-is_outside-2)) (sketching_next _ _ _ _ _ l.invariant.1 (omega arith) (first (goal.at.loop-k-preserved c).Else-is_outside-2) (second (goal.at.loop-k-preserved c).Else-is_outside-2) _ J))

pub shape_of-near : goal.shape_of-near
shape_of-near c = omega (arith, c.loop-k.invariant.1.draws.size, ap length c.requires.1)

pub returns : goal.returns
returns c =
    let S = c.loop-k.invariant.1 in
    record { shown = λ e. sketching_shows _ _ _ _ _ S (omega arith) (omega arith); walked = λ e. S.walked; refuses = λ e. absurd (true≢false e) }

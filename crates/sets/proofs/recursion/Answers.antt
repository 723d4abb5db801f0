use native.Mathlib.Omega.{arith}
use Rattle.sets.proofs.Trees.{listed}
use Rattle.sets.proofs.Running.{running_start, in_places, p_places, store_bonds, store_atoms, key_enough, some_left, running_merged, more_atoms, running_next, root-places, atoms_fit, answered}
use Rattle.sets.proofs.recursion.Goals as goal

pub keyed-keys-requires : goal.keyed-keys-requires
keyed-keys-requires c = listed c.requires

pub loop-left-init : goal.loop-left-init
loop-left-init c = running_start c.requires c.keyed-keys.ensures

pub bounds-keys-a : goal.bounds-keys-a
bounds-keys-a c = omega (arith, in_places c.requires c.loop-left.invariant)

pub offset_bounds-keys-a : goal.offset_bounds-keys-a
offset_bounds-keys-a c = omega (arith, in_places c.requires c.loop-left.invariant)

pub merge-requires : goal.merge-requires
merge-requires c = store_bonds c.requires c.loop-left.invariant c.if-key-eq1.true

pub merge-requires-then-key-eq1 : goal.merge-requires-then-key-eq1
merge-requires-then-key-eq1 c = store_atoms c.requires c.loop-left.invariant c.if-key-eq1.true

pub bounds-keys-p : goal.bounds-keys-p
bounds-keys-p c = omega (arith, p_places c.requires c.loop-left.invariant c.if-key-eq1.true)

pub offset_bounds-keys-p : goal.offset_bounds-keys-p
offset_bounds-keys-p c = omega (arith, p_places c.requires c.loop-left.invariant c.if-key-eq1.true)

pub overflow_cast-keys : goal.overflow_cast-keys
overflow_cast-keys c = omega (arith, in_places c.requires c.loop-left.invariant)

pub overflow_add-keys : goal.overflow_add-keys
overflow_add-keys c = omega (arith, in_places c.requires c.loop-left.invariant)

pub overflow_sub-keys : goal.overflow_sub-keys
overflow_sub-keys c = key_enough c.requires c.loop-left.invariant c.if-key-eq1.true

pub bounds-keys-p-then-key-eq1 : goal.bounds-keys-p-then-key-eq1
bounds-keys-p-then-key-eq1 c = omega (arith, p_places c.requires c.loop-left.invariant c.if-key-eq1.true)

pub offset_bounds-keys-p-then-key-eq1 : goal.offset_bounds-keys-p-then-key-eq1
offset_bounds-keys-p-then-key-eq1 c = omega (arith, p_places c.requires c.loop-left.invariant c.if-key-eq1.true)

pub bounds-keys-a-then-key-eq1 : goal.bounds-keys-a-then-key-eq1
bounds-keys-a-then-key-eq1 c = omega (arith, in_places c.requires c.loop-left.invariant)

pub offset_bounds-keys-a-then-key-eq1 : goal.offset_bounds-keys-a-then-key-eq1
offset_bounds-keys-a-then-key-eq1 c = omega (arith, in_places c.requires c.loop-left.invariant)

pub overflow_sub-left : goal.overflow_sub-left
overflow_sub-left c = some_left c.requires c.loop-left.invariant c.if-key-eq1.true

pub loop-left-preserved-then-key-eq1 : goal.loop-left-preserved-then-key-eq1
loop-left-preserved-then-key-eq1 c = running_merged c.requires c.loop-left.invariant c.if-key-eq1.true c.merge.ensures c.merge-then-key-eq1.ensures

pub loop-left-smaller : goal.loop-left-smaller
loop-left-smaller c = omega (arith, more_atoms c.requires c.loop-left.invariant c.if-key-eq1.false c.loop-left-test.true)

pub loop-left-preserved : goal.loop-left-preserved
loop-left-preserved c = running_next c.requires c.loop-left.invariant c.if-key-eq1.false c.loop-left-test.true

pub offset_bounds-all-root : goal.offset_bounds-all-root
offset_bounds-all-root c = omega (arith, root-places c.requires c.loop-left.invariant)

pub bounds-all-root : goal.bounds-all-root
bounds-all-root c = omega (arith, root-places c.requires c.loop-left.invariant)

pub offset_bounds-omitted-root : goal.offset_bounds-omitted-root
offset_bounds-omitted-root c = omega (arith, root-places c.requires c.loop-left.invariant)

pub bounds-omitted-root : goal.bounds-omitted-root
bounds-omitted-root c = omega (arith, root-places c.requires c.loop-left.invariant)

pub offset_bounds-chosen-root : goal.offset_bounds-chosen-root
offset_bounds-chosen-root c = omega (arith, root-places c.requires c.loop-left.invariant)

pub bounds-chosen-root : goal.bounds-chosen-root
bounds-chosen-root c = omega (arith, root-places c.requires c.loop-left.invariant)

pub overflow_add-result : goal.overflow_add-result
overflow_add-result c = omega (arith, atoms_fit c.requires c.loop-left.invariant c.loop-left-test.false)

pub returns : goal.returns
returns c = answered c.requires c.loop-left.invariant c.loop-left-test.false

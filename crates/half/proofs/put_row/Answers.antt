use Prim.Native.Nat.{◌<◌}
use mathlib.Core.Bool.{false}
use mathlib.Core.Path.{◌≡◌, refl, sym, ◌∙◌}
use native.Mathlib.Omega.{arith}
use Rattle.reply.specs.Read.{is_outside}
use Rattle.half.specs.Half.{most_atoms}
use Rattle.half.proofs.Lines.{atom, along_place, store_first, store_place, store_next, store_last, store_out, store_short}
use Rattle.half.proofs.put_row.Goals as goal
use Rattle.half.proofs.put_row.Goals.{Else-is_outside}

pub is_outside-requires : goal.is_outside-requires
is_outside-requires c = tt

pub returns-then-is_outside : goal.returns-then-is_outside
returns-then-is_outside c = store_out _ _ _ _ (sym c.is_outside.ensures ∙ c.if-is_outside.true)

inner : (c : Else-is_outside) → is_outside most_atoms c.args.i ≡ false
inner c = sym c.is_outside.ensures ∙ c.if-is_outside.false

pub returns-then-half-lt-PAIRS : goal.returns-then-half-lt-PAIRS
returns-then-half-lt-PAIRS c = store_short _ _ _ _ (inner (goal.at.returns-then-half-lt-PAIRS c).Else-is_outside) c.if-half-lt-PAIRS.true

pub within-m-requires : goal.within-m-requires
within-m-requires c = tt

pub start-p-requires : goal.start-p-requires
start-p-requires c = atom _ (inner (goal.at.start-p-requires c).Else-is_outside)

pub loop-j-init : goal.loop-j-init
loop-j-init c =
    let (l, h) = atom _ (inner (goal.at.loop-j-init c).Else-is_outside) in
    (store_first _ _ _ _ _ c.within-m.ensures.1 l h c.start-p.ensures.0, inner (goal.at.loop-j-init c).Else-is_outside, c.if-half-lt-PAIRS.false, c.within-m.ensures.0)

pub bounds-half-p : goal.bounds-half-p
bounds-half-p c = let v = c.loop-j.invariant in store_place v.0 c.loop-j-test.true v.2

pub overflow_add-p : goal.overflow_add-p
overflow_add-p c =
    let v = c.loop-j.invariant in
    let l : c.loop-j.j < most_atoms = omega (arith, c.loop-j-test.true, v.0.few) in
    omega (arith, along_place _ _ _ v.0.first v.0.low l refl, v.0.here)

pub loop-j-preserved : goal.loop-j-preserved
loop-j-preserved c =
    let v = c.loop-j.invariant in
    (store_next v.0 c.loop-j-test.true, v.1, v.2, v.3)

pub shape_of-half : goal.shape_of-half
shape_of-half c = c.loop-j.invariant.0.size

pub returns : goal.returns
returns c =
    let v = c.loop-j.invariant in
    store_last v.0 _ v.3 c.loop-j-test.false v.1 v.2

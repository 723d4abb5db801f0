use Prim.Native.Nat.{ℕ, ◌+◌, ◌-◌, ◌≤◌}
use mathlib.Core.Path.{◌≡◌, refl, sym, ◌∙◌, ap}
use mathlib.Core.List.{[], ◌∷◌}
use native.Mathlib.Omega.{arith}
use lib.ListN.{length}
use lib.Seq.{length-sets}
use Rattle.whole.specs.Laws.{numbers_step, numbers_none}
use Rattle.whole.proofs.put_block.Goals as goal

pub loop-i-init : goal.loop-i-init
loop-i-init c = let a = c.args in let e : a.at + 0 ≡ a.at = omega arith in (omega arith, refl, rw e)

pub bounds-bonds-i : goal.bounds-bonds-i
bounds-bonds-i c = omega (arith, c.loop-i-test.true)

pub bounds-bonds-i-in-loop-i : goal.bounds-bonds-i-in-loop-i
bounds-bonds-i-in-loop-i c = omega (arith, c.loop-i-test.true)

pub put_bond-requires : goal.put_bond-requires
put_bond-requires c =
    let p = c.requires in
    (omega (arith, c.loop-i.invariant.0, p), omega (arith, c.wide.ensures, p), omega (arith, c.wide-in-loop-i.ensures, p))

pub loop-i-preserved : goal.loop-i-preserved
loop-i-preserved c =
    let l = c.loop-i in
    let a = c.args in
    let h : 2 ≤ length a.bonds.now - l.i = omega (arith, c.loop-i-test.true) in
    let e = c.put_bond.ensures in
    let one = c.wide in
    let two = c.wide-in-loop-i in (
      omega arith,
      ap length e ∙ length-sets l.out (a.at + l.i) ((a.start + one.result) ∷ ((a.start + two.result) ∷ [])) ∙ l.invariant.1,
      numbers_step l.out c.put_bond.new.out a.at a.start a.bonds.now l.i (a.start + one.result) (a.start + two.result) h
          (ap (λ (n : ℕ). a.start + n) one.ensures.0) (ap (λ (n : ℕ). a.start + n) two.ensures.0) e
          ∙ l.invariant.2,
    )

pub shape_of-out : goal.shape_of-out
shape_of-out c = c.loop-i.invariant.1

pub returns : goal.returns
returns c =
    let l = c.loop-i in
    let a = c.args in
    sym (numbers_none l.out (a.at + l.i) a.start a.bonds.now l.i (omega (arith, c.loop-i-test.false))) ∙ l.invariant.2

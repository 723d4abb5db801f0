use Prim.Native.Nat.{◌-◌}
use native.Mathlib.Omega.{arith}
use Rattle.block.proofs.Reading.{degree_next, degree_over}
use Rattle.block.proofs.bonding.degree_of.Goals as goal

pub loop-i-init : goal.loop-i-init
loop-i-init c = (omega arith, omega arith, omega arith)

pub loop-i-preserved : goal.loop-i-preserved
loop-i-preserved c =
    let a = c.args in
    (omega (arith, c.one_if.ensures.0, c.one_if-in-loop-i.ensures.0, degree_next a.bonds.now c.loop-i.i a.a (omega arith)), omega arith, omega arith)

pub returns : goal.returns
returns c =
    let a = c.args in
    (omega (arith, degree_over a.bonds.now c.loop-i.i a.a (omega arith)), omega arith)

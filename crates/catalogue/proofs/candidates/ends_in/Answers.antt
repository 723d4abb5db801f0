use Prim.Native.Nat.{◌*◌, ◌/◌}
use mathlib.Core.Path.{◌≡◌, ◌∙◌}
use native.Mathlib.Omega.{arith}
use lib.ListN.{length}
use Rattle.catalogue.proofs.Turns.{ends_in, ends_next, ends_over, ends_degree}
use Rattle.catalogue.proofs.candidates.ends_in.Goals as goal

pub loop-i-init : goal.loop-i-init
loop-i-init c = (omega arith, omega arith, omega arith)

pub loop-i-preserved : goal.loop-i-preserved
loop-i-preserved c = let a = c.args in
    (omega (arith, c.one_if-total.ensures.0, ends_next a.bonds.now a.a c.loop-i.i (omega arith)), omega arith, omega arith)

pub returns : goal.returns
returns c = let a = c.args in
    let n = length a.bonds.now in
    let none = ends_over a.bonds.now a.a c.loop-i.i (omega arith) in
    let even : n ≡ 2 * (n / 2) = omega (arith, c.requires.1) in
    let all : c.loop-i.total ≡ ends_in a.bonds.now a.a = omega (arith, none, c.loop-i.invariant.0) in
    all ∙ ends_degree a.bonds.now a.a (n / 2) even

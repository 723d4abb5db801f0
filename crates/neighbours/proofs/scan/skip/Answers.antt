use Prim.Native.Nat.{◌-◌}
use mathlib.Core.Path.{refl, sym, ◌∙◌}
use native.Mathlib.Omega.{arith}
use Rattle.adjacency.specs.Scanning.{numbers_skip}
use Rattle.neighbours.proofs.scan.skip.Goals as goal

pub loop-i-init : goal.loop-i-init
loop-i-init c = (refl, omega arith, c.requires)

pub returns-then-is_digit : goal.returns-then-is_digit
returns-then-is_digit c =
    let l = c.loop-i in
    record { same = l.invariant.0; later = l.invariant.1; within = l.invariant.2; digit = λ h. sym c.is_digit.ensures ∙ c.if-is_digit.true }

pub loop-i-preserved : goal.loop-i-preserved
loop-i-preserved c =
    let l = c.loop-i in
    let t = c.args.text.now in
    (l.invariant.0 ∙ numbers_skip t l.i (omega arith) (sym c.is_digit.ensures ∙ c.if-is_digit.false), omega arith, omega arith)

pub returns : goal.returns
returns c =
    let l = c.loop-i in
    record { same = l.invariant.0; later = l.invariant.1; within = l.invariant.2; digit = λ h. absurd (omega arith) }

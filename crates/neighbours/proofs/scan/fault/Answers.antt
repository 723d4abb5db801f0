use Prim.Native.Nat.{◌-◌}
use mathlib.Core.Path.{sym, ◌∙◌}
use native.Mathlib.Omega.{arith}
use borrow.Author.Tests.{not-true, not-false}
use Rattle.adjacency.specs.Scanning.{looking_start, looking_bad, looking_large, looking_next, looking_end}
use Rattle.neighbours.proofs.scan.fault.Goals as goal

pub loop-i-init : goal.loop-i-init
loop-i-init c = looking_start _

pub returns-then-not-is_good : goal.returns-then-not-is_good
returns-then-not-is_good c = looking_bad c.loop-i.invariant (omega arith) (sym c.is_good.ensures ∙ not-true c.is_good.result c.if-not-is_good.true-raw)

pub returns-then-value-gt-MOST : goal.returns-then-value-gt-MOST
returns-then-value-gt-MOST c = looking_large c.loop-i.invariant (omega arith) (omega (arith, c.value_after-value.ensures, c.if-value-gt-MOST.true))

pub loop-i-preserved : goal.loop-i-preserved
loop-i-preserved c =
    let good = sym c.is_good.ensures ∙ not-false c.is_good.result c.if-not-is_good.false-raw in
    let next = looking_next c.loop-i.invariant (omega arith) good (omega (arith, c.value_after-value.ensures, c.if-value-gt-MOST.false)) in
    rw (c.start_after-start.ensures, c.value_after-value.ensures) next

pub returns : goal.returns
returns c = looking_end c.loop-i.invariant (omega arith)

use Prim.Native.Nat.{◌-◌}
use mathlib.Core.Path.{sym, ◌∙◌}
use native.Mathlib.Omega.{arith}
use borrow.Author.Tests.{not-true, not-false}
use Rattle.adjacency.specs.Scanning.{numbers_first, run_past, run_more, run_stop}
use Rattle.neighbours.proofs.scan.digits.Goals as goal

pub loop-next-init : goal.loop-next-init
loop-next-init c =
    let a = c.args in
    let p = c.requires in
    (numbers_first a.text.now a.at p.0 p.1 ∙ rw c.grown-value.ensures, omega arith, omega arith, omega (arith, c.grown-value.ensures))

pub returns-then-not-is_digit : goal.returns-then-not-is_digit
returns-then-not-is_digit c =
    let l = c.loop-next in
    let t = c.args.text.now in
    record { same = l.invariant.0 ∙ run_stop t l.next (omega arith) _ (sym c.is_digit.ensures ∙ not-true c.is_digit.result c.if-not-is_digit.true-raw); later = l.invariant.1; within = l.invariant.2 }

pub loop-next-preserved : goal.loop-next-preserved
loop-next-preserved c =
    let l = c.loop-next in
    let t = c.args.text.now in
    (l.invariant.0 ∙ run_more t l.next (omega arith) _ (sym c.is_digit.ensures ∙ not-false c.is_digit.result c.if-not-is_digit.false-raw) ∙ rw c.grown-value-in-loop-next.ensures, omega arith, omega arith, omega (arith, c.grown-value-in-loop-next.ensures))

pub returns : goal.returns
returns c =
    let l = c.loop-next in
    let t = c.args.text.now in
    record { same = l.invariant.0 ∙ run_past t l.next (omega arith) _; later = l.invariant.1; within = l.invariant.2 }

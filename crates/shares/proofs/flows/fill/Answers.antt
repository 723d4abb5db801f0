use Prim.Native.Nat.{◌≤◌}
use mathlib.Core.Path.{refl}
use native.Mathlib.Omega.{arith}
use borrow.Author.Rules.{rules}
use Rattle.shares.specs.Reply.{most_denominator}
use Rattle.shares.proofs.Tallying.{start_below, start_of, stops_early, starts_done}
use Rattle.shares.proofs.Starting.{whole_at, sofar_all}
use Rattle.shares.proofs.flows.fill.Goals as goal

pub loop-i-init : goal.loop-i-init
loop-i-init c = let p = c.requires in (omega arith, refl, omega (arith, p.0.is), λ l. p.2)

pub shape_of-out-then-d-gt-MOST : goal.shape_of-out-then-d-gt-MOST
shape_of-out-then-d-gt-MOST c = c.loop-i.invariant.1

pub returns-then-d-gt-MOST : goal.returns-then-d-gt-MOST
returns-then-d-gt-MOST c =
    let l = c.loop-i in
    (stops_early c.requires.0.molecule l.d l.i l.invariant.2 (omega arith), λ h. absurd (omega arith))

pub by_level-levels-requires : goal.by_level-levels-requires
by_level-levels-requires c =
    let p = c.requires in
    (p.1.small, start_below p.1 c.loop-i.i c.loop-i-test.true _ c.row-row.ensures)

pub bounds-far-i : goal.bounds-far-i
bounds-far-i c = let p = c.requires in omega (arith, p.1.small)

pub wide_byte-top-requires : goal.wide_byte-top-requires
wide_byte-top-requires c = tt

pub add_start-next-requires : goal.add_start-next-requires
add_start-next-requires c =
    let l = c.loop-i in
    let p = c.requires in
    let low : l.d ≤ most_denominator = omega (arith, c.if-d-gt-MOST.false) in
    (start_of p.1 l.i c.loop-i-test.true _ c.row-row.ensures c.wide_byte-top.ensures.0 c.by_level-levels.ensures, whole_at p.0 l.i l.d l.invariant.2 low, l.invariant.3 low)

pub loop-i-preserved : goal.loop-i-preserved
loop-i-preserved c =
    let s = c.add_start-next.ensures in
    (omega arith, search rules, s.0, s.1)

pub shape_of-out : goal.shape_of-out
shape_of-out c = c.loop-i.invariant.1

pub returns : goal.returns
returns c =
    let p = c.requires in
    let l = c.loop-i in
    (starts_done p.0.molecule l.d l.i (omega arith) l.invariant.2, λ h. sofar_all (whole_at p.0 l.i l.d l.invariant.2 h) (omega arith) (l.invariant.3 h))

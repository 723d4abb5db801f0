use Prim.Native.Nat.{◌-◌}
use mathlib.Core.Path.{refl, sym, ap, ◌∙◌}
use Rattle.text.specs.Laws.{said_next, next_later, next_within}
use Rattle.sdfile.specs.Sdf.{is_header, header_from}
use Rattle.sdfile.specs.Laws.{from_past, from_here, from_later}
use native.Mathlib.Omega.{arith}
use Rattle.sdfile.proofs.header_from.Goals as goal

pub loop-at-init : goal.loop-at-init
loop-at-init c = refl

pub returns-then-is_header : goal.returns-then-is_header
returns-then-is_header c =
    let l = c.loop-at in
    let a = c.args in
    sym (l.invariant ∙ from_here (is_header a.name.now) a.d.now l.at (omega arith) (sym c.is_header.ensures ∙ c.if-is_header.true))

pub loop-at-smaller : goal.loop-at-smaller
loop-at-smaller c =
    let l = c.loop-at in
    let a = c.args in
    omega (arith, said_next a.d.now l.at c.line_at-seen.ensures, next_later a.d.now l.at (omega arith), next_within a.d.now l.at)

pub loop-at-preserved : goal.loop-at-preserved
loop-at-preserved c =
    let l = c.loop-at in
    let a = c.args in
    l.invariant
    ∙ from_later (is_header a.name.now) a.d.now l.at (omega arith) (sym c.is_header.ensures ∙ c.if-is_header.false)
    ∙ ap (header_from a.d.now a.name.now) (sym (said_next a.d.now l.at c.line_at-seen.ensures))

pub returns : goal.returns
returns c =
    let l = c.loop-at in
    let a = c.args in
    sym (l.invariant ∙ from_past (is_header a.name.now) a.d.now l.at (omega arith))

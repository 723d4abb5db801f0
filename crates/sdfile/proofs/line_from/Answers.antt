use Prim.Native.Nat.{◌-◌}
use mathlib.Core.Path.{refl, sym, ap, ◌∙◌}
use Rattle.text.specs.Text.{starts_with}
use Rattle.text.specs.Laws.{said_next, next_later, next_within}
use Rattle.sdfile.specs.Sdf.{line_from}
use Rattle.sdfile.specs.Laws.{from_past, from_here, from_later}
use Rattle.sdfile.proofs.White.{part_is}
use native.Mathlib.Omega.{arith}
use Rattle.sdfile.proofs.line_from.Goals as goal

pub loop-at-init : goal.loop-at-init
loop-at-init c = refl

pub returns-then-starts_with : goal.returns-then-starts_with
returns-then-starts_with c =
    let l = c.loop-at in
    let a = c.args in
    sym (l.invariant ∙ from_here (starts_with a.word.now) a.d.now l.at (omega arith) (sym (c.starts_with.ensures ∙ ap (starts_with a.word.now) (part_is a.d.now l.at)) ∙ c.if-starts_with.true))

pub loop-at-smaller : goal.loop-at-smaller
loop-at-smaller c =
    let l = c.loop-at in
    let a = c.args in
    omega (arith, said_next a.d.now l.at c.line_at-seen.ensures, next_later a.d.now l.at (omega arith), next_within a.d.now l.at)

pub loop-at-preserved : goal.loop-at-preserved
loop-at-preserved c =
    let l = c.loop-at in
    let a = c.args in
    l.invariant
    ∙ from_later (starts_with a.word.now) a.d.now l.at (omega arith) (sym (c.starts_with.ensures ∙ ap (starts_with a.word.now) (part_is a.d.now l.at)) ∙ c.if-starts_with.false)
    ∙ ap (line_from (starts_with a.word.now) a.d.now) (sym (said_next a.d.now l.at c.line_at-seen.ensures))

pub returns : goal.returns
returns c =
    let l = c.loop-at in
    let a = c.args in
    sym (l.invariant ∙ from_past (starts_with a.word.now) a.d.now l.at (omega arith))

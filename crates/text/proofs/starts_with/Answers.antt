use Prim.Native.Nat.{◌-◌}
use mathlib.Core.Path.{refl, sym, ◌∙◌}
use Rattle.text.proofs.Words.{word_done, word_short, word_other, word_more}
use native.Mathlib.Omega.{arith}
use Rattle.text.proofs.starts_with.Goals as goal

pub loop-i-init : goal.loop-i-init
loop-i-init c = refl

pub returns-then-d-i : goal.returns-then-d-i
returns-then-d-i c =
    let l = c.loop-i in
    let a = c.args in
    sym (l.invariant ∙ word_short a.word.now a.d.now l.i (omega arith) c.if-d-i.true)

pub returns-then-d-i-2 : goal.returns-then-d-i-2
returns-then-d-i-2 c =
    let l = c.loop-i in
    let a = c.args in
    sym (l.invariant ∙ word_other a.word.now a.d.now l.i (omega arith) (omega arith) c.if-d-i-2.true)

pub loop-i-preserved : goal.loop-i-preserved
loop-i-preserved c =
    let l = c.loop-i in
    let a = c.args in
    l.invariant ∙ word_more a.word.now a.d.now l.i (omega arith) (omega arith) c.if-d-i-2.false

pub returns : goal.returns
returns c =
    let l = c.loop-i in
    let a = c.args in
    sym (l.invariant ∙ word_done a.word.now a.d.now l.i (omega arith))

use Prim.Native.Nat.{ℕ, ◌-◌}
use mathlib.Core.Bool.{true}
use mathlib.Core.Path.{◌≡◌, refl, sym, ap, ◌∙◌}
use mathlib.Core.List.{List}
use lib.ListN.{length, take, drop, length-drop}
use lib.Seq.{take_all}
use Rattle.text.specs.Text.{starts_with, line_starts}
use Rattle.text.specs.Laws.{said_next, next_later, next_within}
use Rattle.text.proofs.Words.{starts_past, starts_here, starts_later}
use native.Mathlib.Omega.{arith}
use Rattle.text.proofs.line_starts.Goals as goal

part-is : (d : List ℕ) (at : ℕ) → take (length d - at) (drop at d) ≡ drop at d
part-is d at = take_all (length d - at) (drop at d) (omega (arith, length-drop at d))

pub loop-at-init : goal.loop-at-init
loop-at-init c = refl

pub returns-then-starts_with : goal.returns-then-starts_with
returns-then-starts_with c =
    let l = c.loop-at in
    let a = c.args in
    sym (l.invariant ∙ starts_here a.word.now a.d.now l.at (omega arith) (sym (c.starts_with.ensures ∙ ap (starts_with a.word.now) (part-is a.d.now l.at)) ∙ c.if-starts_with.true))

pub loop-at-smaller : goal.loop-at-smaller
loop-at-smaller c =
    let l = c.loop-at in
    let a = c.args in
    omega (arith, said_next a.d.now l.at c.line_at-seen.ensures, next_later a.d.now l.at (omega arith), next_within a.d.now l.at)

pub loop-at-preserved : goal.loop-at-preserved
loop-at-preserved c =
    let l = c.loop-at in
    let a = c.args in
    l.invariant ∙ starts_later a.word.now a.d.now l.at (omega arith) (sym (c.starts_with.ensures ∙ ap (starts_with a.word.now) (part-is a.d.now l.at)) ∙ c.if-starts_with.false) ∙ ap (λ n. line_starts a.word.now true (drop n a.d.now)) (sym (said_next a.d.now l.at c.line_at-seen.ensures))

pub returns : goal.returns
returns c =
    let l = c.loop-at in
    let a = c.args in
    sym (l.invariant ∙ starts_past a.word.now a.d.now l.at (omega arith))

use Prim.Native.Nat.{ℕ}
use mathlib.Core.Path.{◌≡◌, refl, sym, ◌∙◌, ap}
use native.Mathlib.Omega.{arith}
use Rattle.matched.specs.Matched.{partner}
use Rattle.matched.specs.Work.{is_taken}
use Rattle.matched.specs.Laws.{taken_hit, taken_on, taken_none}
use Rattle.matched.proofs.is_taken.Goals as goal

pub loop-u-init : goal.loop-u-init
loop-u-init c = (omega arith, refl)

pub returns-then-partner-x : goal.returns-then-partner-x
returns-then-partner-x c =
    let a = c.args in
    let l = c.loop-u in
    taken_hit a.to.now a.x l.u (omega (arith, c.loop-u-test.true)) (omega (arith, c.partner.ensures, c.if-partner-x.true)) ∙ l.invariant.1

pub loop-u-preserved : goal.loop-u-preserved
loop-u-preserved c =
    let a = c.args in
    let l = c.loop-u in
    (omega (arith, l.invariant.0), taken_on a.to.now a.x l.u (omega (arith, c.loop-u-test.true)) (λ e. omega (arith, c.partner.ensures, c.if-partner-x.false, e)) ∙ l.invariant.1)

pub returns : goal.returns
returns c =
    let a = c.args in
    let l = c.loop-u in
    let e : l.u ≡ 0 = omega (arith, c.loop-u-test.false) in
    taken_none a.to.now a.x ∙ ap (λ (n : ℕ). is_taken a.to.now n a.x) (sym e) ∙ l.invariant.1

use Prim.Native.Nat.{ℕ, ◌+◌, ◌-◌, ◌≤◌}
use mathlib.Core.Path.{◌≡◌, sym, ◌∙◌, ap}
use native.Mathlib.Omega.{arith}
use Rattle.matched.specs.Matched.{is_lost, first_atom}
use Rattle.matched.specs.Laws.{atom_hit, atom_on, atom_over}
use Rattle.matched.proofs.first_lost.Goals as goal

pub loop-v-init : goal.loop-v-init
loop-v-init c = let a = c.args in let e : a.n + 1 - 1 ≡ a.n = omega arith in (omega arith, omega arith, ap (λ (m : ℕ). first_atom m 1 (is_lost a.to.now)) e)

pub is_lost-requires : goal.is_lost-requires
is_lost-requires c = c.loop-v.invariant.0

pub returns-then-is_lost : goal.returns-then-is_lost
returns-then-is_lost c =
    let a = c.args in
    let l = c.loop-v in
    atom_hit a.n l.v (is_lost a.to.now) (omega (arith, c.loop-v-test.true)) (sym c.is_lost.ensures ∙ c.if-is_lost.true) ∙ l.invariant.2

pub loop-v-preserved : goal.loop-v-preserved
loop-v-preserved c =
    let a = c.args in
    let l = c.loop-v in
    let h : l.v ≤ a.n = omega (arith, c.loop-v-test.true) in
    (omega arith, omega arith, atom_on a.n l.v (is_lost a.to.now) h (sym c.is_lost.ensures ∙ c.if-is_lost.false) ∙ l.invariant.2)

pub returns : goal.returns
returns c =
    let a = c.args in
    let l = c.loop-v in
    atom_over a.n l.v (is_lost a.to.now) (omega (arith, c.loop-v-test.false)) ∙ l.invariant.2

pub returns-else-is_lost : goal.returns-else-is_lost
returns-else-is_lost c =
    let a = c.args in
    let l = c.loop-v in
    let e : l.v ≡ a.n = omega arith in
    atom_over a.n (l.v + 1) (is_lost a.to.now) (omega (arith, e)) ∙ atom_on a.n l.v (is_lost a.to.now) c.loop-v-test.true (sym c.is_lost.ensures ∙ c.if-is_lost.false) ∙ l.invariant.2

use Prim.Native.Nat.{ℕ, ◌+◌, ◌-◌}
use mathlib.Core.Path.{◌≡◌, sym, ◌∙◌, ap}
use lib.ListN.{length}
use native.Mathlib.Omega.{arith}
use Rattle.claiming.specs.Asked.{asks, asks_from}
use Rattle.claiming.specs.Alike.{asks_end, asks_here, asks_later, asks_all}
use Rattle.claiming.proofs.is_asked.Goals as goal
use Rattle.claiming.proofs.is_asked.Goals.{After-size_at-size}

pub loop-at-init : goal.loop-at-init
loop-at-init c = (asks_all _ _, omega arith)

pub returns-then-one-field : goal.returns-then-one-field
returns-then-one-field c =
    let l = c.loop-at in
    let a = c.args in
    sym (l.invariant.0 ∙ asks_here a.field a.claims.now l.at c.loop-at-test.true (sym (c.wide-one.ensures.0 ∙ c.byte_at.ensures) ∙ c.if-one-field.true))

-- the claim at the loop's place is of another field
onward : (c : After-size_at-size) → let a = c.args in
    asks a.field a.claims.now ≡ asks_from (length a.claims.now) a.field a.claims.now (c.loop-at.at + c.size_at-size.result)
onward c =
    let a = c.args in
    let at = c.loop-at.at in
    c.loop-at.invariant.0
    ∙ asks_later a.field a.claims.now at c.loop-at-test.true (λ e. c.if-one-field.false (c.wide-one.ensures.0 ∙ c.byte_at.ensures ∙ e))
    ∙ ap (λ (n : ℕ). asks_from (length a.claims.now) a.field a.claims.now (at + n)) (sym c.size_at-size.ensures.0)

pub returns-then-claims-at : goal.returns-then-claims-at
returns-then-claims-at c = let a = c.args in sym (onward (goal.at.returns-then-claims-at c).After-size_at-size ∙ asks_end a.field a.claims.now _ _ (omega (arith, c.if-claims-at.true)))

pub loop-at-preserved : goal.loop-at-preserved
loop-at-preserved c = (onward (goal.at.loop-at-preserved c).After-size_at-size, omega (arith, c.if-claims-at.false))

pub returns : goal.returns
returns c = let l = c.loop-at in let a = c.args in sym (l.invariant.0 ∙ asks_end a.field a.claims.now _ l.at c.loop-at-test.false)

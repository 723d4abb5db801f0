use Prim.Native.Nat.{◌+◌, ◌-◌, ◌≤◌}
use mathlib.Core.Bool.{false}
use mathlib.Core.Path.{◌≡◌, refl, sym, ◌∙◌, ap}
use lib.ListN.{length}
use native.Mathlib.Omega.{arith}
use Rattle.std.proofs.lemmas.Result.{err_from_is_err_and}
use Rattle.claiming.specs.Claims.{size_at, claim_reply}
use Rattle.claiming.specs.Going.{gone_end}
use Rattle.claiming.proofs.Steps.{turn_refused, turn_fits, turn_more}
use Rattle.claiming.proofs.through.Goals as goal
use Rattle.claiming.proofs.through.Goals.{After-size_at-at}
use Rattle.reply.specs.Read.{as_result}
use Rattle.std.specs.Prelude.{Ok}

pub returns-in_err-c : goal.returns-in_err-c
returns-in_err-c c =
    let l = c.loop-at in
    let p = err_from_is_err_and c.from_residual.result c.from_residual.ensures.1 in
    rw (p.1, p.2) (turn_refused _ _ _ l.at l.k l.wrong l.sets c.loop-at-test.true (sym c.in_err-c.was ∙ c.claim_at.ensures) ∙ ap as_result (sym l.invariant.0))

told : (c : After-size_at-at) → let a = c.args in
    Ok c.in_ok-c.c ≡ as_result (claim_reply (length a.own.now) a.claims.now c.loop-at.at (c.loop-at.k + 1))
told c = sym c.in_ok-c.was ∙ c.claim_at.ensures

fits : (c : After-size_at-at) → let a = c.args in
    c.loop-at.at + size_at a.claims.now c.loop-at.at ≤ length a.claims.now
fits c =
    let a = c.args in
    let l = c.loop-at in
    turn_fits a.own.now a.above a.claims.now l.at l.k l.wrong l.sets c.loop-at-test.true _ (told c)

pub loop-at-preserved : goal.loop-at-preserved
loop-at-preserved c =
    let l = c.loop-at in (
      l.invariant.0 ∙ turn_more _ _ _ l.at l.k l.wrong l.sets c.loop-at-test.true _ (told (goal.at.loop-at-preserved c).After-size_at-at) _ _ _ _ c.is_right-right.ensures c.first_of-next.ensures c.is_of_sets-more.ensures c.size_at-at.ensures.0,
      omega (arith, fits (goal.at.loop-at-preserved c).After-size_at-at, c.size_at-at.ensures),
      omega (arith, fits (goal.at.loop-at-preserved c).After-size_at-at, c.size_at-at.ensures),
    )

pub returns : goal.returns
returns c = let l = c.loop-at in ap as_result (sym (gone_end _ _ _ l.at l.k l.wrong l.sets c.loop-at-test.false) ∙ sym l.invariant.0)

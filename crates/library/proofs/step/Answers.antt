use Prim.Native.Nat.{ℕ, suc}
use mathlib.Core.Path.{◌≡◌, sym, ◌∙◌, ap}
use native.Mathlib.Numerals.{add-one}
use native.Mathlib.Omega.{arith}
use lib.ListN.{length}
use Rattle.std.specs.Prelude.{Ok, Err, Some}
use Rattle.std.proofs.lemmas.Result.{err_from_is_err_and}
use Rattle.catalogue.specs.Products.{Product, product_reply}
use Rattle.library.specs.Steps.{step_reply, step_out, said_step}
use Rattle.library.specs.Running.{step_long, step_short, step_product}
use Rattle.library.proofs.Stepping.{made_low, product_told}
use Rattle.library.proofs.step.Goals as goal
use Rattle.library.proofs.step.Goals.{After-product}

-- `library::step` meets its contract. Assumes nothing.
-- there is room, so the step is told what its product is
told : (c : After-product) → let a = c.args in step_reply a.sheet a.d.now a.position (length a.out.now) ≡ product_reply a.d.now a.position
told c = let a = c.args in step_product a.sheet a.d.now a.position (length a.out.now) c.if-d-gt-LONGEST.false (omega (arith, c.if-out-bytes_of.false, c.bytes_of.ensures))

pub returns-then-d-gt-LONGEST : goal.returns-then-d-gt-LONGEST
returns-then-d-gt-LONGEST c =
    let a = c.args in
    let e = step_long a.sheet a.d.now a.position (length a.out.now) c.if-d-gt-LONGEST.true in
    record { reply = ap Err c.at.ensures ∙ sym (ap (said_step (suc a.position)) e); bytes = sym (ap (step_out a.sheet _) e) }

pub returns-then-out-bytes_of : goal.returns-then-out-bytes_of
returns-then-out-bytes_of c =
    let a = c.args in
    let e = step_short a.sheet a.d.now a.position (length a.out.now) c.if-d-gt-LONGEST.false (omega (arith, c.if-out-bytes_of.true, c.bytes_of.ensures)) in
    record { reply = ap Err c.at-then-out-bytes_of.ensures ∙ sym (ap (said_step (suc a.position)) e); bytes = sym (ap (step_out a.sheet _) e) }

pub returns-in_err-told : goal.returns-in_err-told
returns-in_err-told c =
    let a = c.args in
    let p = err_from_is_err_and c.from_residual.result c.from_residual.ensures.1 in
    let e = told (goal.at.returns-in_err-told c).After-product ∙ sym (product_told _ _ (sym c.in_err-told.was ∙ c.product.ensures)) in
    record { reply = rw (p.1, p.2) (sym (ap (said_step (suc a.position)) e)); bytes = sym (ap (step_out a.sheet _) e) }

pub returns-in_default : goal.returns-in_default
returns-in_default c =
    let a = c.args in
    let e = told (goal.at.returns-in_default c).After-product ∙ sym (product_told _ _ (sym (c.in_ok-told.was ∙ ap Ok c.in_default.is) ∙ c.product.ensures)) in
    record { reply = sym (ap (said_step (suc a.position)) e); bytes = sym (ap (step_out a.sheet _) e) }

pub overflow_add-result : goal.overflow_add-result
overflow_add-result c =
    let a = c.args in
    omega (arith, made_low a.d.now a.position _ (sym (product_told _ _ (sym (c.in_ok-told.was ∙ ap Ok c.in-Some.is) ∙ c.product.ensures))))

pub returns : goal.returns
returns c =
    let a = c.args in
    let e = told (goal.at.returns c).After-product ∙ sym (product_told _ _ (sym (c.in_ok-told.was ∙ ap Ok c.in-Some.is) ∙ c.product.ensures)) in
    record { reply = ap (λ (p : ℕ). Ok (Some p)) (add-one a.position) ∙ sym (ap (said_step (suc a.position)) e); bytes = c.put_sheet.ensures ∙ sym (ap (step_out a.sheet _) e) }

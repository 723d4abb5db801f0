use mathlib.Core.Path.{sym, ◌∙◌, ap}
use native.Mathlib.Omega.{arith}
use Rattle.std.specs.Prelude.{Ok, Option}
use Rattle.block.specs.declared.Indices.{Indices}
use Rattle.reply.specs.Read.{Read}
use Rattle.catalogue.specs.Products.{Product}
use Rattle.library.specs.Running.{step_long, step_short, step_product}
use Rattle.library.proofs.Stepping.{product_told}
use Rattle.library_calls.specs.Libraries.{with_next, step_code}
use Rattle.library_calls.proofs.unlent_step.Goals as goal

-- `library_calls::unlent_step` meets its contract. Assumes nothing.
pub returns-then-deck-gt-LONGEST : goal.returns-then-deck-gt-LONGEST
returns-then-deck-gt-LONGEST c = let a = c.args in sym (ap (λ (x : Read Product). step_code (with_next 0 x)) (step_long a.sheet a.deck.now a.position a.room c.if-deck-gt-LONGEST.true))

pub returns-then-room-bytes_of : goal.returns-then-room-bytes_of
returns-then-room-bytes_of c = let a = c.args in sym (ap (λ (x : Read Product). step_code (with_next 0 x)) (step_short a.sheet a.deck.now a.position a.room c.if-deck-gt-LONGEST.false (omega (arith, c.if-room-bytes_of.true, c.bytes_of.ensures))))

pub returns-in-Err : goal.returns-in-Err
returns-in-Err c = let a = c.args in c.code_of.ensures ∙ sym (ap (λ (x : Read Product). step_code (with_next 0 x)) (step_product a.sheet a.deck.now a.position a.room c.if-deck-gt-LONGEST.false (omega (arith, c.if-room-bytes_of.false, c.bytes_of.ensures)) ∙ sym (product_told _ _ (sym c.in-Err.is ∙ c.product-answer.ensures))))

pub returns-in-Ok-None : goal.returns-in-Ok-None
returns-in-Ok-None c = let a = c.args in sym (ap (λ (x : Read Product). step_code (with_next 0 x)) (step_product a.sheet a.deck.now a.position a.room c.if-deck-gt-LONGEST.false (omega (arith, c.if-room-bytes_of.false, c.bytes_of.ensures)) ∙ sym (product_told _ _ (sym (c.in-Ok-None.is ∙ ap (λ (x : Option Indices). Ok x) (rw c.in-Ok-None.is at c.in-Ok-None.field-0-is)) ∙ c.product-answer.ensures))))

pub returns-in-Ok-Some : goal.returns-in-Ok-Some
returns-in-Ok-Some c = let a = c.args in sym (ap (λ (x : Read Product). step_code (with_next 0 x)) (step_product a.sheet a.deck.now a.position a.room c.if-deck-gt-LONGEST.false (omega (arith, c.if-room-bytes_of.false, c.bytes_of.ensures)) ∙ sym (product_told _ _ (sym (c.in-Ok-Some.is ∙ ap (λ (x : Option Indices). Ok x) (rw c.in-Ok-Some.is at c.in-Ok-Some.field-0-is)) ∙ c.product-answer.ensures))))

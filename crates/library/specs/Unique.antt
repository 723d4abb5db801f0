-- Laws. Each promise determines the reply and the buffer: two that satisfy it are equal. Assumes nothing.
use Rattle.std.specs.Prelude.{ℕ, suc, List, ◌≡◌, length, Result, Option}
use Rattle.reply.specs.Chain.{unique}
use Rattle.records.specs.declared.Sheet.{Sheet}
use Rattle.catalogue.specs.Products.{product_reply}
use Rattle.library.specs.Said.{said_product}
use Rattle.library.specs.Steps.{step_reply, step_out, said_step, run_of}
use Rattle.library.specs.Values.{values_reply, said_values, values_out}
use Rattle.reply.specs.declared.Refusal.{Refusal}
use Rattle.block.specs.declared.Indices.{Indices}

module _ (d : List ℕ) (position : ℕ) where
  pub unique-product : (r s : Result (Option Indices) Refusal) → r ≡ said_product (product_reply d position) → s ≡ said_product (product_reply d position) → r ≡ s
  unique-product r s = unique

  module _ (sheet : Sheet) (out : List ℕ) where
    pub unique-step : (r s : Result (Option ℕ) Refusal) → let x = step_reply sheet d position (length out) in r ≡ said_step (suc position) x → s ≡ said_step (suc position) x → r ≡ s
    unique-step r s = unique

    pub unique-step_bytes : (a b : List ℕ) → let x = step_reply sheet d position (length out) in a ≡ step_out sheet out x → b ≡ step_out sheet out x → a ≡ b
    unique-step_bytes a b = unique

    pub unique-run : (r s : Result (Option ℕ) Refusal) → let x = step_reply sheet d position (length out) in let next = (run_of sheet d position out).next in r ≡ said_step next x → s ≡ said_step next x → r ≡ s
    unique-run r s = unique

    pub unique-run_bytes : (a b : List ℕ) → a ≡ (run_of sheet d position out).out → b ≡ (run_of sheet d position out).out → a ≡ b
    unique-run_bytes a b = unique

  module _ (field : ℕ) (row : List ℕ) where
    pub unique-values : (r s : Result ℕ Refusal) → let x = values_reply d field position (length row) in r ≡ said_values x → s ≡ said_values x → r ≡ s
    unique-values r s = unique

    pub unique-values_numbers : (a b : List ℕ) → let x = values_reply d field position (length row) in a ≡ values_out row x → b ≡ values_out row x → a ≡ b
    unique-values_numbers a b = unique

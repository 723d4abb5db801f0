-- Definitions. One field of a library's products: its values from a position on, as many as there are and a row has room for.
use Rattle.std.specs.Prelude.{ℕ, ◌+◌, ◌-◌, min, List, ◌++◌, length, get_or, drop, Result, Ok, Err}
use Rattle.reply.specs.Read.{Read, refused, read, ◌then◌, refuse_if, is_outside}
use Rattle.block.specs.Rows.{table}
use Rattle.block.specs.declared.Indices.{Indices}
use Rattle.sheets.specs.Sheets.{all_fields}
use Rattle.catalogue.specs.Library.{Library, library_reply}
use Rattle.catalogue.specs.Products.{products, product_at}
use Rattle.reply.specs.declared.Refusal.{Refusal}

-- a field by its number on the sheet, 1 to 6
abbrev pub most_fields : ℕ
most_fields = 6

unfoldable pub field_at : ℕ → Indices → ℕ
field_at field x = get_or (all_fields x) (field - 1) 0

-- a field of the product at a position
unfoldable pub value_at : List ℕ → Library → ℕ → ℕ → ℕ
value_at d l field position = field_at field (product_at d l position)

-- so many values from a position on
abbrev pub values_of : List ℕ → Library → ℕ → ℕ → ℕ → ℕ
values_of d l field position i = value_at d l field (position + i)

unfoldable pub values_from : List ℕ → Library → ℕ → ℕ → ℕ → List ℕ
values_from d l field position count = table count (values_of d l field position)

-- 20 and the library's refusals, 35 for a field that no sheet has; then the values for a row of n
unfoldable pub values_reply : List ℕ → ℕ → ℕ → ℕ → Read (List ℕ)
values_reply d field position n =
    library_reply d then λ l.
    refuse_if (is_outside most_fields field) 35 0 then λ _.
    read (values_from d l field position (min n (products l.sites - position)))

-- how the code says it: how many they are; and the row afterwards
abbrev pub said_values : Read (List ℕ) → Result ℕ Refusal
said_values (refused r) = Err r
said_values (read vs) = Ok (length vs)

abbrev pub values_out : List ℕ → Read (List ℕ) → List ℕ
values_out out (refused r) = out
values_out out (read vs) = vs ++ drop (length vs) out

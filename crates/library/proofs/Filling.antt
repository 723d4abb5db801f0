-- A field of a library's products, put into a row. Assumes nothing.
use Prim.Native.Nat.{ℕ, ◌-◌, min}
use mathlib.Core.Bool.{true, false}
use mathlib.Core.List.{List, [], ◌∷◌}
use mathlib.Core.Path.{◌≡◌, refl, sym, ◌∙◌, ap}
use native.Mathlib.Omega.{arith}
use lib.ListN.{length, get_or}
use Rattle.reply.specs.Read.{refused, read, refusal, is_outside}
use Rattle.reply.specs.declared.Refusal.{Refusal}
use Rattle.block.specs.Tables.{length-table}
use Rattle.block.specs.declared.Indices.{Indices}
use Rattle.sheets.specs.Sheets.{all_fields}
use Rattle.catalogue.specs.Library.{Library, library_reply}
use Rattle.catalogue.specs.Products.{products, product_at}
use Rattle.library.specs.Values.{most_fields, field_at, value_at, values_of, values_from, values_reply, said_values, values_out}
use Rattle.library.specs.Filled.{Filled, filled_whole}
use Rattle.std.specs.Prelude.{Ok, Err}

pub field_said : (x : Indices) (field : ℕ) → get_or (x.atoms ∷ x.w ∷ x.even ∷ x.odd ∷ x.polarity ∷ x.largest ∷ []) (field - 1) 0 ≡ field_at field x
unfolding field_at all_fields
field_said x field = refl

pub value_said : (d : List ℕ) (l : Library) (field position v : ℕ) (x : Indices) → v ≡ field_at field x → x ≡ product_at d l position → v ≡ value_at d l field position
unfolding value_at
value_said d l field position v x e q = e ∙ ap (field_at field) q

module _ (d : List ℕ) (field position : ℕ) (row : List ℕ) where
  -- a refusal leaves the row
  pub values_refused : (q : Refusal) → library_reply d ≡ refused q
      → (Err q ≡ said_values (values_reply d field position (length row))) × (row ≡ values_out row (values_reply d field position (length row)))
  unfolding values_reply
  values_refused q e = rw e (refl, refl)

  module _ (l : Library) (e : library_reply d ≡ read l) where
    pub values_no_field : is_outside most_fields field ≡ true
        → (Err (refusal 35 0) ≡ said_values (values_reply d field position (length row))) × (row ≡ values_out row (values_reply d field position (length row)))
    unfolding values_reply
    values_no_field o = rw (e, o) (refl, refl)

    pub values_filled : is_outside most_fields field ≡ false → (count : ℕ) → count ≡ min (length row) (products l.sites - position) → (after : List ℕ)
        → Filled (values_of d l field position) row after count
        → (Ok count ≡ said_values (values_reply d field position (length row))) × (after ≡ values_out row (values_reply d field position (length row)))
    unfolding values_reply values_from
    values_filled o count c after t =
        let n = length-table count (values_of d l field position) in
        rw (e, o, ← c) (ap Ok (sym n), rw n (filled_whole (values_of d l field position) row after count t (omega (arith, c))))

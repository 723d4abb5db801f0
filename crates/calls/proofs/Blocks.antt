-- Replies of the code about a block, as a refusal or a value; the sheet that a number means.
use Prim.Native.Nat.{ℕ}
use mathlib.Core.List.{List}
use mathlib.Core.Path.{◌≡◌, ap, subst}
use borrow.Author.Tests.{eq-eqb, ne_eqb}
use Rattle.reply.specs.Read.{Read, refused, read, as_result, as_read}
use Rattle.block.specs.declared.Indices.{Indices}
use Rattle.records.specs.declared.Sheet.TheVariants.{Five, Six}
use Rattle.records.specs.declared.Sheet.{Sheet}
use Rattle.calls.specs.Convention.{Lent}
use Rattle.calls.specs.Blocks.{fields_list, sheet_for}
use Rattle.reply.specs.Chain.{read_back}
use Rattle.std.specs.Prelude.{Result}
use Rattle.reply.specs.declared.Refusal.{Refusal}

pub lent_fields : {old new : List ℕ} {x : ℕ} (s : Sheet) (a : Result Indices Refusal) (R : Read Indices) → a ≡ as_result R → Lent (fields_list s (as_read a)) old x new → Lent (fields_list s R) old x new
lent_fields {old} {new} {x} s a R e l = subst (λ (Q : Read Indices). Lent (fields_list s Q) old x new) (read_back a R e) l

pub sheet_six : (kind : ℕ) → kind ≡ 4 → Six ≡ sheet_for kind
sheet_six kind e = rw (eq-eqb kind 4 e)

pub sheet_five : (kind : ℕ) → (kind ≡ 4 → ⊥) → Five ≡ sheet_for kind
sheet_five kind e = rw (ne_eqb kind 4 e)

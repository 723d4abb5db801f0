-- Laws. Each promise determines the reply and the buffer: two that satisfy it are equal. Assumes nothing.
use Rattle.std.specs.Prelude.{ℕ, List, ◌≡◌}
use Rattle.block.specs.declared.Indices.{Indices}
use Rattle.records.specs.Records.{sheet_at}
use Rattle.records.specs.declared.Sheet.{Sheet}
use Rattle.reply.specs.Chain.{unique}
use Rattle.sheets.specs.Sheets.{all_fields, field_count, fields_of, claimed_at, sheet_bytes, sheet_put, first_wrong}

pub unique-put_sheet : (out : List ℕ) (k : Sheet) (x : Indices) (a b : List ℕ) → a ≡ sheet_put k out (fields_of k x) → b ≡ sheet_put k out (fields_of k x) → a ≡ b
unique-put_sheet out k x a b = unique

pub unique-first_wrong : (d : List ℕ) (at : ℕ) (x : Indices) (r s : ℕ) → r ≡ first_wrong 1 (fields_of (sheet_at d at) x) (claimed_at d at) → s ≡ first_wrong 1 (fields_of (sheet_at d at) x) (claimed_at d at) → r ≡ s
unique-first_wrong d at x r s = unique

-- the fields of either sheet, how many there are, and the bytes of its record
pub unique-fields_of : (x : Indices) (r s : List ℕ) → r ≡ all_fields x → s ≡ all_fields x → r ≡ s
unique-fields_of x r s = unique

pub unique-field_count : (k : Sheet) (r s : ℕ) → r ≡ field_count k → s ≡ field_count k → r ≡ s
unique-field_count k r s = unique

pub unique-bytes_of : (k : Sheet) (r s : ℕ) → r ≡ sheet_bytes k → s ≡ sheet_bytes k → r ≡ s
unique-bytes_of k r s = unique

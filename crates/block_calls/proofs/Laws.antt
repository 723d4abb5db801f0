-- What a reply of the code says, as a refusal or a value.
use Prim.Native.Nat.{ℕ}
use mathlib.Core.List.{List}
use mathlib.Core.Path.{◌≡◌, ap}
use Rattle.reply.specs.Read.{Read, refused, read}
use Rattle.block.specs.Rows.{said_row}
use Rattle.block.specs.declared.OneRow.{OneRow}
use Rattle.std.specs.Prelude.{Result, Ok, Err}
use Rattle.reply.specs.declared.Refusal.{Refusal}

abbrev pub row_said : Result (Unit {0}) Refusal → List ℕ → ℕ → Read (List ℕ × ℕ)
row_said (Err r) row far = refused r
row_said (Ok tt) row far = read (row, far)

abbrev pub told_row : OneRow → Read (List ℕ × ℕ)
told_row v = row_said v.reply v.row v.largest

pub row_told : (a : OneRow) (R : Read (List ℕ × ℕ)) → a ≡ said_row R → told_row a ≡ R
row_told a (refused r) e = ap told_row e
row_told a (read x) e = ap told_row e

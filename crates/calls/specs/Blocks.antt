-- Definitions. The fields of a sheet as they are lent out, a block of which an output is lacking, and the sheet that a caller's number means.
use Rattle.std.specs.Prelude.{ℕ, cond, List, eqb}
use Rattle.reply.specs.Read.{Read, read, ◌then◌}
use Rattle.block.specs.Block.{block_reply}
use Rattle.block.specs.declared.Indices.{Indices}
use Rattle.records.specs.declared.Sheet.{Sheet}
use Rattle.records.specs.declared.Sheet.TheVariants.{Five, Six}
use Rattle.sheets.specs.Sheets.{fields_of}
use Rattle.calls.specs.Convention.{then_nine}

-- six fields on a sheet
abbrev pub fields_list : Sheet → Read Indices → Read (List ℕ)
fields_list sheet answer = answer then λ x. read (fields_of sheet x)

-- the block's refusal, then 9
abbrev pub unlent_reply : ℕ → List ℕ → Read ℕ
unlent_reply n bonds = then_nine (block_reply n bonds)

-- kind 4 has six fields, anything else counts as 3
abbrev pub sheet_for : ℕ → Sheet
sheet_for kind = cond (eqb kind 4) Six Five

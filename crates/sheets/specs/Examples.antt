-- Laws. Worked examples, computed from the definitions.
use Rattle.std.specs.Prelude.{[], ◌∷◌, ◌≡◌, refl}
use Rattle.records.specs.Bytes.{little_bytes}
use Rattle.records.specs.declared.Sheet.TheVariants.{Five, Six}
use Rattle.sheets.specs.Sheets.{widths, field_bytes, sheet_record, first_wrong}

-- bytes of different weights
weights : little_bytes 4 305419896 ≡ 120 ∷ 86 ∷ 52 ∷ 18 ∷ []
unfolding little_bytes
weights = refl

-- document 01's two rings of 6
two_rings : sheet_record Five (12 ∷ 198 ∷ 96 ∷ 102 ∷ 14 ∷ [])
    ≡ 36 ∷ 0 ∷ 3 ∷ 0 ∷ 12 ∷ 0 ∷ 0 ∷ 0 ∷ 198 ∷ 0 ∷ 0 ∷ 0 ∷ 0 ∷ 0 ∷ 0 ∷ 0 ∷ 96 ∷ 0 ∷ 0 ∷ 0 ∷ 0 ∷ 0 ∷ 0 ∷ 0 ∷ 102 ∷ 0 ∷ 0 ∷ 0 ∷ 0 ∷ 0 ∷ 0 ∷ 0 ∷ 14 ∷ 0 ∷ 0 ∷ 0 ∷ 0 ∷ 0 ∷ 0 ∷ 0 ∷ []
unfolding sheet_record widths field_bytes little_bytes
two_rings = refl

-- and with their largest distance
six_fields_lem : sheet_record Six (12 ∷ 198 ∷ 96 ∷ 102 ∷ 14 ∷ 7 ∷ [])
    ≡ 40 ∷ 0 ∷ 4 ∷ 0 ∷ 12 ∷ 0 ∷ 0 ∷ 0 ∷ 198 ∷ 0 ∷ 0 ∷ 0 ∷ 0 ∷ 0 ∷ 0 ∷ 0 ∷ 96 ∷ 0 ∷ 0 ∷ 0 ∷ 0 ∷ 0 ∷ 0 ∷ 0 ∷ 102 ∷ 0 ∷ 0 ∷ 0 ∷ 0 ∷ 0 ∷ 0 ∷ 0 ∷ 14 ∷ 0 ∷ 0 ∷ 0 ∷ 0 ∷ 0 ∷ 0 ∷ 0 ∷ 7 ∷ 0 ∷ 0 ∷ 0 ∷ []
unfolding sheet_record widths field_bytes little_bytes
six_fields_lem = refl

third_wrong : first_wrong 1 (12 ∷ 198 ∷ 96 ∷ 102 ∷ 14 ∷ []) (12 ∷ 198 ∷ 95 ∷ 103 ∷ 14 ∷ []) ≡ 3
unfolding first_wrong
third_wrong = refl

sixth_wrong : first_wrong 1 (12 ∷ 198 ∷ 96 ∷ 102 ∷ 14 ∷ 7 ∷ []) (12 ∷ 198 ∷ 96 ∷ 102 ∷ 14 ∷ 6 ∷ []) ≡ 6
unfolding first_wrong
sixth_wrong = refl

-- Definitions. A sheet: its fields in order, the bytes that each takes, its record byte by byte, what a record claims, and the first wrong field.
-- The rules: "Kind 3, sheet: atom count (4), W, even part, odd part, polarity (8 each); 36 bytes", "Kind 4, sheet of six fields: those five and the
-- largest distance (4); 40 bytes", "All numbers are little-endian", "differs with the first wrong field, 1 to 5 or 1 to 6".
use Rattle.std.specs.Prelude.{ℕ, suc, ◌+◌, cond, List, [], ◌∷◌, ◌++◌, eqb, ltb, length, take, drop}
use Rattle.graph.specs.Graph.{Graph}
use Rattle.block.specs.declared.Indices.{Indices}
use Rattle.block.specs.Index.{indices_of}
use Rattle.records.specs.Bytes.{little, little_bytes}
use Rattle.records.specs.Records.{head_bytes, sheet_kind, sheet_at}
use Rattle.records.specs.declared.Sheet.{Sheet}
use Rattle.records.specs.declared.Sheet.TheVariants.{Five, Six}

-- the fields in order and the bytes of each, and how many of them a sheet has
unfoldable pub all_fields : Indices → List ℕ
all_fields x = x.atoms ∷ x.w ∷ x.even ∷ x.odd ∷ x.polarity ∷ x.largest ∷ []

abbrev pub all_widths : List ℕ
all_widths = 4 ∷ 8 ∷ 8 ∷ 8 ∷ 8 ∷ 4 ∷ []

abbrev pub field_count : Sheet → ℕ
field_count Five = 5
field_count Six = 6

-- the fields of a sheet, and their widths
unfoldable pub fields_of : Sheet → Indices → List ℕ
fields_of s x = take (field_count s) (all_fields x)

unfoldable pub widths : Sheet → List ℕ
widths s = take (field_count s) all_widths

-- the sheet of a molecule
unfoldable pub sheet_of : Sheet → Graph → List ℕ
sheet_of s g = fields_of s (indices_of g)

-- the fields of some widths, one after the other from a place on
unfoldable pub fields_at : List ℕ → List ℕ → ℕ → List ℕ
fields_at [] d at = []
fields_at (w ∷ ws) d at = little w d at ∷ fields_at ws d (at + w)

-- the fields that the sheet record at a place claims
unfoldable pub claimed_at : List ℕ → ℕ → List ℕ
claimed_at d at = fields_at (widths (sheet_at d at)) d (at + head_bytes)

-- numbers in fields of some widths, one after the other
unfoldable pub field_bytes : List ℕ → List ℕ → List ℕ
field_bytes [] xs = []
field_bytes (w ∷ ws) [] = []
field_bytes (w ∷ ws) (x ∷ xs) = little_bytes w x ++ field_bytes ws xs

-- payload length (2 bytes), kind (2 bytes), and the fields
unfoldable pub sheet_record : Sheet → List ℕ → List ℕ
sheet_record s xs = field_bytes (2 ∷ 2 ∷ widths s) ((sheet_kind s).fixed ∷ (sheet_kind s).number ∷ xs)

abbrev pub sheet_bytes : Sheet → ℕ
sheet_bytes s = head_bytes + (sheet_kind s).fixed

-- what a buffer holds after a sheet was put into it: later bytes stay, and one that is too short stays as it was
unfoldable pub sheet_put : Sheet → List ℕ → List ℕ → List ℕ
sheet_put s out xs = cond (ltb (length out) (sheet_bytes s)) out (sheet_record s xs ++ drop (sheet_bytes s) out)

-- the first field, counted from k, in which two sheets differ; 0 for none
unfoldable pub first_wrong : ℕ → List ℕ → List ℕ → ℕ
first_wrong k [] [] = 0
first_wrong k [] (y ∷ ys) = k
first_wrong k (x ∷ xs) [] = k
first_wrong k (x ∷ xs) (y ∷ ys) = cond (eqb x y) (first_wrong (suc k) xs ys) k

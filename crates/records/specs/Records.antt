-- Definitions. Records: payload length (2 bytes), kind (2 bytes), payload. The kinds of docs/RULES.md, and refusals 11, 12 and 13 at the record's first byte.
use Rattle.std.specs.Prelude.{ℕ, ◌+◌, ◌*◌, Bool, false, not, cond, List, [], ◌∷◌, eqb, ltb, length}
use Rattle.reply.specs.Read.{Read, refused, read, ◌then◌, refuse_if, refusal}
use Rattle.records.specs.Bytes.{le16, part}
use Rattle.records.specs.declared.Kind.{Kind}
use Rattle.records.specs.declared.Sheet.{Sheet}
use Rattle.records.specs.declared.Sheet.TheVariants.{Five, Six}

-- a record's head: payload length and kind
abbrev pub head_bytes : ℕ
head_bytes = 4

-- Kind 1, block: block number (2), n (2), bond count m (2), m bonds of two bytes
abbrev pub block_kind : Kind
block_kind = record { number = 1; fixed = 6; count = 4; item = 2; loose = false }

-- Kind 2, assembly: placement count p (2), then p placements of 6 bytes
abbrev pub assembly_kind : Kind
assembly_kind = record { number = 2; fixed = 2; count = 0; item = 6; loose = false }

-- Kind 3, sheet of five fields: 36 bytes. Kind 4, sheet of six: 40 bytes
abbrev pub sheet_kind : Sheet → Kind
sheet_kind Five = record { number = 3; fixed = 36; count = 0; item = 0; loose = false }
sheet_kind Six = record { number = 4; fixed = 40; count = 0; item = 0; loose = false }

abbrev pub length_at : List ℕ → ℕ → ℕ
length_at d at = le16 d at

abbrev pub kind_at : List ℕ → ℕ → ℕ
kind_at d at = le16 d (at + 2)

-- which of the two a sheet's record at a place is
unfoldable pub sheet_at : List ℕ → ℕ → Sheet
sheet_at d at = cond (eqb (kind_at d at) (sheet_kind Six).number) Six Five

-- the payload of the record at a place, and the first byte after it
abbrev pub payload_at : List ℕ → ℕ → List ℕ
payload_at d at = part d (at + head_bytes) (length_at d at)

abbrev pub end_at : List ℕ → ℕ → ℕ
end_at d at = at + head_bytes + length_at d at

-- the payload length that a kind and the count in its payload ask
abbrev pub wanted : Kind → List ℕ → ℕ → ℕ
wanted k d at = k.fixed + k.item * le16 d (at + head_bytes + k.count)

-- which of the kinds stands there
unfoldable pub kind_reply : List Kind → List ℕ → ℕ → Read Kind
kind_reply [] d at = refused (refusal 12 at)
kind_reply (k ∷ ks) d at = cond (eqb (kind_at d at) k.number) (read k) (kind_reply ks d at)

-- Whether its length is wrong. The payload of a loose kind holds its counts at least, and who reads it says where it ends. Of another kind a payload too short
-- to hold its counts never has the length wanted.
unfoldable pub is_wrong : Kind → List ℕ → ℕ → Bool
is_wrong k d at = cond k.loose (ltb (length_at d at) k.fixed) (not (eqb (length_at d at) (wanted k d at)))

unfoldable pub length_reply : Kind → List ℕ → ℕ → Read (Unit {0})
length_reply k d at = refuse_if (is_wrong k d at) 13 at

-- the record at a place where some kinds may stand
unfoldable pub record_reply : List Kind → List ℕ → ℕ → Read (Unit {0})
record_reply kinds d at =
    refuse_if (ltb (length d) (end_at d at)) 11 at then λ _.
    kind_reply kinds d at then λ k.
    length_reply k d at

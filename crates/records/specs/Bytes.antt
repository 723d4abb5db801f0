-- Definitions. Bytes and little-endian numbers.
use Rattle.std.specs.Prelude.{ℕ, zero, suc, ◌+◌, ◌*◌, ◌/◌, ◌%◌, min, List, [], ◌∷◌, ◌≡◌, length, get_or, take, drop}
use Rattle.std.specs.Borrow.{Bor}

-- the byte at a place, 0 past the end
abbrev pub byte_at : List ℕ → ℕ → ℕ
byte_at d at = get_or d at 0

-- the number of k bytes at a place, little-endian
unfoldable pub little : ℕ → List ℕ → ℕ → ℕ
little zero d at = 0
little (suc k) d at = byte_at d at + 256 * little k d (at + 1)

abbrev pub le16 : List ℕ → ℕ → ℕ
le16 d at = little 2 d at

-- and a number in k bytes
unfoldable pub little_bytes : ℕ → ℕ → List ℕ
little_bytes zero n = []
little_bytes (suc k) n = n % 256 ∷ little_bytes k (n / 256)

-- the len bytes from a place on, fewer where the list ends
abbrev pub part : List ℕ → ℕ → ℕ → List ℕ
part d from len = take len (drop from d)

-- r is the part of the lent bytes s from a place on: it holds these bytes, and points to where they stand
pub record PartOf (s : Bor (List ℕ)) (from len : ℕ) (r : Bor (List ℕ)) : Type 0 where
  pub bytes : r.now ≡ part s.now from len
  pub place : r.ref_ptr ≡ (s.ref_ptr.0, min from (length s.now) + s.ref_ptr.1)

-- Definitions. A summary of a block: its number (2 bytes), atom count (1), largest distance (1), even part, odd part and polarity (4 each); then for each atom the set
-- of its neighbours (8). A place for a summary has room for 64 atoms. What a summary says, whatever its bytes are.
use Rattle.std.specs.Prelude.{ℕ, ◌+◌, ◌*◌, min, cond, List}
use Rattle.std.specs.Int.Count.{ones}
use Rattle.half.specs.Half.{most_atoms}
use Rattle.reply.specs.Read.{is_outside}
use Rattle.records.specs.Bytes.{byte_at, little, le16, part}
use Rattle.sighted.specs.Sighted.{set_at, sets_in, seen_of, steps_in}
use Rattle.sighted.specs.declared.Seen.{Seen}
use Rattle.block.specs.declared.Indices.{Indices}
use Rattle.block.specs.declared.Vertex.{Vertex}
use Rattle.joining.specs.Parts.{Part}

-- the bytes that a summary opens with, those of an atom, and those of a place
abbrev pub summary_head : ℕ
summary_head = 16

abbrev pub atom_bytes : ℕ
atom_bytes = 8

abbrev pub summary_bytes : ℕ
summary_bytes = summary_head + atom_bytes * most_atoms

abbrev pub stored_number : List ℕ → ℕ
stored_number s = le16 s 0

-- its atoms, at most 64
abbrev pub stored_atoms : List ℕ → ℕ
stored_atoms s = min (byte_at s 2) most_atoms

unfoldable pub stored_fields : List ℕ → Indices
stored_fields s = record {
  atoms = stored_atoms s;
  w = little 4 s 4 + little 4 s 8;
  even = little 4 s 4;
  odd = little 4 s 8;
  polarity = little 4 s 12;
  largest = byte_at s 3;
}

-- the bytes of the sets, and the set of atom i
abbrev pub near_in : List ℕ → List ℕ
near_in s = part s summary_head (atom_bytes * most_atoms)

abbrev pub set_in : List ℕ → ℕ → ℕ
set_in s i = set_at (near_in s) i

-- all that is seen from atom i over the sets: what is counted, and the number of steps to each atom
unfoldable pub seen_at : List ℕ → ℕ → Seen
seen_at s i = seen_of (sets_in (near_in s)) (stored_atoms s) i

abbrev pub vertex_at : List ℕ → ℕ → Vertex
vertex_at s i = (seen_at s i).counts

abbrev pub far_at : List ℕ → ℕ → ℕ → ℕ
far_at s i j = steps_in (seen_at s i).row j

-- how many bonds are at an atom: as many as its set has atoms; none where it is not one of 64
unfoldable pub stored_degree : List ℕ → ℕ → ℕ
stored_degree s i = cond (is_outside most_atoms i) 0 (ones (set_in s i))

abbrev pub kept_of : List ℕ → Part
kept_of s = record { six = stored_fields s; sight = vertex_at s; far = far_at s }

-- Laws. What the one number of a C reply about a molfile tells, with nothing assumed; of a text shorter than 2^56 bytes it tells the place itself.
use Rattle.std.specs.Prelude.{ℕ, zero, suc, ◌+◌, ◌*◌, ◌<◌, ◌||◌, ◌≡◌, eqb, leb, ltb, length, drop}
use Rattle.std.proofs.Math.Bool.{true, not}
use mathlib.Core.List.{List, []}
use Rattle.std.proofs.Common.{arith}
use borrow.Author.Tests.{leb-false}
use Rattle.reply.specs.Read.{Read, read, refuse_if, is_outside}
use Rattle.reply.specs.Chain.{then-read, if_read}
use Rattle.block.specs.Block.{most_bytes, bonds_of, block_reply}
use Rattle.text.specs.Text.{is_number, three_at, line_chars, later_line, line_starts}
use Rattle.molfile.specs.Molfile.{counts_place, atom_line_place, atom_line_count, bond_line_count, bond_line_place, rest_place, ends_of_line, in_turn, line_reply, numbers_reply, bond_reply, end_word, end_line_reply, header_reply, atom_reply, bond_reply_of, lines_reply, kept_atoms, bytes_of, file_reply, molfile_reply}
use Rattle.molfile.specs.Work.{most}
use Rattle.molfile.proofs.Fronts.{bytes_room}
use Rattle.wholefile.specs.Whole.{molecule_reply, whole_file_reply}
use Rattle.calls.specs.Convention.{most_place}
use Rattle.told.specs.Bounded.{Bounded, then_bounded, if_bounded, wider, block_bounded, bonds_bounded, fewer_bonds}
use Rattle.text_calls.specs.Molfiles.{read_reply, whole_read_reply}
use Rattle.told.specs.Recovered.{Tells, roomed, TellsText, roomed_text}

turn_bounded : (c k : ℕ) (f : ℕ → Read (Unit {0})) → ((i : ℕ) → Bounded c (f i)) → Bounded c (in_turn k f)
unfolding in_turn
turn_bounded c zero f h = tt
turn_bounded c (suc k) f h = then_bounded c (in_turn k f) _ (turn_bounded c k f h) (λ u e. h k)

module _ (d : List ℕ) (c : ℕ) (big : most_bytes < c) (l : length d < c) where
  line_bounded : (least at : ℕ) → Bounded c (line_reply least d at)
  unfolding line_reply
  line_bounded least at =
      then_bounded c (refuse_if (leb (length d) at) 25 (length d)) _ (if_bounded c (leb (length d) at) 25 (length d) (omega (arith, l))) (λ u e.
      if_bounded c (ltb (line_chars d at) least) 25 at (omega (arith, l, leb-false (length d) at (if_read (leb (length d) at) 25 (length d) e))))

  -- a line that is there begins within the text
  line_within : (least at : ℕ) {u : Unit {0}} → line_reply least d at ≡ read u → at < length d
  unfolding line_reply
  line_within least at p =
      let (v, e, f) = then-read (refuse_if (leb (length d) at) 25 (length d)) _ p in
      leb-false (length d) at (if_read (leb (length d) at) 25 (length d) e)

  numbers_bounded : (at : ℕ) → Bounded c (numbers_reply d at)
  unfolding numbers_reply
  numbers_bounded at =
      let t = not (is_number (three_at d at)) || not (is_number (three_at d (at + 3))) in
      then_bounded c (line_reply 6 d at) _ (line_bounded 6 at) (λ u e. if_bounded c t 26 at (omega (arith, l, line_within 6 at e)))

  numbers_within : (at : ℕ) {u : Unit {0}} → numbers_reply d at ≡ read u → at < length d
  unfolding numbers_reply
  numbers_within at p = let (v, e, f) = then-read (line_reply 6 d at) _ p in line_within 6 at e

  bond_bounded : (n at : ℕ) → Bounded c (bond_reply n d at)
  unfolding bond_reply
  bond_bounded n at =
      let t = is_outside n (ends_of_line d at).one || is_outside n (ends_of_line d at).two in
      then_bounded c (numbers_reply d at) _ (numbers_bounded at) (λ u e. if_bounded c t 27 at (omega (arith, l, numbers_within at e)))

  lines_bounded : Bounded c (lines_reply d)
  unfolding lines_reply end_line_reply
  lines_bounded =
      then_bounded c (in_turn 3 (header_reply d)) _ (turn_bounded c 3 (header_reply d) (λ i. line_bounded 0 (later_line d 0 i))) (λ u e.
      then_bounded c (numbers_reply d (counts_place d)) _ (numbers_bounded (counts_place d)) (λ v f.
      then_bounded c (in_turn (atom_line_count d) (atom_reply d)) _ (turn_bounded c (atom_line_count d) (atom_reply d) (λ i. line_bounded 32 (atom_line_place d i))) (λ w g.
      then_bounded c (in_turn (bond_line_count d) (bond_reply_of d)) _ (turn_bounded c (bond_line_count d) (bond_reply_of d) (λ i. bond_bounded (atom_line_count d) (bond_line_place d i))) (λ x h.
      if_bounded c (not (line_starts end_word true (drop (rest_place d) d))) 25 (length d) (omega (arith, l))))))

  file_bounded : (kind : ℕ → List ℕ → Read (Unit {0})) → (lines_reply d ≡ read tt → Bounded c (kind (kept_atoms d) (bytes_of d))) → (room : ℕ) → Bounded c (file_reply kind d room)
  unfolding file_reply
  file_bounded kind h room =
      then_bounded c (lines_reply d) _ lines_bounded (λ u e.
      then_bounded c (kind (kept_atoms d) (bytes_of d)) _ (h e) (λ v f.
      if_bounded c (ltb room (length (bytes_of d))) 9 0 (omega arith)))

  molfile_bounded : (room : ℕ) → Bounded c (molfile_reply d room)
  molfile_bounded = file_bounded block_reply (λ e. wider (suc most_bytes) c (block_reply (kept_atoms d) (bytes_of d)) (omega arith) (block_bounded (kept_atoms d) (bytes_of d)))

  -- as one molecule: the place of a bond is at most how many there are
  whole_bounded : 2 * most < c → (room : ℕ) → Bounded c (whole_file_reply d room)
  unfolding molecule_reply
  whole_bounded wide =
      let n = kept_atoms d in
      let xs = bytes_of d in
      file_bounded molecule_reply (λ e.
      then_bounded c (refuse_if (eqb n 0) 1 0) _ (if_bounded c (eqb n 0) 1 0 (omega arith)) (λ v f.
      bonds_bounded n c [] (bonds_of xs) (omega (arith, fewer_bonds xs, bytes_room d e))))

-- WHATEVER THE TEXT: 0 exactly where nothing is refused; else the refusal's number, and its place as far as 56 bits go
pub molfile_read_tells : (d : List ℕ) (room entries : ℕ) → TellsText (read_reply d room entries)
molfile_read_tells d room entries = roomed_text (suc (length d + most_bytes)) entries 2 (molfile_reply d room) (omega arith) (molfile_bounded d (suc (length d + most_bytes)) (omega arith) (omega arith) room)

-- the place of a refused text is a place in it
pub molfile_read_place : (d : List ℕ) → length d < most_place → (room entries : ℕ) → Tells (read_reply d room entries)
molfile_read_place d l room entries = roomed entries 2 (molfile_reply d room) (molfile_bounded d most_place (omega arith) l room)

-- the same of a file that is read whole
pub whole_read_tells : (d : List ℕ) (room entries : ℕ) → TellsText (whole_read_reply d room entries)
whole_read_tells d room entries =
    let c = suc (length d + 2 * most) in
    roomed_text c entries 2 (whole_file_reply d room) (omega arith) (whole_bounded d c (omega arith) (omega arith) (omega arith) room)

pub whole_read_place : (d : List ℕ) → length d < most_place → (room entries : ℕ) → Tells (whole_read_reply d room entries)
whole_read_place d l room entries = roomed entries 2 (whole_file_reply d room) (whole_bounded d most_place (omega arith) l (omega arith) room)

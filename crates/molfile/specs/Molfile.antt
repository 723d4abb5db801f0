-- Definitions. A V2000 molfile: what its lines say, its refusals 25, 26 and 27, which hydrogens are dropped, and the block that is left. Places are bytes of the file, counted from 0.
use Rattle.std.specs.Prelude.{ℕ, zero, suc, ◌+◌, Bool, true, false, ◌&&◌, ◌||◌, not, cond, List, [], ◌∷◌, ◌++◌, eqb, leb, ltb, length, drop}
use Rattle.graph.specs.Graph.{Bond, bond}
use Rattle.reply.specs.Read.{Read, refused, read, ◌then◌, refuse_if, is_outside}
use Rattle.block.specs.Block.{block_reply}
use Rattle.text.specs.Text.{ascii, blank, is_blank, character_at, is_number, number_of, three_at, line_chars, later_line, line_starts}

-- THE LINES. Where they begin: three header lines, the counts, the atoms, the bonds, and those read over up to M  END. Atoms and bonds count from 0 here.
abbrev pub counts_place : List ℕ → ℕ
counts_place d = later_line d 0 3

abbrev pub atom_line_place : List ℕ → ℕ → ℕ
atom_line_place d i = later_line d 0 (4 + i)

-- the counts line begins with the number of atoms and the number of bonds
abbrev pub atom_line_count : List ℕ → ℕ
atom_line_count d = number_of (three_at d (counts_place d))

abbrev pub bond_line_count : List ℕ → ℕ
bond_line_count d = number_of (three_at d (counts_place d + 3))

abbrev pub bond_line_place : List ℕ → ℕ → ℕ
bond_line_place d k = later_line d (atom_line_place d (atom_line_count d)) k

abbrev pub rest_place : List ℕ → ℕ
rest_place d = bond_line_place d (bond_line_count d)

-- a bond line begins with its two ends
abbrev pub ends_of_line : List ℕ → ℕ → Bond
ends_of_line d at = bond (number_of (three_at d at)) (number_of (three_at d (at + 3)))

unfoldable pub bond_of_line : List ℕ → ℕ → Bond
bond_of_line d k = ends_of_line d (bond_line_place d k)

-- the characters 32 to 34 of an atom line are its symbol; past the line's end they are blank
unfoldable pub symbol_at : List ℕ → ℕ → ℕ → ℕ
symbol_at d at k = cond (ltb (31 + k) (line_chars d at)) (character_at d (at + 31 + k)) blank

-- one H, otherwise blanks
abbrev pub is_h : ℕ → Bool
is_h b = eqb b 72

unfoldable pub one_h : ℕ → ℕ → ℕ → Bool
one_h a b c = is_h a && is_blank b && is_blank c || is_blank a && is_h b && is_blank c || is_blank a && is_blank b && is_h c

unfoldable pub hydrogen_at : List ℕ → ℕ → Bool
hydrogen_at d at = one_h (symbol_at d at 0) (symbol_at d at 1) (symbol_at d at 2)

-- THE REFUSALS 25, 26 and 27, in file order.
-- each of a number of tests in turn
unfoldable pub in_turn : ℕ → (ℕ → Read (Unit {0})) → Read (Unit {0})
in_turn zero f = read tt
in_turn (suc k) f = in_turn k f then λ _. f k

-- a line that is missing, or has fewer characters than it needs
unfoldable pub line_reply : ℕ → List ℕ → ℕ → Read (Unit {0})
line_reply least d at =
    refuse_if (leb (length d) at) 25 (length d) then λ _.
    refuse_if (ltb (line_chars d at) least) 25 at

-- a line that begins with two numbers
unfoldable pub numbers_reply : List ℕ → ℕ → Read (Unit {0})
numbers_reply d at =
    line_reply 6 d at then λ _.
    refuse_if (not (is_number (three_at d at)) || not (is_number (three_at d (at + 3)))) 26 at

-- two numbers that are not both atoms of the list
abbrev pub ends_reply : ℕ → List ℕ → ℕ → Read (Unit {0})
ends_reply n d at = refuse_if (is_outside n (ends_of_line d at).one || is_outside n (ends_of_line d at).two) 27 at

-- a bond line
unfoldable pub bond_reply : ℕ → List ℕ → ℕ → Read (Unit {0})
bond_reply n d at = numbers_reply d at then λ _. ends_reply n d at

-- M  END is missing
abbrev pub end_word : List ℕ
end_word = ascii "M  END"

unfoldable pub end_line_reply : List ℕ → ℕ → Read (Unit {0})
end_line_reply d at = refuse_if (not (line_starts end_word true (drop at d))) 25 (length d)

-- the header line, the atom line and the bond line of a number from 0
abbrev pub header_reply : List ℕ → ℕ → Read (Unit {0})
header_reply d k = line_reply 0 d (later_line d 0 k)

abbrev pub atom_reply : List ℕ → ℕ → Read (Unit {0})
atom_reply d i = line_reply 32 d (atom_line_place d i)

abbrev pub bond_reply_of : List ℕ → ℕ → Read (Unit {0})
bond_reply_of d k = bond_reply (atom_line_count d) d (bond_line_place d k)

unfoldable pub lines_reply : List ℕ → Read (Unit {0})
lines_reply d =
    in_turn 3 (header_reply d) then λ _.
    numbers_reply d (counts_place d) then λ _.
    in_turn (atom_line_count d) (atom_reply d) then λ _.
    in_turn (bond_line_count d) (bond_reply_of d) then λ _.
    end_line_reply d (rest_place d)

-- where the bond lines end of a file whose lines are not refused, else the file's length: from there on the first line that begins with M  END is the file's own
abbrev pub rest_by : Read (Unit {0}) → List ℕ → ℕ
rest_by (refused r) d = length d
rest_by (read u) d = rest_place d

abbrev pub rest_of : List ℕ → ℕ
rest_of d = rest_by (lines_reply d) d

-- THE HYDROGENS that are dropped: `h` says of an atom, from 1, whether it is a hydrogen, `f` gives the bonds, from 0, and there are m of them.
-- how many numbers below k pass a test
unfoldable pub passing_below : ℕ → (ℕ → Bool) → ℕ
passing_below zero t = 0
passing_below (suc k) t = passing_below k t + cond (t k) 1 0

-- whether a bond names an atom, the atom at its other end, and whether that is a hydrogen
abbrev pub names : (ℕ → Bond) → ℕ → ℕ → Bool
names f i k = eqb (f k).one i || eqb (f k).two i

abbrev pub other : Bond → ℕ → ℕ
other b i = cond (eqb b.one i) b.two b.one

abbrev pub names_to_h : (ℕ → Bool) → (ℕ → Bond) → ℕ → ℕ → Bool
names_to_h h f i k = names f i k && h (other (f k) i)

-- how many bonds an atom has, and how many of these lead to a hydrogen
abbrev pub bond_lines_on : (ℕ → Bond) → ℕ → ℕ → ℕ
bond_lines_on f m i = passing_below m (names f i)

abbrev pub hydrogens_on : (ℕ → Bool) → (ℕ → Bond) → ℕ → ℕ → ℕ
hydrogens_on h f m i = passing_below m (names_to_h h f i)

-- a hydrogen with exactly one bond, to an atom that is none
unfoldable pub is_dropped : (ℕ → Bool) → (ℕ → Bond) → ℕ → ℕ → Bool
is_dropped h f m i = h i && eqb (bond_lines_on f m i) 1 && eqb (hydrogens_on h f m i) 0

-- the atoms that are kept are numbered anew in order: an atom's number is how many of the atoms up to it are kept
abbrev pub is_kept : (ℕ → Bool) → ℕ → Bool
is_kept dropped j = not (dropped (suc j))

abbrev pub new_number : (ℕ → Bool) → ℕ → ℕ
new_number dropped i = passing_below i (is_kept dropped)

-- the bonds between atoms that are kept, two numbers each: the bytes of a block's bonds where a block may have so many atoms
unfoldable pub kept_bytes : (ℕ → Bool) → (ℕ → Bond) → ℕ → List ℕ
kept_bytes dropped f zero = []
kept_bytes dropped f (suc k) =
    let b = f k in
    kept_bytes dropped f k ++ cond (dropped b.one || dropped b.two) [] (new_number dropped b.one ∷ new_number dropped b.two ∷ [])

-- THE BLOCK of a file.
unfoldable pub hydrogen_in : List ℕ → ℕ → Bool
hydrogen_in d zero = false
hydrogen_in d (suc i) = hydrogen_at d (atom_line_place d i)

abbrev pub dropped_in : List ℕ → ℕ → Bool
dropped_in d = is_dropped (hydrogen_in d) (bond_of_line d) (bond_line_count d)

abbrev pub kept_atoms : List ℕ → ℕ
kept_atoms d = new_number (dropped_in d) (atom_line_count d)

abbrev pub bytes_of : List ℕ → List ℕ
bytes_of d = kept_bytes (dropped_in d) (bond_of_line d) (bond_line_count d)

-- n atoms and the bonds between them, two numbers each: what a kind of reader refuses of these, then 9 where fewer numbers are lent than the bonds take
abbrev pub fitting_reply : (ℕ → List ℕ → Read (Unit {0})) → ℕ → List ℕ → ℕ → Read (Unit {0})
fitting_reply kind n xs room =
    kind n xs then λ _.
    refuse_if (ltb room (length xs)) 9 0

-- the file's refusals, then those of what is kept
unfoldable pub file_reply : (ℕ → List ℕ → Read (Unit {0})) → List ℕ → ℕ → Read (Unit {0})
file_reply kind d room = lines_reply d then λ _. fitting_reply kind (kept_atoms d) (bytes_of d) room

-- as a block
abbrev pub molfile_reply : List ℕ → ℕ → Read (Unit {0})
molfile_reply = file_reply block_reply

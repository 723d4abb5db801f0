-- Work. Texts and their replies, by computing.
use Rattle.std.specs.Prelude.{ℕ, List, [], ◌∷◌, ◌≡◌, refl}
use Prim.Native.String.{String}
use Rattle.graph.specs.Graph.{Graph, Bond, bond, joins, any_joins, bonded, any_atom, reaches, first_from, distance, all_atoms, connected, degree}
use Rattle.reply.specs.Read.{Read, refused, read, refusal}
use Rattle.block.specs.Block.{bonds_of, bond_fault, bonds_reply, block_reply}
use Rattle.text.specs.Text.{ascii, decimal_in, decimal}
use Rattle.adjacency.specs.Neighbours.{numbers_from, good_bytes, large_at, fault_at, shape_from, asked, asked_from, bonds_in, steps_reply, block_of, neighbours_reply}
use Rattle.adjacency.specs.Written.{up_to, greater, listed, line, lines, text_by, neighbours_write_reply}

unfoldable told : String → ℕ → Read Graph
unfolding joins any_joins bonded any_atom reaches first_from distance all_atoms connected degree bond_fault numbers_from good_bytes large_at fault_at shape_from asked asked_from bonds_in steps_reply block_of neighbours_reply
told text room = neighbours_reply (ascii text) room

abbrev no : ℕ → ℕ → Read Graph
no n p = refused (refusal n p)

abbrev block : ℕ → List Bond → Read Graph
block n bs = read (record { atoms = n; bonds = bs })

abbrev pair : Read Graph
pair = block 2 (bond 1 2 ∷ [])

-- document 001, table 1
naphthalene : told "10\n1 2 10 0\n2 3 0\n3 4 8 0\n4 5 0\n5 6 0\n6 7 0\n7 8 0\n8 9 0\n9 10 0\n0\n" 22
    ≡ block 10 (bond 1 2 ∷ bond 1 10 ∷ bond 2 3 ∷ bond 3 4 ∷ bond 3 8 ∷ bond 4 5 ∷ bond 5 6 ∷ bond 6 7 ∷ bond 7 8 ∷ bond 8 9 ∷ bond 9 10 ∷ [])
unfolding told
naphthalene = refl

one_byte_short : told "10\n1 2 10 0\n2 3 0\n3 4 8 0\n4 5 0\n5 6 0\n6 7 0\n7 8 0\n8 9 0\n9 10 0\n0\n" 21 ≡ no 9 0
unfolding told
one_byte_short = refl

-- any blank, tab, CR or LF sets numbers apart, and leading zeros say nothing
apart : told "\t0002\r\n00001 02 000 0000" 2 ≡ pair
unfolding told
apart = refl

count_line : told "2 1 2 0\n0\n" 2 ≡ pair
unfolding told
count_line = refl

-- 21: the first fault of the whole text, the number's first byte or the byte
large_first : told "2 1 1000x" 0 ≡ no 21 4
unfolding told
large_first = refl

byte_first : told "2 1 12x" 0 ≡ no 21 6
unfolding told
byte_first = refl

past_the_last : told "2 1 2 0 0 7 x" 0 ≡ no 21 12
unfolding told
past_the_last = refl

zeros_then_large : told "2 1 2 0 0 00001000" 0 ≡ no 21 10
unfolding told
zeros_then_large = refl

-- 22: by shape alone, before 1
empty : told "" 0 ≡ no 22 0
unfolding told
empty = refl

a_count : told "0" 0 ≡ no 22 1
unfolding told
a_count = refl

cut_off : told "2\n1 2 0\n" 0 ≡ no 22 8
unfolding told
cut_off = refl

one_too_many : told "99 0 1" 0 ≡ no 22 5
unfolding told
one_too_many = refl

-- a label above n in its turn
label_in_turn : told "2 1 2 0 3 0 0" 2 ≡ no 3 2
unfolding told
label_in_turn = refl

label_later : told "2 1 1 0 3 0 0" 0 ≡ no 4 1
unfolding told
label_later = refl

label_before_whole : told "4 1 2 0 5 0 0" 0 ≡ no 3 2
unfolding told
label_before_whole = refl

-- neither count nor end wraps
count_high : told "257 0" 0 ≡ no 1 0
unfolding told
count_high = refl

end_high : told "2 1 258 0 0" 0 ≡ no 3 1
unfolding told
end_high = refl

-- smaller neighbours are passed over, equal ones are 4, repeated bonds 5; labels in any order
smaller : told "2 1 2 0 2 1 0 0" 2 ≡ pair
unfolding told
smaller = refl

smaller_only : told "2 2 1 0 0" 0 ≡ no 7 0
unfolding told
smaller_only = refl

equal : told "2 1 2 0 2 1 2 0 0" 0 ≡ no 4 2
unfolding told
equal = refl

twice : told "2 1 2 2 0 0" 0 ≡ no 5 2
unfolding told
twice = refl

any_order : told "3 2 3 0 1 2 0 0" 4 ≡ block 3 (bond 2 3 ∷ bond 1 2 ∷ [])
unfolding told
any_order = refl

one_atom : told "1\n0\n" 0 ≡ block 1 []
unfolding told
one_atom = refl

-- the writer
unfoldable written_by : ℕ → List ℕ → ℕ → Read (List ℕ)
unfolding joins any_joins bonded any_atom reaches first_from distance all_atoms connected degree bonds_of bond_fault bonds_reply block_reply decimal_in decimal up_to greater listed line lines text_by neighbours_write_reply
written_by n xs room = neighbours_write_reply n xs room

write_naphthalene : written_by 10 (10 ∷ 9 ∷ 9 ∷ 8 ∷ 8 ∷ 7 ∷ 7 ∷ 6 ∷ 6 ∷ 5 ∷ 5 ∷ 4 ∷ 4 ∷ 3 ∷ 3 ∷ 2 ∷ 2 ∷ 1 ∷ 1 ∷ 10 ∷ 8 ∷ 3 ∷ []) 65 ≡ read (ascii "10\n1 2 10 0\n2 3 0\n3 4 8 0\n4 5 0\n5 6 0\n6 7 0\n7 8 0\n8 9 0\n9 10 0\n0\n")
unfolding written_by
write_naphthalene = refl

write_one : written_by 1 [] 4 ≡ read (ascii "1\n0\n")
unfolding written_by
write_one = refl

write_short : written_by 1 [] 3 ≡ refused (refusal 9 0)
unfolding written_by
write_short = refl

write_refused : written_by 2 (1 ∷ 1 ∷ []) 0 ≡ refused (refusal 4 1)
unfolding written_by
write_refused = refl

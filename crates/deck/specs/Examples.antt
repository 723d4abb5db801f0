-- Laws. The rules' deck of 40 bytes, and a deck for each refusal with its place, by computing.
use Rattle.std.specs.Prelude.{ℕ, zero, suc, ◌+◌, ◌*◌, ◌/◌, ◌%◌, ◌<◌, ◌≡◌, refl, List, [], ◌∷◌, ◌++◌, map, length, replicate}
use Rattle.std.proofs.Common.{lt-ltb}
use Rattle.graph.specs.Graph.{joins, any_joins, bonded, any_atom, reaches, first_from, distance, all_atoms, connected, degree, sum, sum_pairs, even_of, odd_of, is_at, total}
use Rattle.graph.specs.Farthest.{most, most_pairs, largest}
use Rattle.graph.specs.Assembly.{shifted, joined, start_at, written}
use Rattle.reply.specs.Read.{Read, refused, read, refusal, ◌then◌}
use Rattle.block.specs.Block.{most_atoms, limit, most_bytes, bonds_of, bond_fault, bonds_reply, block_reply}
use Rattle.block.specs.Index.{indices_of}
use Rattle.block.specs.declared.Indices.{Indices}
use Rattle.records.specs.Bytes.{little}
use Rattle.records.specs.Records.{kind_reply, is_wrong, length_reply, record_reply}
use Rattle.assembly.specs.Book.{find, book_of, most_blocks}
use Rattle.assembly.specs.Placements.{most_placements, placement_at, join_of, join_ends, joins_on, bonds_on, first_fault, parent_fault, join_fault, later_fault, fault, placements_reply, assembly_reply}
use Rattle.deck.specs.Deck.{longest_deck, Deck, block_reply_at, assembly_reply_at, blocks_from, blocks_reply, end_reply, sheet_reply, deck_reply, payload, block_span, block_part}
use Rattle.deck.specs.Molecule.{placed_in, graph_at, join_at, molecule_of}
use Rattle.deck.specs.declared.Form.{Form}
use Rattle.deck.specs.declared.Form.TheVariants.{Composed, Judged}

-- a record of a kind, a block, an assembly of some placements, a sheet of small numbers
record' : ℕ → List ℕ → List ℕ
record' kind xs = length xs % 256 ∷ length xs / 256 ∷ kind ∷ 0 ∷ xs

block : ℕ → ℕ → List ℕ → List ℕ
unfolding record'
block number n bonds = record' 1 (number ∷ 0 ∷ n ∷ 0 ∷ length bonds / 2 ∷ 0 ∷ bonds)

assembly : ℕ → List ℕ → List ℕ
unfolding record'
assembly p placements = record' 2 (p ∷ 0 ∷ placements)

five : ℕ → ℕ → ℕ → ℕ → ℕ → List ℕ
five n w e o p = n ∷ replicate 3 0 ++ w ∷ replicate 7 0 ++ e ∷ replicate 7 0 ++ o ∷ replicate 7 0 ++ p ∷ replicate 7 0

sheet : ℕ → ℕ → ℕ → ℕ → ℕ → List ℕ
unfolding record' five
sheet n w e o p = record' 3 (five n w e o p)

-- a sheet of six, with the largest distance behind the five
sixth : ℕ → List ℕ
sixth l = l ∷ replicate 3 0

wider : ℕ → ℕ → ℕ → ℕ → ℕ → ℕ → List ℕ
unfolding record' five sixth
wider n w e o p l = record' 4 (five n w e o p ++ sixth l)

-- a block of one atom, a ring of six; one placement of block 1, and another joined to it
atom : List ℕ
unfolding block record'
atom = block 1 1 []

ring : List ℕ
unfolding block record'
ring = block 1 6 (1 ∷ 2 ∷ 2 ∷ 3 ∷ 3 ∷ 4 ∷ 4 ∷ 5 ∷ 5 ∷ 6 ∷ 6 ∷ 1 ∷ [])

first : List ℕ
first = 1 ∷ 0 ∷ 0 ∷ 0 ∷ 0 ∷ 0 ∷ []

join_to : ℕ → ℕ → ℕ → List ℕ
join_to parent site own = 1 ∷ 0 ∷ parent ∷ 0 ∷ site ∷ own ∷ []

alone : List ℕ
unfolding assembly record' first
alone = assembly 1 first

-- the deck of document 01
unfoldable pub document : List ℕ
document =
    18 ∷ 0 ∷ 1 ∷ 0 ∷ 1 ∷ 0 ∷ 6 ∷ 0 ∷ 6 ∷ 0 ∷ 1 ∷ 2 ∷ 2 ∷ 3 ∷ 3 ∷ 4 ∷ 4 ∷ 5 ∷ 5 ∷ 6 ∷ 6 ∷ 1
    ∷ 14 ∷ 0 ∷ 2 ∷ 0 ∷ 2 ∷ 0 ∷ 1 ∷ 0 ∷ 0 ∷ 0 ∷ 0 ∷ 0 ∷ 1 ∷ 0 ∷ 1 ∷ 0 ∷ 1 ∷ 1 ∷ []

-- the number and the place of a refusal; nothing where a deck is read
said : Read Deck → List ℕ
said (refused r) = r.number ∷ r.place ∷ []
said (read k) = []

told : Form → List ℕ → List ℕ
unfolding said joins any_joins bonded any_atom reaches first_from distance all_atoms connected degree sum bonds_of bond_fault bonds_reply block_reply little kind_reply is_wrong length_reply record_reply find book_of placement_at join_of join_ends joins_on bonds_on first_fault parent_fault join_fault later_fault fault placements_reply assembly_reply block_reply_at assembly_reply_at blocks_from blocks_reply end_reply sheet_reply deck_reply
told form d = said (deck_reply form d)

-- the indices of the molecule of a deck
indices_for : List ℕ → Read Deck → Read Indices
indices_for d r = r then λ k. read (indices_of (molecule_of d k))

written_out : indices_for document (deck_reply Composed document) ≡ read (record { atoms = 12; w = 198; even = 96; odd = 102; polarity = 14; largest = 7 })
unfolding indices_for document joins any_joins bonded any_atom reaches first_from distance all_atoms connected degree sum bonds_of bond_fault bonds_reply block_reply little kind_reply is_wrong length_reply record_reply find book_of placement_at join_of join_ends joins_on bonds_on first_fault parent_fault join_fault later_fault fault placements_reply assembly_reply block_reply_at assembly_reply_at blocks_from blocks_reply end_reply sheet_reply deck_reply shifted joined start_at written sum_pairs even_of odd_of is_at total most most_pairs largest indices_of placed_in graph_at join_at molecule_of
written_out = refl

same_bytes : document ≡ ring ++ assembly 2 (first ++ join_to 1 1 1)
unfolding document ring block record' assembly first join_to
same_bytes = refl

-- a deck in each form, with and without a sheet
forms :
    (told Composed document ∷ told Judged (document ++ sheet 12 198 96 102 14) ∷ told Composed (document ++ sheet 12 198 96 102 14) ∷ told Judged document ∷ told Composed [] ∷ [])
    ≡ ([] ∷ [] ∷ (11 ∷ 40 ∷ []) ∷ (11 ∷ 40 ∷ []) ∷ (11 ∷ 0 ∷ []) ∷ [])
unfolding told document sheet five record'
forms = refl

-- a sheet of six fields stands where one of five does
abbrev six_fields : List ℕ
unfolding wider five sixth record'
six_fields = wider 12 198 96 102 14 7

six_fields_lem : (told Judged (document ++ six_fields) ∷ told Composed (document ++ six_fields) ∷ []) ≡ ([] ∷ (11 ∷ 40 ∷ []) ∷ [])
unfolding told document wider five sixth record'
six_fields_lem = refl

-- 13 for either kind with the other's length, 11 at a second sheet, 12 where an assembly should stand
sheets_refused :
    (told Judged (document ++ record' 3 (five 12 198 96 102 14 ++ sixth 7)) ∷ told Judged (document ++ record' 4 (five 12 198 96 102 14)) ∷ told Judged (document ++ six_fields ++ sheet 12 198 96 102 14)
    ∷ told Judged (document ++ sheet 12 198 96 102 14 ++ six_fields) ∷ told Judged (atom ++ six_fields) ∷ [])
    ≡ ((13 ∷ 40 ∷ []) ∷ (13 ∷ 40 ∷ []) ∷ (11 ∷ 84 ∷ []) ∷ (11 ∷ 80 ∷ []) ∷ (12 ∷ 10 ∷ []) ∷ [])
unfolding told document sheet wider five sixth atom block record'
sheets_refused = refl

-- a deck that is refused, with the number and the place
record Case : Type 0 where
  deck : List ℕ
  number : ℕ
  place : ℕ

infix 90 ◌is◌at◌
◌is◌at◌ : List ℕ → ℕ → ℕ → Case
d is n at p = record { deck = d; number = n; place = p }

-- blocks of one atom, numbered from k on; n bonds on atom 1; n placements joined to the first
atoms : ℕ → ℕ → List ℕ
unfolding block record'
atoms zero k = []
atoms (suc n) k = block k 1 [] ++ atoms n (suc k)

star : ℕ → List ℕ
star zero = []
star (suc n) = 1 ∷ (n + 2) ∷ star n

joins_to : ℕ → List ℕ
unfolding join_to
joins_to zero = []
joins_to (suc n) = join_to 1 1 1 ++ joins_to n

cases : List Case
unfolding ◌is◌at◌ record' block assembly sheet five atom first join_to alone atoms star joins_to
cases =
    -- 1, 2 and 7 at the block's record, 3 to 6 at the bond
    (atom ++ block 2 0 [] ++ alone) is 1 at 10
    ∷ (block 1 (most_atoms + 1) [] ++ alone) is 1 at 0
    ∷ (block 1 most_atoms (replicate (most_bytes + 2) 1) ++ alone) is 2 at 0
    ∷ (atom ++ block 2 2 (1 ∷ 3 ∷ []) ++ alone) is 3 at 20
    ∷ (block 1 2 (1 ∷ 1 ∷ []) ++ alone) is 4 at 10
    ∷ (block 1 2 (1 ∷ 2 ∷ 2 ∷ 1 ∷ []) ++ alone) is 5 at 12
    ∷ (block 1 (limit + 2) (star (limit + 1)) ++ alone) is 6 at (10 + 2 * limit)
    ∷ (atom ++ block 2 2 [] ++ alone) is 7 at 10
    -- the deck ends early: before a block, before the assembly, within a head, within a payload; bytes follow the last record
    ∷ [] is 11 at 0
    ∷ atom is 11 at 10
    ∷ (6 ∷ 0 ∷ 1 ∷ []) is 11 at 0
    ∷ (atom ++ 8 ∷ 0 ∷ 2 ∷ 0 ∷ 1 ∷ 0 ∷ []) is 11 at 10
    ∷ (atom ++ alone ++ 0 ∷ []) is 11 at 22
    -- an assembly first, a sheet after a block, a kind that there is not
    ∷ alone is 12 at 0
    ∷ (atom ++ sheet 1 0 0 0 0) is 12 at 10
    ∷ record' 9 [] is 12 at 0
    -- the length and the count differ, the counts do not fit in
    ∷ (record' 1 (1 ∷ 0 ∷ 1 ∷ 0 ∷ 1 ∷ 0 ∷ []) ++ alone) is 13 at 0
    ∷ (record' 1 (1 ∷ 0 ∷ []) ++ alone) is 13 at 0
    ∷ (atom ++ assembly 2 first) is 13 at 10
    ∷ (atom ++ record' 2 []) is 13 at 10
    -- number 0, used before, a 17th block
    ∷ (block 0 1 [] ++ alone) is 14 at 0
    ∷ (atom ++ atom ++ alone) is 14 at 10
    ∷ (atoms (most_blocks + 1) 1 ++ alone) is 14 at (10 * most_blocks)
    -- no placement, 33 placements
    ∷ (atom ++ assembly 0 []) is 15 at 10
    ∷ (atom ++ assembly (most_placements + 1) (first ++ joins_to most_placements)) is 15 at 10
    -- at the placement: no such block, a first placement with a join, a parent that is 0 or not earlier, atoms that there are not, one bond too many
    ∷ (block 2 1 [] ++ alone) is 16 at 16
    ∷ (atom ++ assembly 1 (join_to 0 0 1)) is 17 at 16
    ∷ (atom ++ assembly 2 (first ++ join_to 0 1 1)) is 23 at 22
    ∷ (atom ++ assembly 2 (first ++ join_to 2 1 1)) is 24 at 22
    ∷ (atom ++ assembly 2 (first ++ join_to 1 2 1)) is 18 at 22
    ∷ (atom ++ assembly 2 (first ++ join_to 1 1 0)) is 18 at 22
    ∷ (atom ++ assembly (limit + 2) (first ++ joins_to (limit + 1))) is 19 at (10 + 6 * (limit + 2))
    ∷ (block 1 (limit + 1) (star limit) ++ assembly 2 (first ++ join_to 1 2 1)) is 19 at (22 + 2 * limit)
    ∷ []

refusals : map (λ (c : Case). told Composed c.deck) cases ≡ map (λ (c : Case). c.number ∷ c.place ∷ []) cases
unfolding told cases ◌is◌at◌ record' block assembly sheet five atom first join_to alone atoms star joins_to
refusals = refl

-- where two refusals are due, which of them is told
orders : List Case
unfolding ◌is◌at◌ record' block assembly sheet five atom first join_to alone atoms star joins_to
orders =
    -- 11 before 12 and 13, 12 before 13, 13 before 14, 14 before the block's own
    (6 ∷ 0 ∷ 9 ∷ 0 ∷ []) is 11 at 0
    ∷ (6 ∷ 0 ∷ 1 ∷ 0 ∷ 1 ∷ 0 ∷ 1 ∷ 0 ∷ 1 ∷ []) is 11 at 0
    ∷ (atom ++ record' 3 []) is 12 at 10
    ∷ record' 1 (0 ∷ 0 ∷ 1 ∷ 0 ∷ 1 ∷ 0 ∷ []) is 13 at 0
    ∷ (atoms most_blocks 1 ++ record' 1 (0 ∷ 0 ∷ 1 ∷ 0 ∷ 1 ∷ 0 ∷ [])) is 13 at (10 * most_blocks)
    ∷ block 0 0 [] is 14 at 0
    -- 13 before 15, 15 before 16, 16 before 17 and 23, 23 and 24 before 18, 18 before 19
    ∷ (atom ++ record' 2 (0 ∷ 0 ∷ 0 ∷ [])) is 13 at 10
    ∷ (block 2 1 [] ++ assembly (most_placements + 1) (first ++ joins_to most_placements)) is 15 at 10
    ∷ (block 2 1 [] ++ assembly 1 (join_to 1 1 1)) is 16 at 16
    ∷ (atom ++ assembly 2 (first ++ 9 ∷ 0 ∷ 0 ∷ 0 ∷ 0 ∷ 0 ∷ [])) is 16 at 22
    ∷ (atom ++ assembly 2 (first ++ join_to 0 0 0)) is 23 at 22
    ∷ (atom ++ assembly 2 (first ++ join_to 2 0 0)) is 24 at 22
    ∷ (block 1 (limit + 1) (star limit) ++ assembly 2 (first ++ join_to 1 1 0)) is 18 at (22 + 2 * limit)
    -- an earlier placement before a later one, a placement before 11 for what follows
    ∷ (block 1 (limit + 1) (star limit) ++ assembly 3 (first ++ join_to 1 1 2 ++ 9 ∷ 0 ∷ 0 ∷ 0 ∷ 0 ∷ 0 ∷ [])) is 19 at (22 + 2 * limit)
    ∷ (block 2 1 [] ++ alone ++ 0 ∷ []) is 16 at 16
    ∷ []

in_order : map (λ (c : Case). told Composed c.deck) orders ≡ map (λ (c : Case). c.number ∷ c.place ∷ []) orders
unfolding told orders ◌is◌at◌ record' block assembly sheet five atom first join_to alone atoms star joins_to
in_order = refl

-- 20 needs no list of 32,769 bytes
pub too_long : (form : Form) (d : List ℕ) → longest_deck < length d → deck_reply form d ≡ refused (refusal 20 0)
unfolding deck_reply
too_long form d h = rw (lt-ltb longest_deck (length d) h)

-- the lookup: the payload in either form and with either sheet, nothing for another number, nothing of a refused deck
looked : List ℕ → ℕ → List ℕ
unfolding joins any_joins bonded any_atom reaches first_from distance all_atoms connected degree sum bonds_of bond_fault bonds_reply block_reply little kind_reply is_wrong length_reply record_reply find book_of placement_at join_of join_ends joins_on bonds_on first_fault parent_fault join_fault later_fault fault placements_reply assembly_reply block_reply_at assembly_reply_at blocks_from blocks_reply end_reply sheet_reply deck_reply payload block_span
looked d x = block_part d x

lookups :
    (looked (atom ++ alone) 1 ∷ looked (atom ++ alone ++ sheet 1 0 0 0 0) 1 ∷ looked (atom ++ alone ++ wider 1 0 0 0 0 0) 1 ∷ looked (atom ++ alone) 2 ∷ looked (atom ++ alone) 0 ∷ looked atom 1 ∷ [])
    ≡ ((1 ∷ 0 ∷ 1 ∷ 0 ∷ 0 ∷ 0 ∷ []) ∷ (1 ∷ 0 ∷ 1 ∷ 0 ∷ 0 ∷ 0 ∷ []) ∷ (1 ∷ 0 ∷ 1 ∷ 0 ∷ 0 ∷ 0 ∷ []) ∷ [] ∷ [] ∷ [] ∷ [])
unfolding looked atom alone block assembly sheet wider five sixth record' first
lookups = refl

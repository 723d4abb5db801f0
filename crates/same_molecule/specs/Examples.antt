-- Laws. Biphenyl's skeleton by computing: the rules' deck of two rings of 6 against twelve atoms drawn from one end to the other, and a damaged matching or list for
-- each kind of place.
use Rattle.std.specs.Prelude.{ℕ, List, [], ◌∷◌, ◌++◌, ◌≡◌, refl, take, set}
use Rattle.graph.specs.Graph.{joins, any_joins, bonded, any_atom, reaches, first_from, distance, all_atoms, connected, degree, sum}
use Rattle.graph.specs.Assembly.{shifted, joined, start_at, written}
use Rattle.reply.specs.Read.{Read, refused, read, refusal}
use Rattle.block.specs.Block.{bonds_of, bond_fault, bonds_reply, block_reply}
use Rattle.records.specs.Bytes.{little}
use Rattle.records.specs.Records.{kind_reply, is_wrong, length_reply, record_reply}
use Rattle.assembly.specs.Book.{find, book_of}
use Rattle.assembly.specs.Placements.{placement_at, join_of, join_ends, joins_on, bonds_on, first_fault, parent_fault, join_fault, later_fault, fault, placements_reply, assembly_reply}
use Rattle.deck.specs.Deck.{block_reply_at, assembly_reply_at, blocks_from, blocks_reply, end_reply, sheet_reply, deck_reply}
use Rattle.deck.specs.Examples.{document}
use Rattle.deck.specs.Molecule.{placed_in, graph_at, join_at, molecule_of}
use Rattle.deck.specs.Placed.{is_missing}
use Rattle.matched.specs.Matched.{placed_number, partners, partner, is_lost, is_loose, carried, is_unlisted, first_atom, first_bond, match_place, match_answer, match_reply}
use Rattle.matched.specs.declared.Match.{Match}
use Rattle.matched.specs.declared.Match.TheVariants as told
use Rattle.same_molecule.specs.Same.{Same, matched_renumbered}

-- atoms 1 to 6 are a ring, 7 to 12 another, 7 and 4 are bonded
abbrev drawn : List ℕ
drawn = 1 ∷ 2 ∷ 2 ∷ 3 ∷ 3 ∷ 4 ∷ 4 ∷ 5 ∷ 5 ∷ 6 ∷ 6 ∷ 1 ∷ 7 ∷ 4 ∷ 7 ∷ 8 ∷ 9 ∷ 8 ∷ 9 ∷ 10 ∷ 10 ∷ 11 ∷ 11 ∷ 12 ∷ 12 ∷ 7 ∷ []

-- the joined atom of the first ring is atom 4 of the drawing, and so on round the ring
abbrev matching : List ℕ
matching = 1 ∷ 4 ∷ 1 ∷ 3 ∷ 1 ∷ 2 ∷ 1 ∷ 1 ∷ 1 ∷ 6 ∷ 1 ∷ 5 ∷ 2 ∷ 1 ∷ 2 ∷ 2 ∷ 2 ∷ 3 ∷ 2 ∷ 4 ∷ 2 ∷ 5 ∷ 2 ∷ 6 ∷ []

asked : ℕ → List ℕ → List ℕ → Read Match
unfolding document joins any_joins bonded any_atom reaches first_from distance all_atoms connected degree sum bonds_of bond_fault bonds_reply block_reply little kind_reply is_wrong length_reply record_reply find book_of placement_at join_of join_ends joins_on bonds_on first_fault parent_fault join_fault later_fault fault placements_reply assembly_reply block_reply_at assembly_reply_at blocks_from blocks_reply end_reply sheet_reply deck_reply shifted joined start_at written placed_in graph_at join_at molecule_of is_missing placed_number partners partner is_lost is_loose carried is_unlisted first_atom first_bond match_place match_answer match_reply
asked atoms bonds m = match_reply document atoms bonds m

-- the same molecule; and so with an odd last number
biphenyl : (asked 12 drawn matching ≡ read told.Same) × (asked 12 (drawn ++ 5 ∷ []) matching ≡ read told.Same)
unfolding asked
biphenyl = (refl, refl)

pub biphenyl_same : Same document 12 drawn
unfolding asked
biphenyl_same = matched_renumbered document 12 drawn matching biphenyl.0

-- 23 numbers for twelve atoms; eleven atoms
short : (asked 12 drawn (take 23 matching) ≡ refused (refusal 9 0)) × (asked 11 drawn matching ≡ read (told.Differs 0))
unfolding asked
short = (refl, refl)

-- atom 5 is matched to a seventh atom of a ring of six; atom 6 to the partner of atom 5
lost : (asked 12 drawn (set matching 9 7) ≡ read (told.Differs 5)) × (asked 12 drawn (set matching 11 6) ≡ read (told.Differs 6))
unfolding asked
lost = (refl, refl)

-- the partners of atoms 11 and 12 are exchanged: bond 11 of the list, 10 to 11, is none of the deck. Bond 13 ends at an atom 13
loose : (asked 12 drawn (set (set matching 21 6) 23 5) ≡ read (told.Differs 23)) × (asked 12 (set drawn 25 13) matching ≡ read (told.Differs 25))
unfolding asked
loose = (refl, refl)

-- the last bond is left out: the list has 12, and it is the deck's twelfth
new : asked 12 (take 24 drawn) matching ≡ read (told.Differs 36)
unfolding asked
new = refl

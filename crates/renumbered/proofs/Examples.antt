-- Laws. Worked examples, computed from the definitions: biphenyl's skeleton from two blocks and from one, a block listed another way, and what is no renumbering. Assumes nothing.
use Rattle.std.specs.Prelude.{ℕ, ◌≤◌, false, List, [], ◌∷◌, ◌++◌, ◌≡◌, refl, length, take, replicate}
use Rattle.std.proofs.Common.{arith}
use Rattle.graph.specs.Graph.{Graph, joins, any_joins, bonded, any_atom, reaches, first_from, distance, all_atoms, connected, degree, sum, sum_pairs, sum_bonds, itself, even_of, odd_of, is_at, total}
use Rattle.graph.specs.Farthest.{most, most_pairs, largest}
use Rattle.graph.specs.Assembly.{shifted, joined, start_at, written}
use Rattle.graph.specs.Paths.{gather, walks, shortest_paths, uses, passing_paths, path_count, paths_using, lcm, lcm_over, lcm_pairs, denominator, share}
use Rattle.reply.specs.Read.{read}
use Rattle.block.specs.Block.{bonds_of, graph_of, bond_fault, bonds_reply, block_reply}
use Rattle.block.specs.Told.{molecule}
use Rattle.block.specs.Index.{indices_of}
use Rattle.shares.specs.Reply.{shares_reply, shares_entries}
use Rattle.shares.specs.Reply as shares
use Rattle.szeged.specs.Szeged.{closer, nearer, szeged_term}
use Rattle.szeged.specs.Reply.{szeged_reply, szeged_entries}
use Rattle.szeged.specs.Reply as szeged
use Rattle.records.specs.Bytes.{little}
use Rattle.records.specs.Records.{kind_reply, is_wrong, length_reply, record_reply}
use Rattle.records.specs.declared.Sheet.{Sheet}
use Rattle.records.specs.declared.Sheet.TheVariants.{Five, Six}
use Rattle.assembly.specs.Book.{find, book_of}
use Rattle.assembly.specs.Placements.{placement_at, join_of, join_ends, joins_on, bonds_on, first_fault, parent_fault, join_fault, later_fault, fault, placements_reply, assembly_reply}
use Rattle.deck.specs.Deck.{Deck, block_reply_at, assembly_reply_at, blocks_from, blocks_reply, end_reply, sheet_reply, deck_reply}
use Rattle.deck.specs.Molecule.{placed_in, graph_at, join_at, molecule_of}
use Rattle.deck.specs.Examples.{document}
use Rattle.deck.specs.declared.Form.TheVariants.{Composed}
use Rattle.sheets.specs.Sheets.{all_fields, fields_of, sheet_of, sheet_bytes}
use Rattle.judging.specs.Judging.{judge_reply, said_verdict, sheet_write_reply, sheet_out}
use Rattle.judging.specs.declared.Verdict.TheVariants.{Accepted}
use Rattle.renumbered.specs.Renumbered.{Renumbered, RelistedBlocks, RelistedDecks}
use Rattle.renumbered.proofs.Distances.{same_total}
use Rattle.graph.proofs.MatchedLaws.{same_size}
use Rattle.renumbered.specs.Decided.{leads_home, all_carried, is_renumbered, listed, renumbered_by}
use Rattle.renumbered.proofs.DecksLaws.{same_sheet, exchanged}

-- Document 01's deck: a ring of six, placed twice and joined at its first atoms. And the same molecule as one block of twelve atoms, drawn from one end to the other.
unfoldable pub drawn : List ℕ
drawn =
    32 ∷ 0 ∷ 1 ∷ 0 ∷ 1 ∷ 0 ∷ 12 ∷ 0 ∷ 13 ∷ 0
    ∷ 1 ∷ 2 ∷ 2 ∷ 3 ∷ 3 ∷ 4 ∷ 4 ∷ 5 ∷ 5 ∷ 6 ∷ 6 ∷ 1 ∷ 7 ∷ 4 ∷ 7 ∷ 8 ∷ 9 ∷ 8 ∷ 9 ∷ 10 ∷ 10 ∷ 11 ∷ 11 ∷ 12 ∷ 12 ∷ 7
    ∷ 8 ∷ 0 ∷ 2 ∷ 0 ∷ 1 ∷ 0 ∷ 1 ∷ 0 ∷ 0 ∷ 0 ∷ 0 ∷ 0 ∷ []

abbrev document_deck : Deck
document_deck = record { blocks = record { number = 1; start = 4; atoms = 6; bonds = 6 } ∷ []; assembly = 22; placements = 2; sheet = 40 }

abbrev drawn_deck : Deck
drawn_deck = record { blocks = record { number = 1; start = 4; atoms = 12; bonds = 13 } ∷ []; assembly = 36; placements = 1; sheet = 48 }

document-read : deck_reply Composed document ≡ read document_deck
unfolding document joins any_joins bonded any_atom reaches first_from distance all_atoms connected degree sum bonds_of bond_fault bonds_reply block_reply little kind_reply is_wrong length_reply record_reply find book_of placement_at join_of join_ends joins_on bonds_on first_fault parent_fault join_fault later_fault fault placements_reply assembly_reply block_reply_at assembly_reply_at blocks_from blocks_reply end_reply sheet_reply deck_reply
document-read = refl

drawn-read : deck_reply Composed drawn ≡ read drawn_deck
unfolding drawn joins any_joins bonded any_atom reaches first_from distance all_atoms connected degree sum bonds_of bond_fault bonds_reply block_reply little kind_reply is_wrong length_reply record_reply find book_of placement_at join_of join_ends joins_on bonds_on first_fault parent_fault join_fault later_fault fault placements_reply assembly_reply block_reply_at assembly_reply_at blocks_from blocks_reply end_reply sheet_reply deck_reply
drawn-read = refl

-- atom 1 of the first ring, which the joining bond is at, is atom 4 of the drawing, and so on round the ring
partners : List ℕ
partners = 4 ∷ 3 ∷ 2 ∷ 1 ∷ 6 ∷ 5 ∷ 7 ∷ 8 ∷ 9 ∷ 10 ∷ 11 ∷ 12 ∷ []

pub biphenyl : RelistedDecks Composed Composed document drawn
unfolding partners document drawn joins any_joins bonded all_atoms bonds_of little find book_of placement_at join_of shifted joined start_at written placed_in graph_at join_at molecule_of leads_home all_carried is_renumbered listed
biphenyl = record {
  first = document_deck;
  second = drawn_deck;
  one = document-read;
  two = drawn-read;
  renumbered = renumbered_by (molecule_of document document_deck) (molecule_of drawn drawn_deck) (listed partners) (listed partners) refl;
}

-- so both have one sheet of either kind, and each is accepted behind the other's deck
pub biphenyl_sheet : (kind : Sheet) → sheet_of kind (molecule_of document document_deck) ≡ sheet_of kind (molecule_of drawn drawn_deck)
unfolding biphenyl
biphenyl_sheet = same_sheet biphenyl

pub biphenyl_exchanged : (kind : Sheet) (out : List ℕ) → sheet_bytes kind ≤ length out
    → (said_verdict (judge_reply (drawn ++ take (sheet_bytes kind) (sheet_out kind out (sheet_write_reply kind document (length out))))) ≡ Accepted)
    × (said_verdict (judge_reply (document ++ take (sheet_bytes kind) (sheet_out kind out (sheet_write_reply kind drawn (length out))))) ≡ Accepted)
biphenyl_exchanged = exchanged biphenyl

-- by computing
pub drawn_fields :
    (sheet_of Five (molecule_of drawn drawn_deck) ≡ 12 ∷ 198 ∷ 96 ∷ 102 ∷ 14 ∷ []) × (sheet_of Six (molecule_of drawn drawn_deck) ≡ 12 ∷ 198 ∷ 96 ∷ 102 ∷ 14 ∷ 7 ∷ [])
unfolding drawn joins any_joins bonded any_atom reaches first_from distance sum bonds_of little find book_of placement_at join_of shifted joined start_at written sum_pairs even_of odd_of is_at total most most_pairs largest indices_of placed_in graph_at join_at molecule_of all_fields fields_of sheet_of
drawn_fields = (refl, refl)

-- a ring of four with a fifth atom on it; and with other numbers, its bonds in another order and some from the other end
unfoldable pub ringed : List ℕ
ringed = 1 ∷ 2 ∷ 2 ∷ 3 ∷ 3 ∷ 4 ∷ 4 ∷ 1 ∷ 1 ∷ 5 ∷ []

unfoldable pub ringed_again : List ℕ
ringed_again = 4 ∷ 3 ∷ 2 ∷ 5 ∷ 3 ∷ 1 ∷ 3 ∷ 2 ∷ 5 ∷ 1 ∷ []

pub ringed_relisted : RelistedBlocks 5 ringed 5 ringed_again
unfolding ringed ringed_again joins any_joins bonded any_atom reaches first_from distance all_atoms connected degree bonds_of bond_fault bonds_reply block_reply leads_home all_carried is_renumbered listed
ringed_relisted = record {
  one = refl;
  two = refl;
  renumbered = renumbered_by (graph_of 5 ringed) (graph_of 5 ringed_again) (listed (3 ∷ 1 ∷ 5 ∷ 2 ∷ 4 ∷ [])) (listed (2 ∷ 4 ∷ 1 ∷ 5 ∷ 3 ∷ [])) refl;
}

-- D is 2 and the Szeged index 28; the bond to the fifth atom is last in the one list and first in the other, and so is what is told of it
pub ringed_shares :
    (shares_reply 5 ringed 5 ≡ read 2) × (shares_entries 5 ringed (replicate 5 0) ≡ 7 ∷ 5 ∷ 5 ∷ 7 ∷ 8 ∷ []) × (shares_entries 5 ringed_again (replicate 5 0) ≡ 8 ∷ 5 ∷ 7 ∷ 7 ∷ 5 ∷ [])
unfolding ringed ringed_again joins any_joins bonded any_atom reaches first_from distance all_atoms connected degree sum sum_pairs bonds_of bond_fault bonds_reply block_reply gather walks shortest_paths uses passing_paths path_count paths_using lcm lcm_over lcm_pairs denominator share shares_reply shares.filled_shares
ringed_shares = (refl, refl, refl)

pub ringed_terms :
    (szeged_reply 5 ringed 5 ≡ read 28) × (szeged_entries 5 ringed (replicate 5 0) ≡ 6 ∷ 6 ∷ 6 ∷ 6 ∷ 4 ∷ []) × (szeged_entries 5 ringed_again (replicate 5 0) ≡ 4 ∷ 6 ∷ 6 ∷ 6 ∷ 6 ∷ [])
unfolding ringed ringed_again joins any_joins bonded any_atom reaches first_from distance all_atoms connected degree sum bonds_of bond_fault bonds_reply block_reply closer nearer szeged_term sum_bonds szeged_reply szeged.filled_terms
ringed_terms = (refl, refl, refl)

-- Each bond of a path of three is one of a ring of three, but not back: no numbering makes them the same, since W is 4 and 3.
abbrev path : Graph
path = graph_of 3 (1 ∷ 2 ∷ 2 ∷ 3 ∷ [])

abbrev ring : Graph
ring = graph_of 3 (1 ∷ 2 ∷ 2 ∷ 3 ∷ 3 ∷ 1 ∷ [])

pub one_way : is_renumbered path ring (λ v. v) (λ v. v) ≡ false
unfolding joins any_joins bonded all_atoms bonds_of leads_home all_carried is_renumbered
one_way = refl

pub path_no_ring : Renumbered path ring → ⊥
unfolding joins any_joins bonded any_atom reaches first_from distance all_atoms connected degree sum sum_pairs total bonds_of bond_fault bonds_reply block_reply
path_no_ring r = let e : ◌≡◌ {A = ℕ} 4 3 = same_total (molecule 3 (1 ∷ 2 ∷ 2 ∷ 3 ∷ []) refl) (molecule 3 (1 ∷ 2 ∷ 2 ∷ 3 ∷ 3 ∷ 1 ∷ []) refl) r itself in omega arith

-- and no numbering leaves an atom over
pub none_over : Renumbered (graph_of 2 (1 ∷ 2 ∷ [])) path → ⊥
none_over r = let e : ◌≡◌ {A = ℕ} 2 3 = same_size r.numbers in omega arith

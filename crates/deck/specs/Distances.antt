-- Laws. The rules' deck of two rings of 6, by computing: distances of its atoms, and a query about one that does not exist.
use Rattle.std.specs.Prelude.{ℕ, ◌≡◌, refl}
use Rattle.graph.specs.Graph.{joins, any_joins, bonded, any_atom, reaches, first_from, distance, all_atoms, connected, degree, sum}
use Rattle.graph.specs.Assembly.{shifted, joined, start_at, written}
use Rattle.reply.specs.Read.{Read, refused, read, refusal}
use Rattle.block.specs.Block.{bonds_of, bond_fault, bonds_reply, block_reply}
use Rattle.records.specs.Bytes.{little}
use Rattle.records.specs.Records.{kind_reply, is_wrong, length_reply, record_reply}
use Rattle.assembly.specs.Book.{find, book_of}
use Rattle.assembly.specs.Placements.{placement_at, join_of, join_ends, joins_on, bonds_on, first_fault, parent_fault, join_fault, later_fault, fault, assembly_reply}
use Rattle.assembly.specs.Placements as placements
use Rattle.deck.specs.Deck.{block_reply_at, assembly_reply_at, blocks_from, blocks_reply, end_reply, sheet_reply, deck_reply}
use Rattle.deck.specs.Examples.{document}
use Rattle.deck.specs.Molecule.{placed_in, graph_at, join_at, molecule_of}
use Rattle.deck.specs.Placed.{is_missing, placed_distance_reply}

asked : ℕ → ℕ → ℕ → ℕ → Read ℕ
unfolding document joins any_joins bonded any_atom reaches first_from distance all_atoms connected degree sum bonds_of bond_fault bonds_reply block_reply little kind_reply is_wrong length_reply record_reply find book_of placement_at join_of join_ends joins_on bonds_on first_fault parent_fault join_fault later_fault fault placements.placements_reply assembly_reply block_reply_at assembly_reply_at blocks_from blocks_reply end_reply sheet_reply deck_reply shifted joined start_at written placed_in graph_at join_at molecule_of is_missing placed_distance_reply
asked k i l j = placed_distance_reply document k i l j

-- from end to end, back, within one ring, and to a seventh atom and a third placement
across : asked 1 4 2 4 ≡ read 7
unfolding asked
across = refl

back : asked 2 2 1 1 ≡ read 2
unfolding asked
back = refl

within : asked 2 1 2 5 ≡ read 2
unfolding asked
within = refl

no_atom : asked 1 4 2 7 ≡ refused (refusal 18 0)
unfolding asked
no_atom = refl

no_placement : asked 3 1 1 1 ≡ refused (refusal 18 0)
unfolding asked
no_placement = refl

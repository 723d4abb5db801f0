-- Laws. Worked examples, computed. Assumes nothing.
use Rattle.std.specs.Prelude.{[], ◌∷◌, ◌≡◌, refl, get_or, Ok, Err}
use Rattle.graph.specs.Graph.{joins, any_joins, bonded, any_atom, reaches, first_from, distance, all_atoms, connected, degree, sum, sum_pairs, even_of, odd_of, is_at, total}
use Rattle.graph.specs.Farthest.{most, most_pairs, largest}
use Rattle.half.specs.Half.{table}
use Rattle.reply.specs.Read.{refusal, as_result}
use Rattle.block.specs.Block.{bonds_of, bond_fault, bonds_reply, drawn_reply, block_reply}
use Rattle.block.specs.Index.{indices_of, indices_reply}
use Rattle.block.specs.Opened.{neighbours_of, drawn_near}
use Rattle.block.specs.Rows.{no_row}

-- a path of three: W is 4; atom 2 is next to atoms 1 and 3
pub path : (as_result (indices_reply 3 (1 ∷ 2 ∷ 2 ∷ 3 ∷ [])) ≡ Ok (record { atoms = 3; w = 4; even = 2; odd = 2; polarity = 0; largest = 2 }))
    × (get_or (drawn_near 3 (1 ∷ 2 ∷ 2 ∷ 3 ∷ [])) 1 0 ≡ 5)
unfolding drawn_reply drawn_near indices_reply indices_of neighbours_of table block_reply bonds_reply bond_fault bonds_of joins any_joins bonded any_atom reaches first_from distance all_atoms connected degree sum sum_pairs even_of odd_of is_at total most most_pairs largest
path = (refl, refl)

-- two atoms without a bond; an atom that is not there, after which all lent sets are empty
pub apart : (as_result (indices_reply 2 []) ≡ Err (refusal 7 0)) × (as_result (indices_reply 2 (1 ∷ 3 ∷ [])) ≡ Err (refusal 3 1)) × (drawn_near 2 (1 ∷ 3 ∷ []) ≡ no_row)
unfolding drawn_reply drawn_near indices_reply neighbours_of block_reply bonds_reply bond_fault bonds_of joins any_joins bonded any_atom reaches first_from distance all_atoms connected
apart = (refl, refl, refl)

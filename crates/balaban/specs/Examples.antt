-- Laws. Worked examples: one atom, a path of 4, a ring of 6 and naphthalene in document 001's numbering, with the answer; and a refusal. Assumes nothing.
use Rattle.std.specs.Prelude.{ℕ, List, [], ◌∷◌, ◌≡◌, refl}
use Rattle.graph.specs.Graph.{joins, any_joins, bonded, any_atom, reaches, first_from, distance, all_atoms, connected, degree, sum, sum_bonds, vertex}
use Rattle.reply.specs.Read.{Read, refused, read, refusal}
use Rattle.block.specs.Block.{bonds_of, bond_fault, bonds_reply, block_reply}
use Rattle.balaban.specs.Balaban.{root_in, largest_root, term, reckoned, balaban_reply}

-- the definition, with all that it is made of
unfoldable pub told : ℕ → List ℕ → Read ℕ
unfolding joins any_joins bonded any_atom reaches first_from distance all_atoms connected degree sum vertex bonds_of bond_fault bonds_reply block_reply root_in largest_root term sum_bonds reckoned balaban_reply
told n xs = balaban_reply n xs

pub of_atom : told 1 [] ≡ read 0
unfolding told
of_atom = refl

pub of_path : told 4 (1 ∷ 2 ∷ 2 ∷ 3 ∷ 3 ∷ 4 ∷ []) ≡ read 1974744870
unfolding told
of_path = refl

pub of_ring : told 6 (1 ∷ 2 ∷ 2 ∷ 3 ∷ 3 ∷ 4 ∷ 4 ∷ 5 ∷ 5 ∷ 6 ∷ 6 ∷ 1 ∷ []) ≡ read 1999999998
unfolding told
of_ring = refl

pub of_naphthalene : told 10 (1 ∷ 10 ∷ 1 ∷ 2 ∷ 2 ∷ 3 ∷ 3 ∷ 8 ∷ 3 ∷ 4 ∷ 4 ∷ 5 ∷ 5 ∷ 6 ∷ 6 ∷ 7 ∷ 7 ∷ 8 ∷ 8 ∷ 9 ∷ 9 ∷ 10 ∷ []) ≡ read 1925367726
unfolding told
of_naphthalene = refl

-- two atoms with no bond: refusal 7
pub of_two_parts : told 2 [] ≡ refused (refusal 7 0)
unfolding told
of_two_parts = refl

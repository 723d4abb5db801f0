-- Laws. The definitions compute: methylcyclohexane, naphthalene, a ring of 5, a path, one atom, and too few entries. Assumes nothing.
use Prim.Native.Nat.{ℕ}
use mathlib.Core.List.{List, [], ◌∷◌}
use mathlib.Core.Path.{◌≡◌, refl}
use lib.ListN.{replicate}
use Rattle.graph.specs.Graph.{joins, any_joins, bonded, any_atom, reaches, first_from, distance, all_atoms, connected, degree, sum, sum_bonds}
use Rattle.reply.specs.Read.{refused, read, refusal}
use Rattle.block.specs.Block.{bonds_of, bond_fault, bonds_reply, block_reply}
use Rattle.szeged.specs.Szeged.{closer, nearer, szeged_term}
use Rattle.szeged.specs.Reply.{szeged_reply, filled_terms, szeged_entries}

-- a ring of 6 with an atom on it
unfoldable pub methylcyclohexane : List ℕ
methylcyclohexane = 1 ∷ 2 ∷ 2 ∷ 3 ∷ 3 ∷ 4 ∷ 4 ∷ 5 ∷ 5 ∷ 6 ∷ 6 ∷ 1 ∷ 1 ∷ 7 ∷ []

-- two rings of 6 that share a bond
unfoldable pub naphthalene : List ℕ
naphthalene = 1 ∷ 2 ∷ 2 ∷ 3 ∷ 3 ∷ 4 ∷ 4 ∷ 5 ∷ 5 ∷ 6 ∷ 6 ∷ 1 ∷ 5 ∷ 7 ∷ 7 ∷ 8 ∷ 8 ∷ 9 ∷ 9 ∷ 10 ∷ 10 ∷ 6 ∷ []

pub of_methylcyclohexane : (szeged_reply 7 methylcyclohexane 8 ≡ read 78)
    × (szeged_entries 7 methylcyclohexane (replicate 8 5) ≡ 12 ∷ 12 ∷ 12 ∷ 12 ∷ 12 ∷ 12 ∷ 6 ∷ 5 ∷ [])
unfolding methylcyclohexane joins any_joins bonded any_atom reaches first_from distance all_atoms connected degree sum bonds_of bond_fault bonds_reply block_reply closer nearer szeged_term sum_bonds szeged_reply filled_terms
of_methylcyclohexane = (refl, refl)

pub of_naphthalene : szeged_reply 10 naphthalene 11 ≡ read 243
unfolding naphthalene joins any_joins bonded any_atom reaches first_from distance all_atoms connected degree sum bonds_of bond_fault bonds_reply block_reply closer nearer szeged_term sum_bonds szeged_reply
of_naphthalene = refl

-- a ring of 5: the atom that is as far from both ends of a bond counts for neither
pub of_ring : szeged_entries 5 (1 ∷ 2 ∷ 2 ∷ 3 ∷ 3 ∷ 4 ∷ 4 ∷ 5 ∷ 5 ∷ 1 ∷ []) (replicate 5 0) ≡ replicate 5 4
unfolding joins any_joins bonded any_atom reaches first_from distance all_atoms connected degree sum bonds_of bond_fault bonds_reply block_reply closer nearer szeged_term sum_bonds szeged_reply filled_terms
of_ring = refl

-- a path of 4: W is 10 too
pub of_path : szeged_reply 4 (1 ∷ 2 ∷ 2 ∷ 3 ∷ 3 ∷ 4 ∷ []) 3 ≡ read 10
unfolding joins any_joins bonded any_atom reaches first_from distance all_atoms connected degree sum bonds_of bond_fault bonds_reply block_reply closer nearer szeged_term sum_bonds szeged_reply
of_path = refl

pub of_one : szeged_reply 1 [] 0 ≡ read 0
unfolding any_atom reaches first_from distance all_atoms connected bonds_of bonds_reply block_reply sum_bonds szeged_reply
of_one = refl

pub too_short : szeged_reply 2 (1 ∷ 2 ∷ []) 0 ≡ refused (refusal 9 0)
unfolding joins any_joins bonded any_atom reaches first_from distance all_atoms connected degree bonds_of bond_fault bonds_reply block_reply szeged_reply
too_short = refl

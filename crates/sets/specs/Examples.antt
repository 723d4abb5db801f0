-- Laws. The definitions compute: one atom, paths, a star, a branched tree, a ring and a block in two parts. Assumes nothing.
use Rattle.std.specs.Prelude.{ℕ, List, [], ◌∷◌, map, ◌≡◌, refl}
use Rattle.graph.specs.Graph.{joins, any_joins, bonded, any_atom, reaches, first_from, distance, all_atoms, connected, degree}
use Rattle.reply.specs.Read.{Read, refused, read, refusal}
use Rattle.block.specs.Block.{bonds_of, graph_of, bond_fault, bonds_reply, block_reply}
use Rattle.sets.specs.Sets.{with_one, subsets, passing, some, apart, sets_apart, touches, share_atom, atoms_down, hosoya, merrifield_simmons}
use Rattle.sets.specs.Recursion.{Branch, child, children, product_of, sum_of, at_atom, branch, from_root}
use Rattle.sets.specs.Reply.{sets_of, tree_reply, sets_reply, sets_from_reply}
use Rattle.sets.specs.declared.Sets.{Sets}

unfoldable pub told : ℕ → List ℕ → Read Sets
unfolding joins any_joins bonded any_atom reaches first_from distance all_atoms connected degree bonds_of bond_fault bonds_reply block_reply with_one subsets passing some apart sets_apart touches share_atom atoms_down hosoya merrifield_simmons sets_of tree_reply sets_reply
told n xs = sets_reply n xs

abbrev pub of : ℕ → ℕ → Read Sets
of b a = read (record { bonds = b; atoms = a })

pub one_atom : told 1 [] ≡ of 1 2
unfolding told
one_atom = refl

pub path_of_4 : told 4 (1 ∷ 2 ∷ 2 ∷ 3 ∷ 3 ∷ 4 ∷ []) ≡ of 5 8
unfolding told
path_of_4 = refl

-- the same path, listed another way
pub path_again : told 4 (4 ∷ 1 ∷ 2 ∷ 3 ∷ 1 ∷ 3 ∷ []) ≡ of 5 8
unfolding told
path_again = refl

-- a star of 5, and a path of 5 with a branch at its second atom
pub star_of_5 : told 5 (1 ∷ 2 ∷ 1 ∷ 3 ∷ 1 ∷ 4 ∷ 1 ∷ 5 ∷ []) ≡ of 5 17
unfolding told
star_of_5 = refl

pub branched : told 6 (1 ∷ 2 ∷ 2 ∷ 3 ∷ 3 ∷ 4 ∷ 4 ∷ 5 ∷ 2 ∷ 6 ∷ []) ≡ of 11 23
unfolding told
branched = refl

-- a ring is no tree; a block's own refusal comes first
pub ring_of_3 : told 3 (1 ∷ 2 ∷ 2 ∷ 3 ∷ 3 ∷ 1 ∷ []) ≡ refused (refusal 34 0)
unfolding told
ring_of_3 = refl

pub two_parts : told 4 (1 ∷ 2 ∷ 2 ∷ 3 ∷ 3 ∷ 1 ∷ []) ≡ refused (refusal 7 0)
unfolding told
two_parts = refl

-- from a root that is named: the block's refusal, then 18 where there is no such atom, then 34
unfoldable pub told_from : ℕ → List ℕ → ℕ → Read Sets
unfolding joins any_joins bonded any_atom reaches first_from distance all_atoms connected degree bonds_of bond_fault bonds_reply block_reply tree_reply sets_from_reply
told_from n xs root = sets_from_reply n xs root

abbrev pub ring : List ℕ
ring = 1 ∷ 2 ∷ 2 ∷ 3 ∷ 3 ∷ 1 ∷ []

pub in_order : (told_from 4 ring 9 ∷ told_from 3 ring 9 ∷ told_from 3 ring 3 ∷ []) ≡ (refused (refusal 7 0) ∷ refused (refusal 18 0) ∷ refused (refusal 34 0) ∷ [])
unfolding told_from
in_order = refl

-- the recursion of [Ilić, Ilić] from each atom of the branched tree, and what it keeps of the first
unfoldable pub rooted : ℕ → List ℕ → ℕ → Branch
unfolding bonds_of child children product_of sum_of at_atom branch
rooted n xs root = from_root (graph_of n xs) root

abbrev pub kept : ℕ → ℕ → ℕ → ℕ → Branch
kept h hw i iw = record { h = h; hw = hw; i = i; iw = iw }

pub branched_roots : map (rooted 6 (1 ∷ 2 ∷ 2 ∷ 3 ∷ 3 ∷ 4 ∷ 4 ∷ 5 ∷ 2 ∷ 6 ∷ [])) (1 ∷ 2 ∷ 3 ∷ 4 ∷ 5 ∷ 6 ∷ [])
    ≡ kept 11 8 23 13 ∷ kept 11 3 23 20 ∷ kept 11 6 23 15 ∷ kept 11 4 23 18 ∷ kept 11 7 23 14 ∷ kept 11 8 23 13 ∷ []
unfolding rooted
branched_roots = refl

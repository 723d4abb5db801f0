-- Laws. The definitions compute: the rules' values for a ring of 6 and for two rings of 6 as one block, and a block for each refusal. Assumes nothing.
use Rattle.std.specs.Prelude.{ℕ, zero, suc, ◌+◌, List, [], ◌∷◌, ◌++◌, ◌≡◌, refl, replicate}
use Rattle.graph.specs.Graph.{joins, any_joins, bonded, any_atom, reaches, first_from, distance, all_atoms, connected, degree, sum, sum_pairs, even_of, odd_of, even_one, odd_one, is_at, total, vertex}
use Rattle.graph.specs.Farthest.{most, most_pairs, farthest, largest}
use Rattle.reply.specs.Read.{Read, refused, read, refusal}
use Rattle.block.specs.Block.{most_atoms, limit, most_bytes, bonds_of, bond_fault, bonds_reply, block_reply}
use Rattle.block.specs.Index.{indices_of, indices_reply, vertex_of, vertex_reply, distance_reply}

unfoldable pub ring : List ℕ
ring = 1 ∷ 2 ∷ 2 ∷ 3 ∷ 3 ∷ 4 ∷ 4 ∷ 5 ∷ 5 ∷ 6 ∷ 6 ∷ 1 ∷ []

unfoldable pub rings : List ℕ
rings = 1 ∷ 2 ∷ 2 ∷ 3 ∷ 3 ∷ 4 ∷ 4 ∷ 5 ∷ 5 ∷ 6 ∷ 6 ∷ 1 ∷ 7 ∷ 8 ∷ 8 ∷ 9 ∷ 9 ∷ 10 ∷ 10 ∷ 11 ∷ 11 ∷ 12 ∷ 12 ∷ 7 ∷ 1 ∷ 7 ∷ []

pub of_ring : indices_reply 6 ring ≡ read (record { atoms = 6; w = 27; even = 12; odd = 15; polarity = 3; largest = 3 })
unfolding ring joins any_joins bonded any_atom reaches first_from distance all_atoms connected degree sum sum_pairs even_of odd_of is_at total most most_pairs largest bonds_of bond_fault bonds_reply block_reply indices_of indices_reply
of_ring = refl

pub of_rings : indices_reply 12 rings ≡ read (record { atoms = 12; w = 198; even = 96; odd = 102; polarity = 14; largest = 7 })
unfolding rings joins any_joins bonded any_atom reaches first_from distance all_atoms connected degree sum sum_pairs even_of odd_of is_at total most most_pairs largest bonds_of bond_fault bonds_reply block_reply indices_of indices_reply
of_rings = refl

pub of_atom : vertex_reply 6 ring 2 ≡ read (record { sum = 9; even = 4; odd = 5; evens = 3; odds = 3; ones = 2; twos = 2; farthest = 3 })
unfolding ring joins any_joins bonded any_atom reaches first_from distance all_atoms connected degree sum even_of odd_of even_one odd_one is_at vertex most farthest bonds_of bond_fault bonds_reply block_reply vertex_of vertex_reply
of_atom = refl

-- an answer of 18 comes after the block's own refusals
pub no_atom : distance_reply 6 ring 1 7 ≡ refused (refusal 18 0)
unfolding ring joins any_joins bonded any_atom reaches first_from distance all_atoms connected degree bonds_of bond_fault bonds_reply block_reply distance_reply
no_atom = refl

-- the refusals 1 to 7
pub no_atoms : block_reply 0 [] ≡ refused (refusal 1 0)
unfolding block_reply
no_atoms = refl

pub too_many : block_reply (most_atoms + 1) [] ≡ refused (refusal 1 0)
unfolding block_reply
too_many = refl

pub odd_bytes : block_reply 2 (1 ∷ []) ≡ refused (refusal 2 0)
unfolding block_reply
odd_bytes = refl

pub long_bytes : block_reply 2 (replicate (most_bytes + 2) 1) ≡ refused (refusal 2 0)
unfolding block_reply
long_bytes = refl

pub beyond : block_reply 2 (1 ∷ 2 ∷ 2 ∷ 3 ∷ []) ≡ refused (refusal 3 2)
unfolding joins any_joins degree bonds_of bond_fault bonds_reply block_reply
beyond = refl

pub itself : block_reply 2 (2 ∷ 2 ∷ []) ≡ refused (refusal 4 1)
unfolding joins any_joins degree bonds_of bond_fault bonds_reply block_reply
itself = refl

pub again : block_reply 2 (1 ∷ 2 ∷ 2 ∷ 1 ∷ []) ≡ refused (refusal 5 2)
unfolding joins any_joins degree bonds_of bond_fault bonds_reply block_reply
again = refl

-- one bond more than the limit, at atom 1
unfoldable pub star : ℕ → List ℕ
star zero = []
star (suc k) = 1 ∷ suc (suc k) ∷ star k

pub one_more : block_reply (limit + 2) (star (limit + 1)) ≡ refused (refusal 6 (limit + 1))
unfolding star joins any_joins degree bonds_of bond_fault bonds_reply block_reply
one_more = refl

pub apart : block_reply 7 ring ≡ refused (refusal 7 0)
unfolding ring joins any_joins bonded any_atom reaches first_from distance all_atoms connected degree bonds_of bond_fault bonds_reply block_reply
apart = refl

-- Where two are due: 1 before 2, 2 before a bond's; with atom 1 full, 3, 4 and 5 before 6; 3 before 4; an earlier bond before a later one; a bond's before 7.
-- (4 and 5 are never due at once: no bond of an atom with itself has passed.)
unfoldable pub full_and : ℕ → ℕ → Read (Unit {0})
unfolding star joins any_joins degree bonds_of bond_fault bonds_reply block_reply
full_and a b = block_reply (limit + 1) (star limit ++ a ∷ b ∷ [])

pub in_order :
    (block_reply 0 (1 ∷ []) ∷ block_reply 1 (9 ∷ 9 ∷ 9 ∷ []) ∷ full_and 1 99 ∷ full_and 1 1 ∷ full_and 2 1 ∷ block_reply 2 (9 ∷ 9 ∷ [])
    ∷ block_reply 2 (1 ∷ 2 ∷ 2 ∷ 1 ∷ 9 ∷ 9 ∷ []) ∷ block_reply 4 (1 ∷ 2 ∷ 1 ∷ 1 ∷ []) ∷ [])
    ≡ (refused (refusal 1 0) ∷ refused (refusal 2 0) ∷ refused (refusal 3 (limit + 1)) ∷ refused (refusal 4 (limit + 1)) ∷ refused (refusal 5 (limit + 1)) ∷ refused (refusal 3 1)
    ∷ refused (refusal 5 2) ∷ refused (refusal 4 2) ∷ [])
unfolding full_and joins any_joins degree bonds_of bond_fault bonds_reply block_reply
in_order = refl

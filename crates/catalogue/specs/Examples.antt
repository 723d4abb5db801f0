-- Work. A ring of six with two sites, and a deck for each refusal with its place, by computing.
use Rattle.std.specs.Prelude.{ℕ, zero, suc, ◌+◌, ◌*◌, ◌/◌, ◌%◌, ◌≡◌, refl, List, [], ◌∷◌, ◌++◌, map, length}
use Rattle.graph.specs.Graph.{joins, any_joins, bonded, any_atom, reaches, first_from, distance, all_atoms, connected, degree, sum, sum_pairs, even_of, odd_of, is_at, total}
use Rattle.graph.specs.Assembly.{shifted, joined, start_at, written}
use Rattle.reply.specs.Read.{Read, refused, read}
use Rattle.block.specs.Block.{limit, bonds_of, bond_fault, bonds_reply, block_reply}
use Rattle.block.specs.Index.{indices_of}
use Rattle.records.specs.Bytes.{little}
use Rattle.records.specs.Records.{kind_reply, is_wrong, length_reply, record_reply}
use Rattle.assembly.specs.Book.{find, book_of}
use Rattle.assembly.specs.Placements.{placement_at, join_of}
use Rattle.deck.specs.Deck.{block_reply_at, blocks_from, blocks_reply, open_reply, end_reply}
use Rattle.catalogue.specs.Library.{most_sites, most_candidates, is_taken, candidate_fault, candidates_fault, site_fault, sites_from, sites_reply, after_blocks, library_reply}
use Rattle.catalogue.specs.Products.{products, choice_at, placed_bytes, product_bytes, molecule_over, product_at, Product, done, made, product_reply}

-- a record of a kind, a block, a library of some sites, a site of some candidates, a candidate
record' : ℕ → List ℕ → List ℕ
record' kind xs = length xs % 256 ∷ length xs / 256 ∷ kind ∷ 0 ∷ xs

block : ℕ → ℕ → List ℕ → List ℕ
unfolding record'
block number n bonds = record' 1 (number ∷ 0 ∷ n ∷ 0 ∷ length bonds / 2 ∷ 0 ∷ bonds)

library : ℕ → ℕ → List ℕ → List ℕ
unfolding record'
library core n sites = record' 5 (core ∷ 0 ∷ n ∷ 0 ∷ sites)

site : ℕ → ℕ → List ℕ → List ℕ
site atom many candidates = atom ∷ many ∷ candidates

by : ℕ → ℕ → List ℕ
by number atom = number ∷ 0 ∷ atom ∷ []

-- a ring of six, of number 1, and one atom, of number 2
blocks : List ℕ
unfolding block record'
blocks = block 1 6 (1 ∷ 2 ∷ 2 ∷ 3 ∷ 3 ∷ 4 ∷ 4 ∷ 5 ∷ 5 ∷ 6 ∷ 6 ∷ 1 ∷ []) ++ block 2 1 []

-- the atom or another ring at atom 1, the atom at atom 4
two : List ℕ
two = 17 ∷ 0 ∷ 5 ∷ 0 ∷ 1 ∷ 0 ∷ 2 ∷ 0 ∷ 1 ∷ 2 ∷ 2 ∷ 0 ∷ 1 ∷ 1 ∷ 0 ∷ 1 ∷ 4 ∷ 1 ∷ 2 ∷ 0 ∷ 1 ∷ []

same_bytes : two ≡ library 1 2 (site 1 2 (by 2 1 ++ by 1 1) ++ site 4 1 (by 2 1))
unfolding two library record' site by
same_bytes = refl

-- what is said of a position: the number and the place of a refusal; nothing where all is done; five fields of the product
said : Read Product → List ℕ
said (refused r) = r.number ∷ r.place ∷ []
said (read done) = []
said (read (made x)) = x.atoms ∷ x.w ∷ x.even ∷ x.odd ∷ x.polarity ∷ []

step : List ℕ → ℕ → List ℕ
unfolding said joins any_joins bonded any_atom reaches first_from distance all_atoms connected degree sum bonds_of bond_fault bonds_reply block_reply little kind_reply is_wrong length_reply record_reply find book_of placement_at join_of block_reply_at blocks_from blocks_reply open_reply end_reply shifted joined start_at written sum_pairs even_of odd_of is_at total indices_of is_taken candidate_fault candidates_fault site_fault sites_from sites_reply after_blocks library_reply products choice_at placed_bytes product_bytes molecule_over product_at product_reply
step d position = said (product_reply d position)

steps : (step (blocks ++ two) 0 ∷ step (blocks ++ two) 1 ∷ step (blocks ++ two) 2 ∷ step (blocks ++ two) 9 ∷ [])
    ≡ ((8 ∷ 62 ∷ 28 ∷ 34 ∷ 7 ∷ []) ∷ (13 ∷ 252 ∷ 124 ∷ 128 ∷ 16 ∷ []) ∷ [] ∷ [] ∷ [])
unfolding step blocks two block record'
steps = refl

-- the last site turns fastest: two, three and one candidates
turns : map (choice_at (
    record { atom = 3; many = 1; first = 0 }
    ∷ record { atom = 2; many = 3; first = 0 }
    ∷ record { atom = 1; many = 2; first = 0 }
    ∷ [])) (0 ∷ 1 ∷ 2 ∷ 3 ∷ 4 ∷ 5 ∷ [])
    ≡ (0 ∷ 0 ∷ 0 ∷ []) ∷ (0 ∷ 1 ∷ 0 ∷ []) ∷ (0 ∷ 2 ∷ 0 ∷ []) ∷ (0 ∷ 0 ∷ 1 ∷ []) ∷ (0 ∷ 1 ∷ 1 ∷ []) ∷ (0 ∷ 2 ∷ 1 ∷ []) ∷ []
unfolding choice_at
turns = refl

-- a deck that is refused, with the number and the place
record Case : Type 0 where
  deck : List ℕ
  number : ℕ
  place : ℕ

infix 90 ◌is◌at◌
◌is◌at◌ : List ℕ → ℕ → ℕ → Case
d is n at p = record { deck = d; number = n; place = p }

star : ℕ → List ℕ
star zero = []
star (suc n) = 1 ∷ (n + 2) ∷ star n

-- block 3, whose atom 1 has as many bonds as it may: 10 + 2 * limit bytes
full : List ℕ
unfolding block record' star
full = block 3 (limit + 1) (star limit)

cases : List Case
unfolding ◌is◌at◌ record' block library site by blocks full star
cases =
    -- no record, another kind, the library first
    blocks is 11 at 32
    ∷ (blocks ++ record' 2 (1 ∷ 0 ∷ 1 ∷ 0 ∷ 0 ∷ 0 ∷ 0 ∷ 0 ∷ [])) is 12 at 32
    ∷ library 1 1 (site 1 1 (by 2 1)) is 12 at 0
    ∷ (blocks ++ 9 ∷ 0 ∷ 5 ∷ 0 ∷ 1 ∷ 0 ∷ 1 ∷ 0 ∷ []) is 11 at 32
    -- too short, no site, five sites, no such core
    ∷ (blocks ++ record' 5 (1 ∷ 0 ∷ 1 ∷ [])) is 13 at 32
    ∷ (blocks ++ library 9 0 []) is 31 at 32
    ∷ (blocks ++ library 1 (most_sites + 1) []) is 31 at 32
    ∷ (blocks ++ library 9 1 []) is 16 at 32
    -- a site: an end too early, no candidates, nine candidates, atoms that the core has not, an atom used twice
    ∷ (blocks ++ library 1 1 (0 ∷ [])) is 13 at 32
    ∷ (blocks ++ library 1 1 (site 0 0 [])) is 32 at 32
    ∷ (blocks ++ library 1 1 (site 7 (most_candidates + 1) [])) is 32 at 32
    ∷ (blocks ++ library 1 1 (site 7 1 [])) is 18 at 32
    ∷ (blocks ++ library 1 1 (site 0 1 (by 9 1))) is 18 at 32
    ∷ (blocks ++ library 1 2 (site 1 1 (by 2 1) ++ site 1 1 (by 9 1))) is 33 at 32
    ∷ (blocks ++ library 1 2 (site 1 1 (by 2 1) ++ site 1 0 [])) is 32 at 32
    -- a candidate: an end too early, no such block, atoms that it has not, one bond too many at the candidate or at the core
    ∷ (blocks ++ library 1 1 (site 1 2 (by 2 1 ++ 9 ∷ 0 ∷ []))) is 13 at 32
    ∷ (blocks ++ library 1 1 (site 1 2 (by 2 1 ++ by 9 7))) is 16 at 32
    ∷ (blocks ++ library 1 1 (site 1 1 (by 2 2))) is 18 at 32
    ∷ (blocks ++ library 1 1 (site 1 1 (by 2 0))) is 18 at 32
    ∷ (blocks ++ full ++ library 1 1 (site 1 2 (by 2 1 ++ by 3 1))) is 19 at (42 + 2 * limit)
    ∷ (blocks ++ full ++ library 3 1 (site 1 1 (by 2 2))) is 18 at (42 + 2 * limit)
    ∷ (blocks ++ full ++ library 3 1 (site 1 1 (by 2 1))) is 19 at (42 + 2 * limit)
    -- payload left over, bytes after the record
    ∷ (blocks ++ library 1 1 (site 1 1 (by 2 1) ++ 0 ∷ []) ++ 0 ∷ []) is 13 at 32
    ∷ (blocks ++ library 1 1 (site 1 1 (by 2 1)) ++ 0 ∷ []) is 11 at 45
    ∷ []

refusals : map (λ (c : Case). step c.deck 0) cases ≡ map (λ (c : Case). c.number ∷ c.place ∷ []) cases
unfolding step cases ◌is◌at◌ record' block library site by blocks full star
refusals = refl

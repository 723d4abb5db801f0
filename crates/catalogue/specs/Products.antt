-- Definitions. The products of a library: one for each choice of a candidate at each site, in order, the last site turning fastest. A product is the molecule of
-- the assembly written out.
use Rattle.std.specs.Prelude.{ℕ, suc, ◌+◌, ◌*◌, ◌-◌, ◌/◌, ◌%◌, List, [], ◌∷◌, ◌++◌, ltb, length}
use Rattle.graph.specs.Graph.{Graph}
use Rattle.graph.specs.Assembly.{written}
use Rattle.reply.specs.Read.{Read, read, ◌then◌, if_else}
use Rattle.block.specs.Index.{indices_of}
use Rattle.block.specs.declared.Indices.{Indices}
use Rattle.records.specs.Bytes.{byte_at}
use Rattle.records.specs.Records.{payload_at}
use Rattle.assembly.specs.Book.{Book, book_of}
use Rattle.assembly.specs.Placements.{placement_count, placement_at, graph_on, join_on}
use Rattle.catalogue.specs.Library.{Library, library_reply, candidate_at}
use Rattle.catalogue.specs.declared.Site.{Site}

-- The number of products: the product of the list lengths.
unfoldable pub products : List Site → ℕ
products [] = 1
products (s ∷ earlier) = products earlier * s.many

-- The choice at a position: for each site the index of a candidate, the last site's first. The last site turns fastest.
unfoldable pub choice_at : List Site → ℕ → List ℕ
choice_at [] position = []
choice_at (s ∷ earlier) position = position % s.many ∷ choice_at earlier (position / s.many)

-- The product of a choice, written out as the payload of an assembly. Placement 1 is the core; placement k + 1 the choice at site k, joined to placement 1.
abbrev pub core_bytes : List ℕ → List ℕ
core_bytes xs = byte_at xs 0 ∷ byte_at xs 1 ∷ 0 ∷ 0 ∷ 0 ∷ 0 ∷ []

abbrev pub join_bytes : List ℕ → Site → ℕ → List ℕ
join_bytes xs s j = let p = candidate_at s j in byte_at xs p ∷ byte_at xs (p + 1) ∷ 1 ∷ 0 ∷ s.atom ∷ byte_at xs (p + 2) ∷ []

unfoldable pub placed_bytes : List ℕ → List Site → List ℕ → List ℕ
placed_bytes xs [] choice = core_bytes xs
placed_bytes xs (s ∷ earlier) [] = core_bytes xs
placed_bytes xs (s ∷ earlier) (j ∷ choice) = placed_bytes xs earlier choice ++ join_bytes xs s j

unfoldable pub product_bytes : List ℕ → List Site → List ℕ → List ℕ
product_bytes xs sites choice = suc (length sites) ∷ 0 ∷ placed_bytes xs sites choice

abbrev pub assembly_at : List ℕ → Library → ℕ → List ℕ
assembly_at d l position = product_bytes (payload_at d l.at) l.sites (choice_at l.sites position)

-- the molecule of an assembly's payload over a book of blocks, with every atom and bond written out
unfoldable pub molecule_over : Book → List ℕ → Graph
molecule_over book xs = written (graph_on book (placement_at xs)) (join_on (placement_at xs)) (placement_count xs - 1)

-- the fields of the product at a position
unfoldable pub product_at : List ℕ → Library → ℕ → Indices
product_at d l position = indices_of (molecule_over (book_of d l.blocks) (assembly_at d l position))

-- how many products a library deck has
unfoldable pub count_reply : List ℕ → Read ℕ
count_reply d = library_reply d then λ l. read (products l.sites)

-- the product at a position: its fields, or that all are done; all refusals come before the position is looked at
pub data Product : Type 0 where
  done : Product
  made : Indices → Product

unfoldable pub product_reply : List ℕ → ℕ → Read Product
product_reply d position =
    library_reply d then λ l.
    if_else (ltb position (products l.sites)) (λ _. read (made (product_at d l position))) (λ _. read done)

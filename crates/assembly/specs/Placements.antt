-- Definitions. An assembly over a shelf, which says of each block just what is asked of it, wherever it stands: refusals 15 to 19, 23 and 24. A place is the
-- placement's number from 1, or 0.
use Rattle.std.specs.Prelude.{ℕ, zero, suc, ◌+◌, ◌*◌, ◌-◌, Bool, ◌&&◌, ◌||◌, not, cond, List, eqb, leb}
use Rattle.graph.specs.Graph.{Graph, degree, sum}
use Rattle.graph.specs.Assembly.{Join}
use Rattle.reply.specs.Read.{Read, read, ◌then◌, refuse_if, refuse_for, is_outside}
use Rattle.block.specs.Block.{limit}
use Rattle.records.specs.Bytes.{byte_at, le16}
use Rattle.records.specs.Records.{assembly_kind}
use Rattle.assembly.specs.Book.{Book}
use Rattle.assembly.specs.declared.Placement.{Placement}
use Rattle.assembly.specs.declared.JoinSite.{JoinSite}

abbrev pub most_placements : ℕ
most_placements = 32

-- What is asked of a block: its atom count, and how many bonds are at each atom; of one of its atoms, a `JoinSite`.
pub record Sites : Type 0 where
  pub atoms : ℕ
  pub ends : ℕ → ℕ

abbrev pub atom_site : Sites → ℕ → JoinSite
atom_site s a = record { atoms = s.atoms; ends = s.ends a }

pub record Shelf : Type 0 where
  pub has : ℕ → Bool
  pub sites : ℕ → Sites

-- what graphs say
abbrev pub sites_of : Graph → Sites
sites_of g = record { atoms = g.atoms; ends = degree g.bonds }

abbrev pub shelf_of : Book → Shelf
shelf_of book = record { has = book.has; sites = λ x. sites_of (book.graph x) }

-- An assembly's payload: placement count p (2), then p placements.
abbrev pub placement_count : List ℕ → ℕ
placement_count xs = le16 xs 0

-- Block number (2), parent placement (2), parent's atom (1), own atom (1). Placement number k stands at index k - 1.
unfoldable pub placement_at : List ℕ → ℕ → Placement
placement_at xs k =
    let at = assembly_kind.fixed + assembly_kind.item * k in
    record { block = le16 xs at; parent = le16 xs (at + 2); site = byte_at xs (at + 4); own = byte_at xs (at + 5) }

unfoldable pub join_of : Placement → Join
join_of q = record { parent = q.parent; site = q.site; own = q.own }

-- how many ends a join, of placement number k, has at atom a of placement number p
unfoldable pub join_ends : Join → ℕ → ℕ → ℕ → ℕ
join_ends j k p a = cond (eqb j.parent p && eqb j.site a) 1 0 + cond (eqb k p && eqb j.own a) 1 0

-- how many ends the joins at the indices 1 to `last` have there
unfoldable pub joins_on : (ℕ → Join) → ℕ → ℕ → ℕ → ℕ
joins_on joins last p a = sum last (λ k. join_ends (joins k) (suc k) p a)

-- the bonds on atom a of placement number p, which is of block g: the block's, and those joins
unfoldable pub bonds_on : Graph → (ℕ → Join) → ℕ → ℕ → ℕ → ℕ
bonds_on g joins last p a = degree g.bonds a + joins_on joins last p a

-- whether an atom with some bonds in its block has as many as it may, before the placement at index k is joined
abbrev pub is_full : ℕ → (ℕ → Join) → ℕ → ℕ → ℕ → Bool
is_full ends joins k p a = leb limit (ends + joins_on joins (k - 1) p a)

-- what is wrong with the first placement's join fields: 17 where one is not 0
unfoldable pub first_fault : Placement → ℕ
first_fault q = cond (eqb q.parent 0 && eqb q.site 0 && eqb q.own 0) 0 17

-- what is wrong with a later placement's parent that is none of the earlier placements: 23 where it is 0, 24 where it is not earlier
unfoldable pub parent_fault : ℕ → ℕ
parent_fault parent = cond (eqb parent 0) 23 24

-- what is wrong with the join at index k, from an atom of a placement, which has only its block's bonds yet, to one of an earlier one: 18, 19, or 0 for nothing
unfoldable pub join_fault : JoinSite → JoinSite → (ℕ → Join) → ℕ → ℕ
join_fault there here joins k =
    let j = joins k in
    cond (is_outside there.atoms j.site || is_outside here.atoms j.own) 18
    (cond (is_full there.ends joins k j.parent j.site || leb limit here.ends) 19 0)

abbrev pub join_on : (ℕ → Placement) → ℕ → Join
join_on placed k = join_of (placed k)

abbrev pub graph_on : Book → (ℕ → Placement) → ℕ → Graph
graph_on book placed k = book.graph (placed k).block

module _ (shelf : Shelf) (placed : ℕ → Placement) where
  abbrev pub sites_on : ℕ → Sites
  sites_on k = shelf.sites (placed k).block

  -- what is wrong with the placement at an index that is not 0: 23, 24, 18, 19, or 0
  unfoldable pub later_fault : ℕ → ℕ
  later_fault k =
      let q = placed k in
      cond (is_outside k q.parent) (parent_fault q.parent) (join_fault (atom_site (sites_on (q.parent - 1)) q.site) (atom_site (sites_on k) q.own) (join_on placed) k)

  -- what is wrong with the placement at an index: 16, or for the first and for later ones what follows
  unfoldable pub fault : ℕ → ℕ
  fault k = cond (not (shelf.has (placed k).block)) 16 (cond (eqb k 0) (first_fault (placed k)) (later_fault k))

-- `left` placements from index k on, one by one, by what is wrong with each
unfoldable pub placements_reply : (ℕ → ℕ) → ℕ → ℕ → Read (Unit {0})
placements_reply wrong k zero = read tt
placements_reply wrong k (suc left) = refuse_for (wrong k) (suc k) then λ _. placements_reply wrong (suc k) left

abbrev pub shelf_reply : Shelf → List ℕ → Read (Unit {0})
shelf_reply shelf xs =
    refuse_if (is_outside most_placements (placement_count xs)) 15 0 then λ _.
    placements_reply (fault shelf (placement_at xs)) 0 (placement_count xs)

unfoldable pub assembly_reply : Book → List ℕ → Read (Unit {0})
assembly_reply book xs = shelf_reply (shelf_of book) xs

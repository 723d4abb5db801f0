-- Definitions. A library: a core with one to four sites at different atoms, and one to eight candidates for each site. docs/RULES.md, "Libraries". Its record
-- stands where the assembly would, and is the last.
use Rattle.std.specs.Prelude.{ℕ, zero, suc, ◌+◌, ◌*◌, Bool, true, false, ◌||◌, not, cond, List, [], ◌∷◌, eqb, leb, ltb, length}
use Rattle.graph.specs.Graph.{Graph, degree}
use Rattle.reply.specs.Read.{Read, read, ◌then◌, refuse_if, refuse_for, is_outside}
use Rattle.block.specs.Block.{limit}
use Rattle.records.specs.Bytes.{byte_at, le16}
use Rattle.records.specs.Records.{payload_at}
use Rattle.records.specs.declared.Kind.{Kind}
use Rattle.assembly.specs.Book.{Book, book_of}
use Rattle.assembly.specs.declared.BlockAt.{BlockAt}
use Rattle.deck.specs.Deck.{open_reply, end_reply}
use Rattle.catalogue.specs.declared.Site.{Site}

abbrev pub most_sites : ℕ
most_sites = 4

abbrev pub most_candidates : ℕ
most_candidates = 8

-- Kind 5, library: core's block number (2), site count (2), then the sites
abbrev pub library_kind : Kind
library_kind = record { number = 5; fixed = 4; count = 2; item = 0; loose = true }

abbrev pub core_number : List ℕ → ℕ
core_number xs = le16 xs 0

abbrev pub site_count : List ℕ → ℕ
site_count xs = le16 xs library_kind.count

-- A site: the core's atom (1), candidate count (1), then the candidates. Places are counted from the payload's first byte.
abbrev pub site_head : ℕ
site_head = 2

abbrev pub site_at : List ℕ → ℕ → Site
site_at xs p = record { atom = byte_at xs p; many = byte_at xs (p + 1); first = p + site_head }

-- A candidate: block number (2), joining atom (1)
abbrev pub candidate_bytes : ℕ
candidate_bytes = 3

abbrev pub candidate_number : List ℕ → ℕ → ℕ
candidate_number xs p = le16 xs p

abbrev pub candidate_atom : List ℕ → ℕ → ℕ
candidate_atom xs p = byte_at xs (p + 2)

-- where a site's candidate of an index from 0 stands, and the first byte after all of them
abbrev pub candidate_at : Site → ℕ → ℕ
candidate_at s j = s.first + candidate_bytes * j

abbrev pub site_end : Site → ℕ
site_end s = candidate_at s s.many

-- whether an earlier site is at that atom
unfoldable pub is_taken : List Site → ℕ → Bool
is_taken [] a = false
is_taken (s ∷ ss) a = eqb s.atom a || is_taken ss a

-- whether an atom of a block has as many bonds as it may
abbrev pub is_full_in : Graph → ℕ → Bool
is_full_in g a = leb limit (degree g.bonds a)

-- the first number unless it is 0, else the second
abbrev pub or_else : ℕ → ℕ → ℕ
or_else zero n = n
or_else (suc m) n = suc m

-- the payload of a library's record, over a book of blocks, with the core's block
module _ (book : Book) (core : Graph) (xs : List ℕ) where
  -- what is wrong with the candidate at a place, for the site at an atom of the core: 13 for an end too early, 16, 18, 19, or 0 for nothing
  unfoldable pub candidate_fault : ℕ → ℕ → ℕ
  candidate_fault atom p =
      let block = book.graph (candidate_number xs p) in
      cond (ltb (length xs) (p + candidate_bytes)) 13
      (cond (not (book.has (candidate_number xs p))) 16
      (cond (is_outside block.atoms (candidate_atom xs p)) 18
      (cond (is_full_in core atom || is_full_in block (candidate_atom xs p)) 19 0)))

  -- `left` candidates from a place on, one by one
  unfoldable pub candidates_fault : ℕ → ℕ → ℕ → ℕ
  candidates_fault atom zero p = 0
  candidates_fault atom (suc left) p = or_else (candidate_fault atom p) (candidates_fault atom left (p + candidate_bytes))

  -- what is wrong with the site at a place, after the sites of `done`: 13, 32, 18, 33, then what is wrong with a candidate
  unfoldable pub site_fault : List Site → ℕ → ℕ
  site_fault done p =
      let s = site_at xs p in
      cond (ltb (length xs) (p + site_head)) 13
      (cond (is_outside most_candidates s.many) 32
      (cond (is_outside core.atoms s.atom) 18
      (cond (is_taken done s.atom) 33
      (candidates_fault s.atom s.many s.first))))

  -- `left` sites from a place on, after those of `done`, the last first. After them nothing is left over. The record's first byte is the place of each refusal.
  unfoldable pub sites_from : ℕ → ℕ → ℕ → List Site → Read (List Site)
  sites_from at zero p done = refuse_if (ltb p (length xs)) 13 at then λ _. read done
  sites_from at (suc left) p done = refuse_for (site_fault done p) at then λ _. sites_from at left (site_end (site_at xs p)) (site_at xs p ∷ done)

-- 31, 16 for the core, and the sites
unfoldable pub sites_reply : Book → List ℕ → ℕ → Read (List Site)
sites_reply book xs at =
    refuse_if (is_outside most_sites (site_count xs)) 31 at then λ _.
    refuse_if (not (book.has (core_number xs))) 16 at then λ _.
    sites_from book (book.graph (core_number xs)) xs at (site_count xs) library_kind.fixed []

-- what stands where: the blocks, the first byte of the library's record, and its sites, the last first
pub record Library : Type 0 where
  pub blocks : List BlockAt
  pub at : ℕ
  pub sites : List Site

-- what follows the blocks: the record at a place, and nothing after its end
unfoldable pub after_blocks : List ℕ → List BlockAt → ℕ → ℕ → Read Library
after_blocks d blocks at end =
    sites_reply (book_of d blocks) (payload_at d at) at then λ sites.
    end_reply d end then λ _.
    read (record { blocks = blocks; at = at; sites = sites })

-- 20; the blocks, and 11, 12, 13 of the record; its payload; 11 for what follows
unfoldable pub library_reply : List ℕ → Read Library
library_reply d = open_reply library_kind d then λ k. after_blocks d k.blocks k.assembly k.sheet

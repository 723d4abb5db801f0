-- Laws. What a library that is not refused keeps to. Assumes nothing.
use Prim.Native.Nat.{ℕ, zero, suc, ◌+◌, ◌*◌, ◌≤◌, ◌<◌}
use Rattle.std.specs.Prelude.{Bool, true, false, ◌||◌, not, cond, List, [], ◌∷◌, ◌≡◌, refl, ltb, length}
use Rattle.std.proofs.Common.{◌∙◌}
use Rattle.std.proofs.Math.Path.{ap}
use native.Mathlib.Omega.{arith}
use borrow.Author.Tests.{ltb-false, not-false}
use Rattle.graph.specs.Graph.{Graph, Within}
use Rattle.reply.specs.Read.{read, ◌then◌, refuse_if, refuse_for, is_outside}
use Rattle.reply.specs.Chain.{then-read, if_read, for_read, neither}
use Rattle.block.specs.Faults.{inside}
use Rattle.records.specs.Records.{payload_at}
use Rattle.assembly.specs.Book.{Book, book_of}
use Rattle.deck.specs.Deck.{longest_deck, Deck, blocks_reply, open_reply, end_reply}
use Rattle.deck.specs.Kept.{open_read}
use Rattle.catalogue.specs.Library.{most_sites, most_candidates, library_kind, core_number, site_count, site_head, site_at, candidate_bytes, candidate_number, candidate_atom, candidate_at, site_end, is_taken, is_full_in, or_else, candidate_fault, candidates_fault, site_fault, sites_from, sites_reply, Library, after_blocks, library_reply}
use Rattle.catalogue.specs.declared.Site.{Site}

-- where a test names a number that is not 0, and nothing is named, the test fails, and so on
past : (t : Bool) (x y : ℕ) → (x ≡ 0 → ⊥) → cond t x y ≡ 0 → (t ≡ false) × (y ≡ 0)
past true x y h e = absurd (h e)
past false x y h e = (refl, e)

both_none : (m n : ℕ) → or_else m n ≡ 0 → (m ≡ 0) × (n ≡ 0)
both_none zero n e = (refl, e)
both_none (suc m) n e = absurd (omega arith)

module _ (book : Book) (core : Graph) (xs : List ℕ) where
  -- a candidate that may stand at a site
  pub record CandidateJoins (atom p : ℕ) : Type 0 where
    pub within : p + candidate_bytes ≤ length xs
    pub has : book.has (candidate_number xs p) ≡ true
    pub own : is_outside (book.graph (candidate_number xs p)).atoms (candidate_atom xs p) ≡ false
    pub room : is_full_in core atom ≡ false
    pub own_room : is_full_in (book.graph (candidate_number xs p)) (candidate_atom xs p) ≡ false

  pub joins : (atom p : ℕ) → candidate_fault book core xs atom p ≡ 0 → CandidateJoins atom p
  unfolding candidate_fault
  joins atom p e =
      let block = book.graph (candidate_number xs p) in
      let (a, f) = past (ltb (length xs) (p + candidate_bytes)) 13 _ (omega arith) e in
      let (b, g) = past (not (book.has (candidate_number xs p))) 16 _ (omega arith) f in
      let (c, h) = past (is_outside block.atoms (candidate_atom xs p)) 18 _ (omega arith) g in
      let (r, z) = past (is_full_in core atom || is_full_in block (candidate_atom xs p)) 19 0 (omega arith) h in
      let (q, o) = neither (is_full_in core atom) (is_full_in block (candidate_atom xs p)) r in
      record { within = ltb-false (length xs) (p + candidate_bytes) a; has = not-false (book.has (candidate_number xs p)) b; own = c; room = q; own_room = o }

  -- all candidates of a site
  candidates_join : (atom left p : ℕ) → candidates_fault book core xs atom left p ≡ 0 → (j : ℕ) → j < left → candidate_fault book core xs atom (p + candidate_bytes * j) ≡ 0
  unfolding candidates_fault
  candidates_join atom zero p e j h = absurd (omega arith)
  candidates_join atom (suc left) p e zero h =
      let z : p + candidate_bytes * 0 ≡ p = omega arith in
      ap (candidate_fault book core xs atom) z ∙ (both_none (candidate_fault book core xs atom p) (candidates_fault book core xs atom left (p + candidate_bytes)) e).0
  candidates_join atom (suc left) p e (suc j) h =
      let z : p + candidate_bytes * suc j ≡ p + candidate_bytes + candidate_bytes * j = omega arith in
      ap (candidate_fault book core xs atom) z ∙ candidates_join atom left (p + candidate_bytes) (both_none (candidate_fault book core xs atom p) (candidates_fault book core xs atom left (p + candidate_bytes)) e).1 j (omega arith)

  pub candidates_end : (atom left p : ℕ) → candidates_fault book core xs atom left p ≡ 0 → p ≤ length xs → p + candidate_bytes * left ≤ length xs
  unfolding candidates_fault
  candidates_end atom zero p e h = omega arith
  candidates_end atom (suc left) p e h =
      let (a, b) = both_none (candidate_fault book core xs atom p) (candidates_fault book core xs atom left (p + candidate_bytes)) e in
      omega (arith, candidates_end atom left (p + candidate_bytes) b (joins atom p a).within)

  -- a site that is read
  pub record SiteStands (s : Site) : Type 0 where
    pub many : Within most_candidates s.many
    pub inside : is_outside core.atoms s.atom ≡ false
    pub candidates : (j : ℕ) → j < s.many → candidate_fault book core xs s.atom (candidate_at s j) ≡ 0
    pub within : site_end s ≤ length xs

  pub stands : (done : List Site) (p : ℕ) → site_fault book core xs done p ≡ 0 → SiteStands (site_at xs p) × (is_taken done (site_at xs p).atom ≡ false)
  unfolding site_fault
  stands done p e =
      let s = site_at xs p in
      let (a, f) = past (ltb (length xs) (p + site_head)) 13 _ (omega arith) e in
      let (b, g) = past (is_outside most_candidates s.many) 32 _ (omega arith) f in
      let (c, h) = past (is_outside core.atoms s.atom) 18 _ (omega arith) g in
      let (r, z) = past (is_taken done s.atom) 33 _ (omega arith) h in (
        record {
          many = inside most_candidates s.many b;
          inside = c;
          candidates = candidates_join s.atom s.many s.first z;
          within = candidates_end s.atom s.many s.first z (ltb-false (length xs) (p + site_head) a);
        },
        r,
      )

  -- all sites, no two at one atom
  unfoldable pub SitesApart : List Site → Type 0
  SitesApart [] = Unit {0}
  SitesApart (s ∷ ss) = SiteStands s × (is_taken ss s.atom ≡ false) × SitesApart ss

  sites_from_lem : (at left p : ℕ) (done ss : List Site) → sites_from book core xs at left p done ≡ read ss → SitesApart done → SitesApart ss × (length ss ≡ left + length done)
  unfolding sites_from SitesApart
  sites_from_lem at zero p done ss e h =
      let (u, a, f) = then-read (refuse_if (ltb p (length xs)) 13 at) (λ _. read done) e in
      let same : done ≡ ss = cc f in
      rw (← same) (h, omega arith)
  sites_from_lem at (suc left) p done ss e h =
      let (u, a, f) = then-read (refuse_for (site_fault book core xs done p) at) _ e in
      let (s, t) = stands done p (for_read (site_fault book core xs done p) at a) in
      let (q, n) = sites_from_lem at left (site_end (site_at xs p)) (site_at xs p ∷ done) ss f (s, t, h) in
      (q, omega (arith, n))

pub record CandidatesListed (book : Book) (xs : List ℕ) (ss : List Site) : Type 0 where
  pub few : Within most_sites (length ss)
  pub count : length ss ≡ site_count xs
  pub has : book.has (core_number xs) ≡ true
  pub sites : SitesApart book (book.graph (core_number xs)) xs ss

pub listed : (book : Book) (xs : List ℕ) (at : ℕ) (ss : List Site) → sites_reply book xs at ≡ read ss → CandidatesListed book xs ss
unfolding sites_reply SitesApart
listed book xs at ss e =
    let (u, a, f) = then-read (refuse_if (is_outside most_sites (site_count xs)) 31 at) _ e in
    let (v, b, g) = then-read (refuse_if (not (book.has (core_number xs))) 16 at) _ f in
    let (q, n) = sites_from_lem book (book.graph (core_number xs)) xs at (site_count xs) library_kind.fixed [] ss g tt in
    let w = inside most_sites (site_count xs) (if_read _ 31 at a) in
    let m : length ss ≡ site_count xs = omega (arith, n) in
    record { few = rw m w; count = m; has = not-false (book.has (core_number xs)) (if_read _ 16 at b); sites = q }

-- a library deck that is not refused
pub record WholeLibrary (d : List ℕ) (l : Library) : Type 0 where
  pub short : length d ≤ longest_deck
  pub deck : Deck
  pub opened : open_reply library_kind d ≡ read deck
  pub blocks : blocks_reply library_kind d ≡ read deck
  pub same : l.blocks ≡ deck.blocks
  pub at : l.at ≡ deck.assembly
  pub listed : CandidatesListed (book_of d l.blocks) (payload_at d l.at) l.sites
  pub ends : end_reply d deck.sheet ≡ read tt

pub whole : (d : List ℕ) (l : Library) → library_reply d ≡ read l → WholeLibrary d l
unfolding library_reply after_blocks
whole d l e =
    let (k, o, f) = then-read (open_reply library_kind d) (λ k. after_blocks d k.blocks k.assembly k.sheet) e in
    let (short, b) = open_read library_kind d o in
    let (ss, c, h) = then-read (sites_reply (book_of d k.blocks) (payload_at d k.assembly) k.assembly) (λ sites. end_reply d k.sheet then λ _. read (record { blocks = k.blocks; at = k.assembly; sites = sites })) f in
    let (v, n, i) = then-read (end_reply d k.sheet) (λ _. read (record { blocks = k.blocks; at = k.assembly; sites = ss })) h in
    let same : record { blocks = k.blocks; at = k.assembly; sites = ss } ≡ l = cc i in
    rw (← same) (record {
      short = short;
      deck = k;
      opened = o;
      blocks = b;
      same = refl;
      at = refl;
      listed = listed (book_of d k.blocks) (payload_at d k.assembly) k.assembly ss c;
      ends = n;
    })

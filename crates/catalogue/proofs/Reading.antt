-- What a library deck is told, record by record, and how the code says it. Assumes nothing.
use Prim.Native.Nat.{ℕ, ◌+◌, ◌≤◌, ◌<◌}
use mathlib.Core.List.{List, [], ◌∷◌}
use mathlib.Core.Path.{◌≡◌, refl, sym, ◌∙◌, ap}
use native.Mathlib.Omega.{arith}
use borrow.Author.Tests.{eq-eqb, lt-ltb, le-ltb}
use lib.ListN.{length, drop, length-take, length-drop}
use Rattle.reply.specs.Read.{Read, refused, read, ◌then◌, refusal, as_result}
use Rattle.reply.specs.declared.Refusal.{Refusal}
use Rattle.records.specs.Records.{head_bytes, length_at, kind_at, payload_at, kind_reply}
use Rattle.records.specs.Taken.{taken, of_one, of_least}
use Rattle.records.specs.declared.Kind.{Kind}
use Rattle.assembly.specs.Book.{book_of}
use Rattle.assembly.specs.declared.BlockAt.{BlockAt}
use Rattle.deck.specs.Deck.{Deck, open_reply, end_reply}
use Rattle.deck.specs.Kept.{kept, open_read}
use Rattle.deck.specs.Said.{block_table}
use Rattle.catalogue.specs.Library.{most_sites, library_kind, sites_reply, Library, after_blocks, library_reply}
use Rattle.catalogue.specs.Products.{products, count_reply}
use Rattle.catalogue.proofs.Sound.{listed}
use Rattle.catalogue.specs.declared.Site.{Site}
use Rattle.catalogue.specs.Said.{site_table, said_sites, tabled, tabled_library, said_library}
use Rattle.catalogue.specs.Table.{sites_in, sites_back}
use Rattle.catalogue.specs.declared.LibraryRead.{LibraryRead}
use Rattle.catalogue.specs.declared.sites.SitesRead.{SitesRead}
use Rattle.std.specs.Prelude.{Ok, Err}

-- what the code's answer says of the sites
pub sites_stopped : (x : Read (List Site)) (s : SitesRead) (q : Refusal) → s ≡ said_sites x → s.reply ≡ Err q → x ≡ refused q
sites_stopped (refused r) s q e f = let g : Err r ≡ Err q = sym (ap (λ (y : SitesRead). y.reply) e) ∙ f in cc
sites_stopped (read ss) s q e f = let g : Ok tt ≡ Err q = sym (ap (λ (y : SitesRead). y.reply) e) ∙ f in absurd (let z : ◌≡◌ {A = ℕ} 0 1 = cc in omega arith)

pub sites_ended : (x : Read (List Site)) (s : SitesRead) → s ≡ said_sites x → s.reply ≡ Ok tt → (ss : List Site) × (x ≡ read ss) × (s.n ≡ length ss) × (s.sites ≡ site_table ss)
sites_ended (refused r) s e f = let g : Err r ≡ Ok tt = sym (ap (λ (y : SitesRead). y.reply) e) ∙ f in absurd (let z : ◌≡◌ {A = ℕ} 0 1 = cc in omega arith)
sites_ended (read ss) s e f = (ss, refl, ap (λ (y : SitesRead). y.n) e, ap (λ (y : SitesRead). y.sites) e)

-- the record and its end
module _ (d : List ℕ) (bs : List BlockAt) (at end : ℕ) where
  -- the blocks stand in their table
  pub said_tabled : tabled_library (block_table bs) (length bs) (after_blocks d bs at end) ≡ said_library (after_blocks d bs at end)
  unfolding after_blocks
  said_tabled = go (sites_reply (book_of d bs) (payload_at d at) at) (end_reply d end)
    where
      go : (x : Read (List Site)) (y : Read (Unit {0}))
          → tabled_library (block_table bs) (length bs) (x then λ ss. y then λ _. read (record { blocks = bs; at = at; sites = ss })) ≡ said_library (x then λ ss. y then λ _. read (record { blocks = bs; at = at; sites = ss }))
      go (refused r) y = refl
      go (read ss) (refused r) = refl
      go (read ss) (read u) = refl

  pub after_refused : (q : Refusal) → sites_reply (book_of d bs) (payload_at d at) at ≡ refused q → after_blocks d bs at end ≡ refused q
  unfolding after_blocks
  after_refused q e = rw e

  module _ (ss : List Site) (e : sites_reply (book_of d bs) (payload_at d at) at ≡ read ss) where
    pub after_more : end < length d → after_blocks d bs at end ≡ refused (refusal 11 end)
    unfolding after_blocks end_reply
    after_more h = rw (e, lt-ltb end (length d) h)

    pub after_fine : length d ≤ end → after_blocks d bs at end ≡ read (record { blocks = bs; at = at; sites = ss })
    unfolding after_blocks end_reply
    after_fine h = rw (e, le-ltb end (length d) h)

    pub few_sites : length ss ≤ most_sites
    few_sites = (listed (book_of d bs) (payload_at d at) at ss e).few.high

    -- counted over the table
    pub count_table : (table : List Site) (n c : ℕ) → table ≡ site_table ss → n ≡ length ss → c ≡ products (sites_in table n) → c ≡ products ss
    count_table table n c t m h = h ∙ rw (t, m) (ap products (sites_back ss few_sites))

-- the deck
module _ (d : List ℕ) where
  pub library_stopped : (q : Refusal) → open_reply library_kind d ≡ refused q → library_reply d ≡ refused q
  unfolding library_reply
  library_stopped q e = rw e

  pub library_after : (k : Deck) → open_reply library_kind d ≡ read k → library_reply d ≡ after_blocks d k.blocks k.assembly k.sheet
  unfolding library_reply
  library_after k e = rw e

  -- the payload holds its counts
  pub payload_long : (k : Deck) → open_reply library_kind d ≡ read k → library_kind.fixed ≤ length (payload_at d k.assembly)
  unfolding kind_reply
  payload_long k e =
      let at = k.assembly in
      let a = (kept library_kind d (open_read library_kind d e).1).after in
      let t = taken d at (library_kind ∷ []) a in
      let s : read library_kind ≡ read t.kind = rw (eq-eqb (kind_at d at) library_kind.number (of_one d at library_kind a)) at t.stands in
      let same : library_kind ≡ t.kind = cc in
      omega (arith, t.whole, of_least d at t.kind t.suits, ap (λ (y : Kind). y.fixed) same, length-take (length_at d at) (drop (at + head_bytes) d), length-drop (at + head_bytes) d)

  -- how the code says the number of products
  pub count_refused : (q : Refusal) → library_reply d ≡ refused q → Err q ≡ as_result (count_reply d)
  unfolding count_reply
  count_refused q e = rw e

  pub count_fine : (l : Library) (n : ℕ) → library_reply d ≡ read l → n ≡ products l.sites → Ok n ≡ as_result (count_reply d)
  unfolding count_reply
  count_fine l n e h = rw (e, h)

-- a library whose sites stand in a table
pub tabled_is : (table : List BlockAt) (count : ℕ) (l : Library) (n c : ℕ) (sites : List Site) → n ≡ length l.sites → sites ≡ site_table l.sites → c ≡ products l.sites
    → ◌≡◌ {A = LibraryRead} (record { reply = Ok tt; count = count; blocks = table; at = l.at; n = n; sites = sites; products = c }) (tabled table count l)
tabled_is table count l n c sites e f g = rw (e, f, g)

-- what the code's answer says of a library deck
pub library_stops : (x : Read Library) (s : LibraryRead) (q : Refusal) → s ≡ said_library x → s.reply ≡ Err q → x ≡ refused q
library_stops (refused r) s q e f = let g : Err r ≡ Err q = sym (ap (λ (y : LibraryRead). y.reply) e) ∙ f in cc
library_stops (read l) s q e f = let g : Ok tt ≡ Err q = sym (ap (λ (y : LibraryRead). y.reply) e) ∙ f in absurd (let z : ◌≡◌ {A = ℕ} 0 1 = cc in omega arith)

pub library_ends : (x : Read Library) (s : LibraryRead) → s ≡ said_library x → s.reply ≡ Ok tt → (l : Library) × (x ≡ read l) × (s ≡ said_library (read l))
library_ends (refused r) s e f = let g : Err r ≡ Ok tt = sym (ap (λ (y : LibraryRead). y.reply) e) ∙ f in absurd (let z : ◌≡◌ {A = ℕ} 0 1 = cc in omega arith)
library_ends (read l) s e f = (l, refl, e)

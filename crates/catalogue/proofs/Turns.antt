-- What a library's record is told, test by test. Assumes nothing.
use Prim.Native.Nat.{ℕ, zero, suc, ◌+◌, ◌*◌, ◌-◌, ◌^◌, ◌≤◌, ◌<◌}
use mathlib.Core.Bool.{Bool, true, false, cond}
use mathlib.Core.List.{List, [], ◌∷◌}
use mathlib.Core.Path.{◌≡◌, refl}
use native.Mathlib.Nat.{le_trans, mul-le-mul, pow-suc, pow-le-pow_right}
use native.Mathlib.Numerals.{add-one}
use native.Mathlib.Omega.{arith}
use borrow.Author.Tests.{eq-eqb, ne_eqb, lt-ltb, le-ltb, lt-leb}
use lib.Dec.{eqb, leb, lit<}
use lib.ListN.{length, get_or, take, drop, drop_of_length-le}
use lib.Seq.{drop-cons, take-take}
use Rattle.graph.specs.Graph.{Graph, degree}
use Rattle.block.specs.Block.{limit, bonds_of}
use Rattle.reply.specs.Read.{refused, read, refusal, refuse_for, is_outside}
use Rattle.assembly.specs.Book.{Book, find, is_numbered, block_graph, book_of}
use Rattle.assembly.specs.declared.BlockAt.{BlockAt}
use Rattle.catalogue.specs.Library.{most_sites, most_candidates, library_kind, core_number, site_count, site_head, site_at, candidate_bytes, candidate_number, candidate_atom, site_end, is_taken, is_full_in, or_else, candidate_fault, candidates_fault, site_fault, sites_from, sites_reply}
use Rattle.catalogue.specs.Products.{products}
use Rattle.catalogue.specs.Said.{no_site, site_table, said_sites}
use Rattle.catalogue.specs.Table.{sites_in, sites_length}
use Rattle.catalogue.specs.declared.sites.SitesRead.{SitesRead}
use Rattle.catalogue.specs.declared.Site.{Site}
use Rattle.std.specs.Prelude.{Ok}

-- a block that was looked for
module _ (d : List ℕ) (bs : List BlockAt) (number n : ℕ) (b : BlockAt) (e : n ≡ number) (f : b ≡ find bs n) where
  pub has_is : (t : Bool) → t ≡ is_numbered b n → t ≡ (book_of d bs).has number
  unfolding book_of
  has_is t h = rw (← e) (rw (← f) h)

  pub graph_is : block_graph d b ≡ (book_of d bs).graph number
  unfolding book_of
  graph_is = rw (← e) (rw f refl)

-- the ends of bonds, byte by byte
unfoldable pub ends_in : List ℕ → ℕ → ℕ
ends_in [] a = 0
ends_in (x ∷ xs) a = cond (eqb x a) 1 0 + ends_in xs a

module _ (xs : List ℕ) (a i : ℕ) where
  pub ends_next : i < length xs → ends_in (drop i xs) a ≡ cond (eqb (get_or xs i 0) a) 1 0 + ends_in (drop (i + 1) xs) a
  unfolding ends_in
  ends_next h = rw (drop-cons xs i 0 h, add-one i)

  pub ends_over : length xs ≤ i → ends_in (drop i xs) a ≡ 0
  unfolding ends_in
  ends_over h = rw (drop_of_length-le xs h)

-- two bytes are one bond
pub ends_degree : (xs : List ℕ) (a k : ℕ) → length xs ≡ 2 * k → ends_in xs a ≡ degree (bonds_of xs) a
unfolding ends_in bonds_of degree
ends_degree [] a k h = refl
ends_degree (x ∷ []) a k h = absurd (omega (arith, h))
ends_degree (x ∷ (y ∷ xs)) a k h = omega (arith, ends_degree xs a (k - 1) (omega (arith, h)))

-- the first bytes have no more ends than all
pub ends_first : (n : ℕ) (xs : List ℕ) (a : ℕ) → degree (bonds_of (take n xs)) a ≤ degree (bonds_of xs) a
unfolding bonds_of degree
ends_first zero xs a = omega arith
ends_first (suc n) [] a = omega arith
ends_first (suc zero) (x ∷ xs) a = omega arith
ends_first (suc (suc n)) (x ∷ []) a = omega arith
ends_first (suc (suc n)) (x ∷ (y ∷ xs)) a = omega (arith, ends_first n xs a)

-- so an atom that is not full by some bytes is not by the first of them
pub not_full : (m n r : ℕ) (xs : List ℕ) (a : ℕ) → r ≡ degree (bonds_of (take n xs)) a → m ≤ n → r < limit → leb limit (degree (bonds_of (take m xs)) a) ≡ false
not_full m n r xs a e h l = lt-leb limit (degree (bonds_of (take m xs)) a) (omega (arith, rw (take-take m n xs h) at (ends_first m (take n xs) a)))

module _ (book : Book) (core : Graph) (xs : List ℕ) (atom p : ℕ) where
  abbrev block : Graph
  block = book.graph (candidate_number xs p)

  pub candidate_cut : length xs < p + candidate_bytes → candidate_fault book core xs atom p ≡ 13
  unfolding candidate_fault
  candidate_cut h = rw (lt-ltb (length xs) (p + candidate_bytes) h)

  module _ (w : p + candidate_bytes ≤ length xs) where
    pub candidate_none : book.has (candidate_number xs p) ≡ false → candidate_fault book core xs atom p ≡ 16
    unfolding candidate_fault
    candidate_none h = rw (le-ltb (length xs) (p + candidate_bytes) w, h)

    module _ (h : book.has (candidate_number xs p) ≡ true) where
      pub candidate_outside : is_outside block.atoms (candidate_atom xs p) ≡ true → candidate_fault book core xs atom p ≡ 18
      unfolding candidate_fault
      candidate_outside o = rw (le-ltb (length xs) (p + candidate_bytes) w, h, o)

      module _ (o : is_outside block.atoms (candidate_atom xs p) ≡ false) where
        pub core_full : is_full_in core atom ≡ true → candidate_fault book core xs atom p ≡ 19
        unfolding candidate_fault
        core_full f = rw (le-ltb (length xs) (p + candidate_bytes) w, h, o, f)

        module _ (f : is_full_in core atom ≡ false) where
          pub candidate_full : is_full_in block (candidate_atom xs p) ≡ true → candidate_fault book core xs atom p ≡ 19
          unfolding candidate_fault
          candidate_full g = rw (le-ltb (length xs) (p + candidate_bytes) w, h, o, f, g)

          pub candidate_well : is_full_in block (candidate_atom xs p) ≡ false → candidate_fault book core xs atom p ≡ 0
          unfolding candidate_fault
          candidate_well g = rw (le-ltb (length xs) (p + candidate_bytes) w, h, o, f, g)

  -- a turn of the loop over candidates
  pub no_candidates : candidates_fault book core xs atom 0 p ≡ 0
  unfolding candidates_fault
  no_candidates = refl

  pub wrong_candidate : (left : ℕ) → (candidate_fault book core xs atom p ≡ 0 → ⊥) → candidates_fault book core xs atom (suc left) p ≡ candidate_fault book core xs atom p
  unfolding candidates_fault
  wrong_candidate left h = go (candidate_fault book core xs atom p) h
    where
      go : (n : ℕ) → (n ≡ 0 → ⊥) → or_else n (candidates_fault book core xs atom left (p + candidate_bytes)) ≡ n
      go zero h = absurd (h refl)
      go (suc n) h = refl

  pub next_candidate : (left : ℕ) → candidate_fault book core xs atom p ≡ 0 → candidates_fault book core xs atom (suc left) p ≡ candidates_fault book core xs atom left (p + candidate_bytes)
  unfolding candidates_fault
  next_candidate left h = rw h

module _ (book : Book) (core : Graph) (xs : List ℕ) (done : List Site) (p : ℕ) where
  abbrev site : Site
  site = site_at xs p

  pub site_cut : length xs < p + site_head → site_fault book core xs done p ≡ 13
  unfolding site_fault
  site_cut h = rw (lt-ltb (length xs) (p + site_head) h)

  module _ (w : p + site_head ≤ length xs) where
    pub site-many : is_outside most_candidates site.many ≡ true → site_fault book core xs done p ≡ 32
    unfolding site_fault
    site-many m = rw (le-ltb (length xs) (p + site_head) w, m)

    module _ (m : is_outside most_candidates site.many ≡ false) where
      pub site_outside : is_outside core.atoms site.atom ≡ true → site_fault book core xs done p ≡ 18
      unfolding site_fault
      site_outside o = rw (le-ltb (length xs) (p + site_head) w, m, o)

      module _ (o : is_outside core.atoms site.atom ≡ false) where
        pub site_taken : is_taken done site.atom ≡ true → site_fault book core xs done p ≡ 33
        unfolding site_fault
        site_taken t = rw (le-ltb (length xs) (p + site_head) w, m, o, t)

        pub site_free : is_taken done site.atom ≡ false → site_fault book core xs done p ≡ candidates_fault book core xs site.atom site.many site.first
        unfolding site_fault
        site_free t = rw (le-ltb (length xs) (p + site_head) w, m, o, t)

  -- a turn of the loop over sites
  module _ (at : ℕ) where
    pub left_over : p < length xs → sites_from book core xs at 0 p done ≡ refused (refusal 13 at)
    unfolding sites_from
    left_over h = rw (lt-ltb p (length xs) h)

    pub none_over : length xs ≤ p → sites_from book core xs at 0 p done ≡ read done
    unfolding sites_from
    none_over h = rw (le-ltb p (length xs) h)

    pub wrong_site : (left : ℕ) → (site_fault book core xs done p ≡ 0 → ⊥) → sites_from book core xs at (suc left) p done ≡ refused (refusal (site_fault book core xs done p) at)
    unfolding sites_from
    wrong_site left h = rw (refuses (site_fault book core xs done p) h)
      where
        refuses : (n : ℕ) → (n ≡ 0 → ⊥) → refuse_for n at ≡ refused (refusal n at)
        refuses zero h = absurd (h refl)
        refuses (suc n) h = refl

    pub next_site : (left : ℕ) → site_fault book core xs done p ≡ 0 → sites_from book core xs at (suc left) p done ≡ sites_from book core xs at left (site_end site) (site ∷ done)
    unfolding sites_from
    next_site left h = rw h

module _ (book : Book) (xs : List ℕ) (at : ℕ) where
  pub count_outside : is_outside most_sites (site_count xs) ≡ true → sites_reply book xs at ≡ refused (refusal 31 at)
  unfolding sites_reply
  count_outside h = rw h

  module _ (n : is_outside most_sites (site_count xs) ≡ false) where
    pub no_core : book.has (core_number xs) ≡ false → sites_reply book xs at ≡ refused (refusal 16 at)
    unfolding sites_reply
    no_core h = rw (n, h)

    pub with_core : book.has (core_number xs) ≡ true → sites_reply book xs at ≡ sites_from book (book.graph (core_number xs)) xs at (site_count xs) library_kind.fixed []
    unfolding sites_reply
    with_core h = rw (n, h)

-- a table of sites
module _ (table : List Site) (m : ℕ) where
  pub taken_here : (a : ℕ) → (get_or table m no_site).atom ≡ a → is_taken (sites_in table (suc m)) a ≡ true
  unfolding sites_in is_taken
  taken_here a e = rw (eq-eqb (get_or table m no_site).atom a e)

  pub taken_before : (a : ℕ) → ((get_or table m no_site).atom ≡ a → ⊥) → is_taken (sites_in table (suc m)) a ≡ is_taken (sites_in table m) a
  unfolding sites_in is_taken
  taken_before a e = rw (ne_eqb (get_or table m no_site).atom a e)

  pub products_grow : products (sites_in table (suc m)) ≡ products (sites_in table m) * (get_or table m no_site).many
  unfolding sites_in products
  products_grow = refl

pub none_taken : (table : List Site) (a : ℕ) → is_taken (sites_in table 0) a ≡ false
unfolding sites_in is_taken
none_taken table a = refl

pub one_product : (table : List Site) → products (sites_in table 0) ≡ 1
unfolding sites_in products
one_product table = refl

-- a table that has nothing but its first n sites, as the code says it
pub sites_said : (table : List Site) (n : ℕ) → site_table (sites_in table n) ≡ table → ◌≡◌ {A = SitesRead} (record { reply = Ok tt; n = n; sites = table }) (said_sites (read (sites_in table n)))
sites_said table n e = rw (sites_length table n, e)

-- a number of k bytes, times one byte more
pub byte_more : (t k m : ℕ) → t ≤ 256 ^ k → m ≤ 255 → t * m ≤ 256 ^ (k + 1)
byte_more t k m h l = rw (add-one k) (rw pow-suc (mul-le-mul h (omega arith)))

pub few_bytes : (t k : ℕ) → t ≤ 256 ^ k → k ≤ most_sites → t ≤ 256 ^ most_sites
few_bytes t k h l = le_trans h (pow-le-pow_right {n = 256} (lit< tt) {i = k} {j = most_sites} l)

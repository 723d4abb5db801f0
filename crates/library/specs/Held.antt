-- Work. What is lent of a library that is read, and what it gives: the fields of each product.
use Rattle.std.specs.Prelude.{ℕ, ◌+◌, ◌*◌, ◌≤◌, ◌<◌, Bool, true, false, List, [], ◌≡◌, refl, ltb, length, get_or, take}
use Rattle.std.proofs.Common.{◌∙◌, ap, ap₂, arith, ltb-true, ltb-false}
use Rattle.reply.specs.Read.{read}
use Rattle.records.specs.Records.{payload_at}
use Rattle.assembly.specs.Book.{no_block}
use Rattle.assembly.specs.declared.BlockAt.{BlockAt}
use Rattle.catalogue.specs.Library.{most_sites, most_candidates, candidate_at, Library, library_reply}
use Rattle.catalogue.specs.Products.{products, choice_at, product_at}
use Rattle.catalogue.proofs.Sound.{whole}
use Rattle.catalogue.specs.declared.Site.{Site}
use Rattle.catalogue.specs.Said.{no_site}
use Rattle.catalogue.specs.Table.{sites_in, sites_length}
use Rattle.arms.specs.Arms.{no_arm, six_of, row_arm, opened_of}
use Rattle.arms.specs.declared.Arm.{Arm}
use Rattle.arms.specs.declared.Core.{Core}
use Rattle.stock.specs.Stock.{core_at, candidate_arm, arm_at, all_arms}
use Rattle.stock.specs.Stands.{arm_stands, row_there}
use Rattle.library.specs.Chosen.{choice_in, Picked}
use Rattle.library.specs.Ready.{few_sites, site_stands, digit_low, product_is}

-- 1 to 8 candidates
pub record Many (m : ℕ) : Type 0 where
  pub low : 1 ≤ m
  pub high : m ≤ most_candidates

-- the blocks, the payload of the record, and its first n sites in a table that has no others
pub record Held (d : List ℕ) (l : Library) (bs : List BlockAt) (xs : List ℕ) (sites : List Site) (n : ℕ) : Type 0 where
  pub reads : library_reply d ≡ read l
  pub blocks : bs ≡ l.blocks
  pub payload : xs ≡ payload_at d l.at
  pub same : sites_in sites n ≡ l.sites
  pub rest : (k : ℕ) → n ≤ k → get_or sites k no_site ≡ no_site

-- the first block, opened
abbrev pub FirstHeld : List ℕ → List BlockAt → ℕ → List ℕ → Type 0
FirstHeld d blocks count first = first ≡ opened_of d (take count blocks) (get_or blocks 0 no_block).number

-- with what is kept of the core, and all arms
pub record Spread (d : List ℕ) (l : Library) (bs : List BlockAt) (xs : List ℕ) (sites : List Site) (n : ℕ) (c : Core) (all : List (List ℕ)) : Type 0 where
  pub held : Held d l bs xs sites n
  pub core : c ≡ core_at d bs xs sites
  pub arms : all ≡ all_arms d bs xs sites

module _ {d : List ℕ} {l : Library} {bs : List BlockAt} {xs : List ℕ} {sites : List Site} {n : ℕ} (t : Held d l bs xs sites n) where
  pub few : n ≤ most_sites
  few = few_sites d l t.reads sites n t.same

  pub one : 1 ≤ n
  one = let w = (whole d l t.reads).listed.few in omega (arith, sites_length sites n, ap length t.same, w.low)

  pub many : (k : ℕ) → k < n → Many (get_or sites k no_site).many
  many k h = let w = (site_stands d l t.reads sites n t.same k h).many in record { low = w.low; high = w.high }

  pub first : (k : ℕ) → (get_or sites k no_site).first ≤ length xs
  first k = go (ltb k n) refl
    where
      go : (b : Bool) → ltb k n ≡ b → (get_or sites k no_site).first ≤ length xs
      go true e = rw t.payload (omega (arith, (site_stands d l t.reads sites n t.same k (ltb-true k n e)).within))
      go false e = rw (t.rest k (ltb-false k n e)) (omega arith)

  pub digits_low : (position : ℕ) → position < products l.sites → (digits : List ℕ) → choice_in digits n ≡ choice_at (sites_in sites n) position
      → (k : ℕ) → k < n → get_or digits k 0 < (get_or sites k no_site).many
  digits_low position h digits c = digit_low d l t.reads sites n t.same position h digits (c ∙ ap (λ (ss : List Site). choice_at ss position) t.same)

  -- THE FIELDS OF A PRODUCT: joined from what is kept, they are those of the molecule written out
  pub product_joined : (position : ℕ) → position < products l.sites → (digits : List ℕ) → choice_in digits n ≡ choice_at (sites_in sites n) position
      → (core : Core) (arms : List Arm) → core ≡ core_at d bs xs sites → ((k : ℕ) → k < n → get_or arms k no_arm ≡ arm_at d bs xs (get_or sites k no_site) (get_or digits k 0))
      → six_of core arms n ≡ product_at d l position
  product_joined position h digits c core arms q r =
      product_is d l t.reads sites n t.same position h digits (c ∙ ap (λ (ss : List Site). choice_at ss position) t.same) core arms
      (q ∙ ap₂ (λ (cs : List BlockAt) (ys : List ℕ). core_at d cs ys sites) t.blocks t.payload)
      (λ k i. let s = get_or sites k no_site in let j = get_or digits k 0 in
      r k i ∙ arm_stands d bs xs s j (first k) (digits_low position h digits c k i) ∙ ap₂ (λ (cs : List BlockAt) (ys : List ℕ). candidate_arm d cs ys (candidate_at s j)) t.blocks t.payload)

module _ {d : List ℕ} {l : Library} {bs : List BlockAt} {xs : List ℕ} {sites : List Site} {n : ℕ} {c : Core} {all : List (List ℕ)} (t : Spread d l bs xs sites n c all) where
  -- picked among all arms
  pub product_spread : (position : ℕ) → position < products l.sites → (digits : List ℕ) → choice_in digits n ≡ choice_at (sites_in sites n) position
      → (arms : List Arm) → Picked all digits n arms → six_of c arms n ≡ product_at d l position
  product_spread position h digits e arms p =
      let low = digits_low t.held position h digits e in
      product_joined t.held position h digits e c arms t.core (λ k i.
      let small : get_or digits k 0 < most_candidates = omega (arith, low k i, (many t.held k i).high) in
      p.arm k i ∙ ap (λ (rows : List (List ℕ)). row_arm (get_or rows (most_candidates * k + get_or digits k 0) [])) t.arms
      ∙ row_there d bs xs sites k (get_or digits k 0) (omega (arith, few t.held)) small)

-- From a library that is read to its products. Assumes nothing.
use Prim.Native.Nat.{ℕ, suc, ◌-◌, ◌≤◌, ◌<◌, min}
use mathlib.Core.List.{List}
use mathlib.Core.Path.{◌≡◌, refl, ◌∙◌, ap}
use native.Mathlib.Omega.{arith}
use borrow.Author.Tests.{lt-ltb, le-ltb}
use lib.ListN.{length, take, drop, get_or, replicate}
use lib.Seq.{take-append_seam}
use Rattle.reply.specs.Read.{refused, read}
use Rattle.reply.specs.declared.Refusal.{Refusal}
use Rattle.block.specs.declared.Indices.{Indices}
use Rattle.records.specs.Records.{payload_at}
use Rattle.assembly.specs.Book.{most_blocks, no_block}
use Rattle.deck.specs.Deck.{block_at}
use Rattle.deck.specs.Filled.{open_book}
use Rattle.deck.specs.Said.{block_table}
use Rattle.catalogue.proofs.First.{one_place, first_block, first_opened}
use Rattle.catalogue.specs.Library.{most_sites, library_kind, Library, library_reply}
use Rattle.catalogue.specs.Products.{products, product_at, product_reply}
use Rattle.catalogue.proofs.Sound.{whole}
use Rattle.catalogue.specs.Said.{said_library}
use Rattle.catalogue.specs.Table.{sites_back, table_empty}
use Rattle.catalogue.specs.declared.LibraryRead.{LibraryRead}
use Rattle.library.specs.Said.{said_product}
use Rattle.library.specs.Held.{Held, FirstHeld, Spread}
use Rattle.arms.specs.Arms.{most_arms, no_arm, opened, six_of, stem_of, joined_to, stem_joined}
use Rattle.arms.specs.declared.Arm.{Arm}
use Rattle.arms.specs.declared.Core.{Core}
use Rattle.arms.specs.declared.Stem.{Stem}
use Rattle.stock.specs.Stock.{core_at, all_arms}
use Rattle.std.specs.Prelude.{Ok, Err, Some, None}

-- what the code has of a library that is read
pub held_read : (d : List ℕ) (l : Library) (r : LibraryRead) → library_reply d ≡ read l → r ≡ said_library (read l) → Held d l (take r.count r.blocks) (payload_at d r.at) r.sites r.n
held_read d l r e f = rw f (record {
  reads = e;
  blocks = take-append_seam l.blocks _;
  payload = refl;
  same = sites_back l.sites (whole d l e).listed.few.high;
  rest = table_empty l.sites;
})

pub first_read : (d : List ℕ) (l : Library) (r : LibraryRead) → library_reply d ≡ read l → r ≡ said_library (read l) → (first : List ℕ) → first ≡ open_book library_kind d one_place
    → FirstHeld d r.blocks r.count first
unfolding opened
first_read d l r e f first q =
    let F = first_block d l e in
    let b = block_at d 0 in
    let at : get_or (block_table l.blocks) 0 no_block ≡ b = rw F.blocks refl in
    q ∙ first_opened d l e ∙ rw (f, take-append_seam l.blocks (drop (length l.blocks) (replicate most_blocks no_block)), at, F.found) refl

pub spread_read : (d : List ℕ) (l : Library) (r : LibraryRead) → library_reply d ≡ read l → r ≡ said_library (read l) → (ys : List ℕ) (c : Core) (all : List (List ℕ)) → let bs = take r.count r.blocks in
    ys ≡ payload_at d r.at → c ≡ core_at d bs ys r.sites → all ≡ all_arms d bs ys r.sites
    → Spread d l bs (payload_at d r.at) r.sites r.n c all
spread_read d l r e f ys c all y q all_are =
    let bs = take r.count r.blocks in
    record {
      held = held_read d l r e f;
      core = q ∙ ap (λ (xs : List ℕ). core_at d bs xs r.sites) y;
      arms = all_are ∙ ap (λ (xs : List ℕ). all_arms d bs xs r.sites) y;
    }

-- the last arm is joined to the core with the others
pub made_said : (c : Core) (arms : List Arm) (n : ℕ) (s : Stem) (x : Indices) → 1 ≤ n → n ≤ most_sites → s ≡ stem_of c arms (min (n - 1) (most_arms - 1)) → x ≡ joined_to s (get_or arms (n - 1) no_arm) → x ≡ six_of c arms n
made_said c arms n s x one few e f =
    let z : min (n - 1) (most_arms - 1) ≡ n - 1 = omega arith in
    let w : suc (n - 1) ≡ n = omega arith in
    f ∙ ap (λ (y : Stem). joined_to y (get_or arms (n - 1) no_arm)) (e ∙ ap (stem_of c arms) z) ∙ stem_joined c arms arms (n - 1) (λ i h. refl) ∙ ap (six_of c arms) w

module _ (d : List ℕ) (position : ℕ) where
  pub product-refused : (q : Refusal) → library_reply d ≡ refused q → Err q ≡ said_product (product_reply d position)
  unfolding product_reply
  product-refused q e = rw e

  module _ (l : Library) (e : library_reply d ≡ read l) where
    pub product_done : products l.sites ≤ position → Ok None ≡ said_product (product_reply d position)
    unfolding product_reply
    product_done h = rw (e, le-ltb position (products l.sites) h)

    pub product_made : position < products l.sites → (x : Indices) → x ≡ product_at d l position → Ok (Some x) ≡ said_product (product_reply d position)
    unfolding product_reply
    product_made h x f = rw (e, lt-ltb position (products l.sites) h, f)

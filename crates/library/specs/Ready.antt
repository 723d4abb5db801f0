-- Laws. What is kept of a library that is read gives the fields of each product: a product is an assembly whose placements are all joined to the first, so its
-- fields are those of the core with its arms. Assumes nothing.
use Prim.Native.Nat.{ℕ, zero, suc, ◌≤◌, ◌<◌}
use Rattle.std.specs.Prelude.{true, List, ◌∷◌, ◌≡◌, get_or}
use Rattle.std.proofs.Math.Logic.{⊎_elim}
use Rattle.std.proofs.Math.Path.{refl, sym, ap}
use Rattle.std.proofs.Common.{◌∙◌, subst, eq-or-lt_of_le, arith}
use Rattle.std.proofs.Math.Nat.{le-suc_iff}
use Rattle.std.proofs.Math.ListN.{length}
use Rattle.reply.specs.Read.{read}
use Rattle.block.specs.Block.{block_reply}
use Rattle.block.specs.Tables.{get_or-table}
use Rattle.records.specs.Records.{payload_at}
use Rattle.assembly.specs.Book.{Book, find, used, bond_bytes, book_of}
use Rattle.assembly.specs.Placements.{placement_at}
use Rattle.assembly.specs.declared.Placement.{Placement}
use Rattle.deck.specs.Kept.{kept}
use Rattle.deck.specs.Sound.{found}
use Rattle.arms.specs.Arms.{no_arm, arm_in, core_in, opened_of, six_of}
use Rattle.arms.specs.Written.{ArmsOf, arms-written}
use Rattle.arms.specs.declared.Arm.{Arm}
use Rattle.arms.specs.declared.Core.{Core}
use Rattle.catalogue.specs.Library.{most_sites, library_kind, core_number, candidate_number, candidate_atom, candidate_at, Library, library_reply}
use Rattle.catalogue.specs.Products.{join_bytes, placed_bytes, product_bytes, products, choice_at, assembly_at, molecule_over, product_at}
use Rattle.catalogue.proofs.Choices.{IsChoice, is_choice}
use Rattle.catalogue.proofs.Sound.{SiteStands, SitesApart, whole}
use Rattle.catalogue.proofs.Fine.{placed_in, joined, behind_count, placed_before, core_said, length_placed, last_said, count_is, product_fine}
use Rattle.catalogue.specs.declared.Site.{Site}
use Rattle.catalogue.specs.Said.{no_site}
use Rattle.catalogue.specs.Table.{sites_in, sites_length}
use Rattle.stock.specs.Stock.{atoms_of, core_at, candidate_arm}
use Rattle.library.specs.Chosen.{choice_in}

-- what holds of so many holds of fewer
fewer : (P : ℕ → Type 0) → ((m : ℕ) → P (suc m) → P m) → (n k : ℕ) → k ≤ n → P n → P k
fewer P less zero k h p = let z : 0 ≡ k = omega arith in subst P z p
fewer P less (suc n) k h p = ⊎_elim (λ q. fewer P less n k q (less n p)) (λ q. let z : suc n ≡ k = omega (arith, q) in subst P z p) (le-suc_iff.0 h)

module _ (d : List ℕ) (l : Library) (e : library_reply d ≡ read l) where
  abbrev pub xs : List ℕ
  xs = payload_at d l.at

  abbrev pub book : Book
  book = book_of d l.blocks

  -- the blocks that are found
  block_fine : (x : ℕ) → used l.blocks x ≡ true → block_reply (find l.blocks x).atoms (bond_bytes d (find l.blocks x)) ≡ read tt
  block_fine x u = let w = whole d l e in (found d l.blocks x (rw w.same (kept library_kind d w.blocks).blocks) u).fine

  module _ (table : List Site) (n : ℕ) (same : sites_in table n ≡ l.sites) where
    abbrev site_of : ℕ → Site
    site_of k = get_or table k no_site

    pub few_sites : n ≤ most_sites
    few_sites = let w = (whole d l e).listed.few in omega (arith, sites_length table n, ap length same, w.high)

    sites_first : (k : ℕ) → k ≤ n → SitesApart book (book.graph (core_number xs)) xs (sites_in table k)
    unfolding SitesApart sites_in
    sites_first k h = fewer (λ m. SitesApart book (book.graph (core_number xs)) xs (sites_in table m)) (λ m p. p.2) n k h (rw same (whole d l e).listed.sites)

    pub site_stands : (k : ℕ) → k < n → SiteStands book (book.graph (core_number xs)) xs (site_of k)
    unfolding SitesApart sites_in
    site_stands k h = (sites_first (suc k) h).0

    module _ (position : ℕ) (low : position < products l.sites) (digits : List ℕ) (chosen : choice_in digits n ≡ choice_at l.sites position) where
      abbrev place : ℕ → ℕ
      place k = candidate_at (site_of k) (get_or digits k 0)

      choice_first : (k : ℕ) → k ≤ n → IsChoice (sites_in table k) (choice_in digits k)
      unfolding IsChoice sites_in choice_in
      choice_first k h = fewer (λ m. IsChoice (sites_in table m) (choice_in digits m)) (λ m p. p.1) n k h (rw (same, chosen) (is_choice l.sites position low))

      pub digit_low : (k : ℕ) → k < n → get_or digits k 0 < (site_of k).many
      unfolding IsChoice sites_in choice_in
      digit_low k h = (choice_first (suc k) h).0

      -- the bytes of the product's placements, site by site
      abbrev bytes : ℕ → List ℕ
      bytes m = placed_bytes xs (sites_in table m) (choice_in digits m)

      abbrev arm_placed : ℕ → Placement
      arm_placed k = joined (candidate_number xs (place k)) (site_of k).atom (candidate_atom xs (place k))

      arm_placed_lem : (m : ℕ) → m ≤ n → (k : ℕ) → k < m → placed_in (bytes m) (suc k) ≡ arm_placed k
      unfolding placed_bytes sites_in choice_in
      arm_placed_lem zero h k i = absurd (omega arith)
      arm_placed_lem (suc m) h k i =
          ⊎_elim
          (λ q. let z : suc k ≡ suc (length (sites_in table m)) = omega (arith, q, sites_length table m) in
          last_said book xs (site_of m) (sites_in table m) (get_or digits m 0) (choice_in digits m) (suc k) (choice_first m (omega arith)) z ∙ ap arm_placed (sym q))
          (λ q. placed_before (bytes m) (join_bytes xs (site_of m) (get_or digits m 0)) (suc k) (omega (arith, q, length_placed xs (sites_in table m) (choice_in digits m) (choice_first m (omega arith)), sites_length table m))
          ∙ arm_placed_lem m (omega arith) k q)
          (eq-or-lt_of_le {n = k} {m = m} (omega arith))

      written_is : assembly_at d l position ≡ suc (length l.sites) ∷ 0 ∷ bytes n
      unfolding product_bytes
      written_is = rw (same, chosen) refl

      core_there : (placement_at (assembly_at d l position) 0).block ≡ core_number xs
      core_there =
          ap (λ (ys : List ℕ). (placement_at ys 0).block) written_is
          ∙ ap (λ (q : Placement). q.block) (behind_count (suc (length l.sites)) 0 (bytes n) 0 ∙ core_said xs (sites_in table n) (choice_in digits n) (choice_first n (omega arith)))

      arm_there : (k : ℕ) → k < n → placement_at (assembly_at d l position) (suc k) ≡ arm_placed k
      arm_there k h = ap (λ (ys : List ℕ). placement_at ys (suc k)) written_is ∙ behind_count (suc (length l.sites)) 0 (bytes n) (suc k) ∙ arm_placed_lem n (omega arith) k h

      module _ (core : Core) (arms : List Arm) (c : core ≡ core_at d l.blocks xs table) (arm : (k : ℕ) → k < n → get_or arms k no_arm ≡ candidate_arm d l.blocks xs (place k)) where
        arms_of : ArmsOf d l.blocks (assembly_at d l position) (atoms_of table) n core arms
        unfolding core_at atoms_of candidate_arm
        arms_of = record {
          few = few_sites;
          count = count_is book xs l.sites (choice_at l.sites position) (whole d l e).listed (is_choice l.sites position low) ∙ ap suc (sym (ap length same) ∙ sites_length table n);
          first = λ k h. ap (λ (q : Placement). q.parent) (arm_there k h);
          kept = c ∙ ap (λ (x : ℕ). core_in (opened_of d l.blocks x) (atoms_of table)) (sym core_there);
          sites = λ k h. get_or-table most_sites (λ i. (site_of i).atom) k 0 (omega (arith, few_sites)) ∙ sym (ap (λ (q : Placement). q.site) (arm_there k h));
          ends = λ k h. arm k h ∙ ap (λ (q : Placement). arm_in (opened_of d l.blocks q.block) q.own) (sym (arm_there k h));
        }

        -- THE FIELDS OF A PRODUCT, joined from what is kept
        pub product_is : six_of core arms n ≡ product_at d l position
        unfolding product_at molecule_over
        product_is = arms-written arms_of block_fine (product_fine d l position e low)

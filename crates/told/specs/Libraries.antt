-- Laws. What the one number of a C reply about a library tells, with nothing assumed.
use Prim.Native.Nat.{ℕ, zero, suc, ◌+◌, ◌%◌, ◌≤◌, ◌<◌}
use Rattle.std.specs.Prelude.{Bool, ◌||◌, not, List, [], ◌∷◌, ◌≡◌, refl, ltb, length}
use Rattle.std.proofs.Math.Bool.{true, false}
use Rattle.std.proofs.Math.Path.{ap}
use native.Mathlib.Omega.{arith}
use Rattle.std.proofs.Common.{ltb-false}
use Rattle.graph.specs.Graph.{Graph}
use Rattle.reply.specs.Read.{Read, refused, read, refuse_if, refuse_for, is_outside, if_else}
use Rattle.reply.specs.Chain.{if_read, then-read}
use Rattle.reply.specs.declared.Refusal.{Refusal}
use Rattle.block.specs.declared.Indices.{Indices}
use Rattle.records.specs.Records.{payload_at}
use Rattle.records.specs.Taken.{taken}
use Rattle.records.specs.declared.Sheet.{Sheet}
use Rattle.sheets.specs.Sheets.{sheet_bytes}
use Rattle.assembly.specs.Book.{Book, book_of}
use Rattle.assembly.specs.declared.BlockAt.{BlockAt}
use Rattle.deck.specs.Deck.{longest_deck, Deck, open_reply, end_reply}
use Rattle.deck.specs.Kept.{kept}
use Rattle.catalogue.specs.Library.{most_sites, most_candidates, library_kind, core_number, site_count, site_head, site_at, site_end, candidate_bytes, candidate_number, candidate_atom, is_taken, is_full_in, or_else, candidate_fault, candidates_fault, site_fault, sites_from, sites_reply, Library, after_blocks, library_reply}
use Rattle.catalogue.specs.Products.{products, product_at, count_reply, Product, done, made, product_reply}
use Rattle.catalogue.specs.declared.Site.{Site}
use Rattle.library.specs.Steps.{step_reply}
use Rattle.calls.specs.Convention.{most_place, fitting}
use Rattle.library_calls.specs.Libraries.{count_list, with_next, step_code}
use Rattle.told.specs.Bounded.{most_number, Bounded, then_bounded, if_bounded, for_bounded, either, end_bounded, open_bounded}
use Rattle.told.specs.Recovered.{Tells, Says, tells, listed, lent}

or_number : (m n : ℕ) → m ≤ most_number → n ≤ most_number → or_else m n ≤ most_number
or_number zero n h k = k
or_number (suc m) n h k = h

-- The record of a library: the place is its first byte.
module _ (book : Book) (core : Graph) (xs : List ℕ) where
  candidate_number_lem : (atom p : ℕ) → candidate_fault book core xs atom p ≤ most_number
  unfolding candidate_fault
  candidate_number_lem atom p =
      let block = book.graph (candidate_number xs p) in
      either (ltb (length xs) (p + candidate_bytes)) 13 _ (omega arith)
      (either (not (book.has (candidate_number xs p))) 16 _ (omega arith)
      (either (is_outside block.atoms (candidate_atom xs p)) 18 _ (omega arith)
      (either (is_full_in core atom || is_full_in block (candidate_atom xs p)) 19 0 (omega arith) (omega arith))))

  candidates_number : (atom left p : ℕ) → candidates_fault book core xs atom left p ≤ most_number
  unfolding candidates_fault
  candidates_number atom zero p = omega arith
  candidates_number atom (suc left) p = or_number (candidate_fault book core xs atom p) _ (candidate_number_lem atom p) (candidates_number atom left (p + candidate_bytes))

  site_number : (earlier : List Site) (p : ℕ) → site_fault book core xs earlier p ≤ most_number
  unfolding site_fault
  site_number earlier p =
      let s = site_at xs p in
      either (ltb (length xs) (p + site_head)) 13 _ (omega arith)
      (either (is_outside most_candidates s.many) 32 _ (omega arith)
      (either (is_outside core.atoms s.atom) 18 _ (omega arith)
      (either (is_taken earlier s.atom) 33 _ (omega arith) (candidates_number s.atom s.many s.first))))

  from_bounded : (at : ℕ) → at < most_place → (left p : ℕ) (earlier : List Site) → Bounded most_place (sites_from book core xs at left p earlier)
  unfolding sites_from
  from_bounded at h zero p earlier =
      then_bounded most_place (refuse_if (ltb p (length xs)) 13 at) (λ _. read earlier) (if_bounded most_place (ltb p (length xs)) 13 at (omega (arith, h))) (λ u e. tt)
  from_bounded at h (suc left) p earlier =
      then_bounded most_place (refuse_for (site_fault book core xs earlier p) at) _ (for_bounded most_place (site_fault book core xs earlier p) at (site_number earlier p) h)
      (λ u e. from_bounded at h left (site_end (site_at xs p)) (site_at xs p ∷ earlier))

sites_bounded : (book : Book) (xs : List ℕ) (at : ℕ) → at < most_place → Bounded most_place (sites_reply book xs at)
unfolding sites_reply
sites_bounded book xs at h =
    then_bounded most_place (refuse_if (is_outside most_sites (site_count xs)) 31 at) _ (if_bounded most_place (is_outside most_sites (site_count xs)) 31 at (omega (arith, h))) (λ u e.
    then_bounded most_place (refuse_if (not (book.has (core_number xs))) 16 at) _ (if_bounded most_place (not (book.has (core_number xs))) 16 at (omega (arith, h))) (λ v f.
    from_bounded book (book.graph (core_number xs)) xs at h (site_count xs) library_kind.fixed []))

module _ (d : List ℕ) where
  after_bounded : length d ≤ longest_deck → (blocks : List BlockAt) (at end : ℕ) → at ≤ length d → end ≤ length d → Bounded most_place (after_blocks d blocks at end)
  unfolding after_blocks
  after_bounded l blocks at end h k =
      then_bounded most_place (sites_reply (book_of d blocks) (payload_at d at) at) _ (sites_bounded (book_of d blocks) (payload_at d at) at (omega (arith, h, l))) (λ sites e.
      then_bounded most_place (end_reply d end) (λ _. read (record { blocks = blocks; at = at; sites = sites })) (end_bounded d l end k) (λ u f. tt))

  pub library_bounded : Bounded most_place (library_reply d)
  unfolding library_reply open_reply
  library_bounded = then_bounded most_place (open_reply library_kind d) _ (open_bounded library_kind d) (λ k e.
      let (u, short, f) = then-read (refuse_if (ltb longest_deck (length d)) 20 0) _ e in
      let q = kept library_kind d f in
      let w = (taken d k.assembly (library_kind ∷ []) q.after).whole in
      after_bounded (ltb-false longest_deck (length d) (if_read _ 20 0 short)) k.blocks k.assembly k.sheet (omega (arith, w)) (omega (arith, w, ap (λ (x : Deck). x.sheet) q.places)))

  count_bounded : Bounded most_place (count_reply d)
  unfolding count_reply
  count_bounded = then_bounded most_place (library_reply d) (λ l. read (products l.sites)) library_bounded (λ l e. tt)

  product_bounded : (position : ℕ) → Bounded most_place (product_reply d position)
  unfolding product_reply
  product_bounded position = then_bounded most_place (library_reply d) _ library_bounded (λ l e. go l (ltb position (products l.sites)))
    where
      go : (l : Library) (t : Bool) → Bounded most_place (if_else t (λ _. read (made (product_at d l position))) (λ _. read done))
      go l true = tt
      go l false = tt

  step_bounded : (s : Sheet) (position n : ℕ) → Bounded most_place (step_reply s d position n)
  unfolding step_reply
  step_bounded s position n =
      then_bounded most_place (refuse_if (ltb longest_deck (length d)) 20 0) _ (if_bounded most_place (ltb longest_deck (length d)) 20 0 (omega arith)) (λ u e.
      then_bounded most_place (refuse_if (ltb n (sheet_bytes s)) 9 0) (λ _. product_reply d position) (if_bounded most_place (ltb n (sheet_bytes s)) 9 0 (omega arith)) (λ v f. product_bounded position))

next_bounded : (entries : ℕ) (x : Read Product) → Bounded most_place x → Bounded most_place (with_next entries x)
next_bounded entries (refused r) s = s
next_bounded entries (read done) s = tt
next_bounded entries (read (made x)) s = then_bounded most_place (refuse_if (ltb entries 1) 9 0) (λ _. read (made x)) (if_bounded most_place (ltb entries 1) 9 0 (omega arith)) (λ u e. tt)

-- THE LAW for a function that replies `step_code x`: 0 where a product is made, 254 where all are done
pub record Walks (x : Read Product) : Type 0 where
  pub fine : step_code x ≡ 0 → (i : Indices) × (x ≡ read (made i))
  pub ended : step_code x ≡ 254 → x ≡ read done
  pub refusal : (r : Refusal) → x ≡ refused r → Says (step_code x) r

walks : (x : Read Product) → Bounded most_place x → Walks x
walks (refused r) s =
    let t = tells {A = Product} (refused r) s in
    let says = t.refusal r refl in
    record {
      fine = λ e. absurd (let (a, f) = t.fine e in let z : ◌≡◌ {A = ℕ} 0 1 = cc in omega arith);
      ended = λ e. absurd (omega (arith, says.high, says.number, ap (λ (n : ℕ). n % 256) e));
      refusal = t.refusal;
    }
walks (read done) s = record { fine = λ e. absurd (omega (arith, e)); ended = λ e. refl; refusal = λ r e. absurd (let z : ◌≡◌ {A = ℕ} 0 1 = cc in omega arith) }
walks (read (made i)) s = record { fine = λ e. (i, refl); ended = λ e. absurd (omega (arith, e)); refusal = λ r e. absurd (let z : ◌≡◌ {A = ℕ} 0 1 = cc in omega arith) }

pub library_count_tells : (d : List ℕ) (room : ℕ) → Tells (fitting room (count_list d))
library_count_tells d room = lent room (count_list d) (listed (count_reply d) (λ n. n ∷ []) (count_bounded d))

-- a step's, and a run's
pub library_step_tells : (s : Sheet) (d : List ℕ) (position n entries : ℕ) → Walks (with_next entries (step_reply s d position n))
library_step_tells s d position n entries = walks (with_next entries (step_reply s d position n)) (next_bounded entries (step_reply s d position n) (step_bounded d s position n))

-- Laws. The product at a position is what the deck with that product's assembly written out describes: the same blocks, and an assembly where the library stood.
-- Assumes nothing.
use Rattle.std.specs.Prelude.{ℕ, ◌+◌, ◌*◌, ◌-◌, ◌≤◌, ◌<◌, ◌≡◌, drop}
use mathlib.Core.List.{List, [], ◌∷◌, ◌++◌}
use Rattle.std.proofs.Common.{sym, ◌∙◌, take-append-drop, length-take-le}
use Rattle.std.proofs.Math.Path.{ap, ap₂}
use native.Mathlib.Omega.{arith}
use borrow.Author.Tests.{eq-eqb, le-ltb}
use Rattle.std.proofs.Math.ListN.{length, take, length-append}
use Rattle.std.proofs.Math.Seq.{drop-append-add, take-length}
use Rattle.graph.specs.Assembly.{written}
use Rattle.reply.specs.Read.{read}
use Rattle.records.specs.Bytes.{little, le16}
use Rattle.records.specs.Longer.{little_behind}
use Rattle.records.specs.Records.{head_bytes, assembly_kind, length_at, kind_at, end_at, payload_at, wanted, kind_reply, is_wrong, length_reply, record_reply}
use Rattle.records.specs.Taken.{taken}
use Rattle.assembly.specs.Book.{Book, book_of}
use Rattle.assembly.specs.Placements.{placement_count, placement_at, graph_on, join_on, assembly_reply}
use Rattle.assembly.specs.declared.BlockAt.{BlockAt}
use Rattle.deck.specs.Deck.{longest_deck, Deck, deck_at, assembly_reply_at, blocks_reply, end_reply, sheet_reply, deck_reply}
use Rattle.deck.specs.Kept.{kept}
use Rattle.deck.specs.Sized.{blocks_short}
use Rattle.deck.specs.Followed.{book_same}
use Rattle.deck.specs.Carried.{carried}
use Rattle.deck.specs.Molecule.{placed_in, graph_at, join_at, molecule_of}
use Rattle.deck.specs.declared.Form.TheVariants.{Composed}
use Rattle.catalogue.specs.Library.{library_kind, Library, library_reply}
use Rattle.catalogue.specs.Products.{products, choice_at, product_bytes, assembly_at, molecule_over}
use Rattle.catalogue.specs.Written.{assembly_record, product_deck}
use Rattle.catalogue.proofs.Choices.{is_choice}
use Rattle.catalogue.proofs.Sound.{whole}
use Rattle.catalogue.proofs.Fine.{length_placed, count_is, product_fine}

-- behind some bytes, where it says how long it is
module _ (a ys : List ℕ) (n : length ys ≡ assembly_kind.fixed + assembly_kind.item * placement_count ys) where
  abbrev longer : List ℕ
  longer = a ++ assembly_record ys

  here : (k p : ℕ) → little k longer (length a + p) ≡ little k (assembly_record ys) p
  here k p = little_behind a (assembly_record ys) k p

  length_is : length_at longer (length a) ≡ length ys
  unfolding little assembly_record
  length_is = let z : length a ≡ length a + 0 = omega arith in ap (le16 longer) z ∙ here 2 0 ∙ omega arith

  kind_two : kind_at longer (length a) ≡ assembly_kind.number
  unfolding little assembly_record
  kind_two = here 2 2

  count_behind : le16 longer (length a + head_bytes + assembly_kind.count) ≡ placement_count ys
  unfolding little assembly_record
  count_behind = let z : length a + head_bytes + assembly_kind.count ≡ length a + 4 = omega arith in ap (le16 longer) z ∙ here 2 4

  size : length longer ≡ length a + 4 + length ys
  unfolding assembly_record
  size = length-append a (assembly_record ys) ∙ omega arith

  payload_is : payload_at longer (length a) ≡ ys
  unfolding assembly_record
  payload_is =
      ap (λ (m : ℕ). take m (drop (length a + head_bytes) longer)) length_is
      ∙ ap (take (length ys)) (drop-append-add a (assembly_record ys) 4)
      ∙ take-length ys

  record_is : record_reply (assembly_kind ∷ []) longer (length a) ≡ read tt
  unfolding record_reply kind_reply length_reply is_wrong
  record_is =
      let e : length_at longer (length a) ≡ wanted assembly_kind longer (length a) = length_is ∙ n ∙ ap (λ (m : ℕ). assembly_kind.fixed + assembly_kind.item * m) (sym count_behind) in
      rw (le-ltb (length longer) (end_at longer (length a)) (omega (arith, size, length_is)), eq-eqb (kind_at longer (length a)) assembly_kind.number kind_two, eq-eqb (length_at longer (length a)) (wanted assembly_kind longer (length a)) e)

  end_is : end_reply longer (end_at longer (length a)) ≡ read tt
  unfolding end_reply
  end_is = rw (le-ltb (end_at longer (length a)) (length longer) (omega (arith, size, length_is)))

  -- a deck that ends with it
  module _ (book : Book) (bs : List BlockAt) (short : length longer ≤ longest_deck) (b : blocks_reply assembly_kind longer ≡ read (deck_at longer bs (length a)))
      (same : book_of longer bs ≡ book) (fine : assembly_reply book ys ≡ read tt) where
    abbrev deck : Deck
    deck = deck_at longer bs (length a)

    molecule_is : molecule_of longer deck ≡ molecule_over book ys
    unfolding molecule_of graph_at join_at placed_in molecule_over
    molecule_is = ap₂ (λ (c : Book) (xs : List ℕ). written (graph_on c (placement_at xs)) (join_on (placement_at xs)) (placement_count xs - 1)) same payload_is

    assembly_fine : assembly_reply_at longer bs (length a) ≡ read tt
    unfolding assembly_reply_at
    assembly_fine = let e : assembly_reply (book_of longer bs) (payload_at longer (length a)) ≡ read tt = ap₂ assembly_reply same payload_is ∙ fine in rw e

    deck-read : deck_reply Composed longer ≡ read deck
    unfolding deck_reply sheet_reply
    deck-read = rw (le-ltb longest_deck (length longer) short, b, assembly_fine, end_is)

-- it is never too long, is not refused, and its molecule is the product's
pub record SameMolecule (d : List ℕ) (l : Library) (position : ℕ) : Type 0 where
  pub deck : Deck
  pub reads : deck_reply Composed (product_deck d l position) ≡ read deck
  pub molecule : molecule_of (product_deck d l position) deck ≡ molecule_over (book_of d l.blocks) (assembly_at d l position)

pub product_deck_lem : (d : List ℕ) (l : Library) (position : ℕ) → library_reply d ≡ read l → position < products l.sites → SameMolecule d l position
unfolding product_bytes
product_deck_lem d l position e h =
    let w = whole d l e in
    let k = w.deck in
    let ys = assembly_at d l position in
    let xs = payload_at d l.at in
    let js = choice_at l.sites position in
    let c = is_choice l.sites position h in
    let count = count_is (book_of d l.blocks) xs l.sites js w.listed c in
    let n : length ys ≡ assembly_kind.fixed + assembly_kind.item * placement_count ys = omega (arith, length_placed xs l.sites js c, count) in
    let a = take l.at d in
    let r = drop l.at d in
    let at : length a ≡ l.at = length-take-le l.at d (omega (arith, w.at, (taken d k.assembly (library_kind ∷ []) (kept library_kind d w.blocks).after).whole)) in
    let all : a ++ r ≡ d = take-append-drop l.at d in
    let two = kind_two a ys n in
    let short : length (a ++ assembly_record ys) ≤ longest_deck = omega (arith, size a ys n, at, w.at, n, count, w.listed.few, blocks_short library_kind d k w.blocks) in
    let (b, each) = carried a r (assembly_record ys) library_kind assembly_kind (record_is a ys n) (λ q. omega (arith, two, q)) (ap (λ (x : List ℕ). blocks_reply library_kind x) all ∙ w.blocks) (sym w.at ∙ sym at) in
    let same : book_of (a ++ assembly_record ys) k.blocks ≡ book_of d l.blocks =
    book_same a (assembly_record ys) k.blocks each ∙ sym (book_same a r k.blocks each) ∙ ap₂ book_of all (sym w.same) in
    let fine = product_fine d l position e h in
    let book = book_of d l.blocks in
    record {
      deck = deck_at (a ++ assembly_record ys) k.blocks (length a);
      reads = deck-read a ys n book k.blocks short b same fine;
      molecule = molecule_is a ys n book k.blocks short b same fine;
    }

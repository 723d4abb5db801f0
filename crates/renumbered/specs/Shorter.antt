-- Laws. A judged deck without its sheet composes: the same blocks, the same assembly, the same molecule; and what is behind it is a sheet. Assumes nothing.
use Rattle.std.specs.Prelude.{ℕ, ◌+◌, ◌*◌, ◌≤◌, List, [], ◌∷◌, ◌++◌, ◌≡◌, refl, take, drop}
use Rattle.std.proofs.Common.{append_assoc, ◌∙◌, ap₂, take-append-drop, length-take-le}
use Rattle.std.proofs.Math.Path.{sym, ap}
use Rattle.std.proofs.Math.Decide.{ℕ_discrete}
use native.Mathlib.Omega.{arith}
use borrow.Author.Tests.{eq-eqb, le-ltb, ltb-false}
use Rattle.std.proofs.Math.ListN.{length, length-append}
use Rattle.reply.specs.Read.{read}
use Rattle.reply.specs.Chain.{then-read, if_read}
use Rattle.records.specs.Bytes.{le16}
use Rattle.records.specs.Longer.{little_same, little_behind, payload_same}
use Rattle.records.specs.Records.{head_bytes, assembly_kind, sheet_kind, length_at, kind_at, payload_at, end_at, wanted, kind_reply, is_wrong, length_reply, record_reply}
use Rattle.records.specs.Taken.{taken, of_first, of_other, of_one, sheet_wants}
use Rattle.records.specs.declared.Sheet.{Sheet}
use Rattle.records.specs.declared.Sheet.TheVariants.{Five, Six}
use Rattle.assembly.specs.Book.{book_of}
use Rattle.assembly.specs.Placements.{placement_count, assembly_reply}
use Rattle.deck.specs.Deck.{longest_deck, Deck, deck_at, blocks_reply, assembly_reply_at, end_reply, sheet_reply, deck_reply}
use Rattle.deck.specs.Kept.{Each, Standing, kept}
use Rattle.deck.specs.Sound.{parts}
use Rattle.deck.specs.Followed.{book_same, same_molecule, IsSheet}
use Rattle.deck.specs.Carried.{carried}
use Rattle.deck.specs.Molecule.{molecule_of}
use Rattle.deck.specs.declared.Form.TheVariants.{Composed, Judged}

-- a sheet's record that may stand somewhere is of one of the two kinds
told_kind : (c : List ℕ) (at : ℕ) → record_reply (sheet_kind Five ∷ sheet_kind Six ∷ []) c at ≡ read tt
    → (kind : Sheet) × (kind_at c at ≡ (sheet_kind kind).number) × (length_at c at ≡ (sheet_kind kind).fixed)
told_kind c at e = go (ℕ_discrete (kind_at c at) (sheet_kind Five).number)
  where
    go : Dec (kind_at c at ≡ (sheet_kind Five).number) → (kind : Sheet) × (kind_at c at ≡ (sheet_kind kind).number) × (length_at c at ≡ (sheet_kind kind).fixed)
    go (yes p) = (Five, p, of_first c at (sheet_kind Five) (sheet_kind Six ∷ []) e p refl ∙ sheet_wants c at Five)
    go (no p) =
        let six = of_other c at (sheet_kind Five) (sheet_kind Six ∷ []) e p in
        let n = of_one c at (sheet_kind Six) six in
        (Six, n, of_first c at (sheet_kind Six) [] six n refl ∙ sheet_wants c at Six)

-- a deck, what is behind it, and where the sheet begins
module _ (d s : List ℕ) (k : Deck) (e : deck_reply Judged (d ++ s) ≡ read k) (z : k.sheet ≡ length d) where
  abbrev at : ℕ
  at = k.assembly

  after : record_reply (assembly_kind ∷ []) (d ++ s) at ≡ read tt
  after = (kept assembly_kind (d ++ s) (parts Judged (d ++ s) k e).blocks).after

  places : k ≡ deck_at (d ++ s) k.blocks at
  places = (kept assembly_kind (d ++ s) (parts Judged (d ++ s) k e).blocks).places

  end_is : end_at (d ++ s) at ≡ length d
  end_is = sym (ap (λ (x : Deck). x.sheet) places) ∙ z

  long : length_at (d ++ s) at ≡ wanted assembly_kind (d ++ s) at
  long = of_first (d ++ s) at assembly_kind [] after (of_one (d ++ s) at assembly_kind after) refl

  length_is : length_at d at ≡ length_at (d ++ s) at
  length_is = sym (little_same d s 2 at (omega (arith, end_is)))

  kind_is : kind_at d at ≡ assembly_kind.number
  kind_is = sym (little_same d s 2 (at + 2) (omega (arith, end_is))) ∙ of_one (d ++ s) at assembly_kind after

  long_still : length_at d at ≡ wanted assembly_kind d at
  long_still =
      length_is
      ∙ long
      ∙ ap (λ (m : ℕ). assembly_kind.fixed + assembly_kind.item * m) (little_same d s 2 (at + head_bytes + assembly_kind.count) (omega (arith, end_is, long)))

  end_still : end_at d at ≡ length d
  end_still = ap (λ (n : ℕ). at + head_bytes + n) length_is ∙ end_is

  after_still : record_reply (assembly_kind ∷ []) d at ≡ read tt
  unfolding record_reply kind_reply length_reply is_wrong
  after_still =
      rw (
        le-ltb (length d) (end_at d at) (omega (arith, end_still)),
        eq-eqb (kind_at d at) assembly_kind.number kind_is,
        eq-eqb (length_at d at) (wanted assembly_kind d at) long_still,
      )

  payload_still : payload_at (d ++ s) at ≡ payload_at d at
  payload_still = payload_same d s at (omega (arith, end_still))

  abbrev a : List ℕ
  a = take at d

  abbrev r : List ℕ
  r = drop at d

  whole : a ++ r ≡ d
  whole = take-append-drop at d

  here : length a ≡ at
  here = length-take-le at d (omega (arith, end_still))

  whole_longer : a ++ (r ++ s) ≡ d ++ s
  whole_longer = sym (append_assoc a r s) ∙ ap (λ (l : List ℕ). l ++ s) whole

  next : record_reply (assembly_kind ∷ []) (a ++ r) (length a) ≡ read tt
  next = ap₂ (λ (l : List ℕ) (n : ℕ). record_reply (assembly_kind ∷ []) l n) whole here ∙ after_still

  other : kind_at (a ++ r) (length a) ≡ 1 → ⊥
  other w = let y : kind_at (a ++ r) (length a) ≡ kind_at d at = ap₂ (λ (l : List ℕ) (n : ℕ). kind_at l n) whole here in omega (arith, w, y, kind_is)

  blocks_there : (blocks_reply assembly_kind (a ++ r) ≡ read (deck_at (a ++ r) k.blocks (length a))) × Each (Standing a) k.blocks
  blocks_there = carried a (r ++ s) r assembly_kind assembly_kind next other (ap (blocks_reply assembly_kind) whole_longer ∙ (parts Judged (d ++ s) k e).blocks) (sym here)

  deck_same : deck_at d k.blocks at ≡ k
  deck_same =
      ap₂ (λ (n m : ℕ). record { blocks = k.blocks; assembly = at; placements = n; sheet = m }) (ap placement_count (sym payload_still)) (end_still ∙ sym end_is)
      ∙ sym places

  blocks_still : blocks_reply assembly_kind d ≡ read k
  blocks_still =
      ap (blocks_reply assembly_kind) (sym whole)
      ∙ blocks_there.0
      ∙ ap₂ (λ (l : List ℕ) (n : ℕ). read (deck_at l k.blocks n)) whole here
      ∙ ap read deck_same

  books : book_of d k.blocks ≡ book_of (d ++ s) k.blocks
  books =
      ap (λ (l : List ℕ). book_of l k.blocks) (sym whole)
      ∙ book_same a r k.blocks blocks_there.1
      ∙ sym (book_same a (r ++ s) k.blocks blocks_there.1)
      ∙ ap (λ (l : List ℕ). book_of l k.blocks) whole_longer

  assembly_still : assembly_reply (book_of d k.blocks) (payload_at d at) ≡ read tt
  assembly_still = ap₂ assembly_reply books (sym payload_still) ∙ (parts Judged (d ++ s) k e).assembly

  -- A JUDGED DECK WITHOUT ITS SHEET COMPOSES
  pub composes : deck_reply Composed d ≡ read k
  unfolding deck_reply assembly_reply_at sheet_reply end_reply
  composes =
      rw (
        le-ltb longest_deck (length d) (omega (arith, length-append d s, (parts Judged (d ++ s) k e).short)),
        blocks_still,
        assembly_still,
        le-ltb k.sheet (length d) (omega (arith, z)),
      )

  -- AND WHAT IS BEHIND IT IS A SHEET
  pub is_sheet : (kind : Sheet) × IsSheet kind s
  unfolding sheet_reply end_reply
  is_sheet =
      let (u, p, f) = then-read (record_reply (sheet_kind Five ∷ sheet_kind Six ∷ []) (d ++ s) k.sheet) _ (parts Judged (d ++ s) k e).sheet in
      let (kind, n, m) = told_kind (d ++ s) k.sheet p in
      let zero : length d + 0 ≡ length d = omega arith in
      let end : length_at (d ++ s) (length d) ≡ length_at (d ++ s) k.sheet = ap (le16 (d ++ s)) (sym z) in
      let two : le16 (d ++ s) (length d + 2) ≡ kind_at (d ++ s) k.sheet = ap (λ (i : ℕ). le16 (d ++ s) (i + 2)) (sym z) in
      let first = (taken (d ++ s) k.sheet (sheet_kind Five ∷ sheet_kind Six ∷ []) p).whole in
      let last = ltb-false (end_at (d ++ s) k.sheet) (length (d ++ s)) (if_read _ 11 (end_at (d ++ s) k.sheet) f) in (
        kind,
        record {
          size = omega (arith, first, last, length-append d s, z, m);
          payload = sym (little_behind d s 2 0) ∙ ap (le16 (d ++ s)) zero ∙ end ∙ m;
          kind = sym (little_behind d s 2 2) ∙ two ∙ n;
        },
      )

-- of the deck as it is judged
module _ (d : List ℕ) (k : Deck) (e : deck_reply Judged d ≡ read k) where
  sheet_within : k.sheet ≤ length d
  sheet_within =
      let q = kept assembly_kind d (parts Judged d k e).blocks in
      omega (arith, (taken d k.assembly (assembly_kind ∷ []) q.after).whole, ap (λ (x : Deck). x.sheet) q.places)

  abbrev bare : List ℕ
  bare = take k.sheet d

  abbrev sheet : List ℕ
  sheet = drop k.sheet d

  both : bare ++ sheet ≡ d
  both = take-append-drop k.sheet d

  size : k.sheet ≡ length bare
  size = sym (length-take-le k.sheet d sheet_within)

  pub without_sheet : deck_reply Composed (take k.sheet d) ≡ read k
  without_sheet = composes bare sheet k (ap (deck_reply Judged) both ∙ e) size

  pub without_molecule : molecule_of d k ≡ molecule_of (take k.sheet d) k
  without_molecule = ap (λ (l : List ℕ). molecule_of l k) (sym both) ∙ same_molecule bare k without_sheet sheet

  pub sheet_behind : (kind : Sheet) × IsSheet kind (drop k.sheet d)
  sheet_behind = is_sheet bare sheet k (ap (deck_reply Judged) both ∙ e) size

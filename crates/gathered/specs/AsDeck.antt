-- Laws. The deck of a queue's blocks and a record is told what the record is told over the blocks, its place counted behind them. Assumes nothing.
use Prim.Native.Nat.{ℕ, suc, ◌+◌, ◌*◌, ◌-◌, ◌/◌, ◌%◌, ◌≤◌, ◌<◌}
use Rattle.std.specs.Prelude.{Bool, ◌&&◌, not, cond, ◌≡◌, take}
use Rattle.std.proofs.Math.Bool.{true, false}
use mathlib.Core.List.{List, [], ◌∷◌, ◌++◌, append_assoc, append-nil}
use Rattle.std.proofs.Math.Path.{refl, sym, ap, ap₂, fun_ext}
use Rattle.std.proofs.Common.{◌∙◌}
use native.Mathlib.Omega.{arith}
use borrow.Author.Tests.{eq-eqb, ne_eqb, eqb-true, lt-ltb, le-ltb, ltb-true, ltb-false, lt-leb, not-false}
use Rattle.std.proofs.Math.Dec.{eqb, ltb}
use Rattle.std.proofs.Math.ListN.{length, length-append}
use Rattle.std.proofs.Math.Seq.{take_at, drop-append-add}
use Rattle.graph.specs.Graph.{Graph}
use Rattle.graph.specs.Assembly.{written}
use Rattle.reply.specs.Read.{Read, refused, read, ◌then◌, refuse_if, refusal}
use Rattle.reply.specs.Chain.{neither}
use Rattle.block.specs.Block.{most_bytes, graph_of}
use Rattle.block.specs.Told.{passed, few_atoms}
use Rattle.block.specs.Index.{indices_of}
use Rattle.block.specs.declared.Indices.{Indices}
use Rattle.records.specs.Bytes.{little, le16, part, little_bytes}
use Rattle.records.specs.declared.Kind.{Kind}
use Rattle.records.specs.Records.{head_bytes, block_kind, assembly_kind, length_at, kind_at, payload_at, end_at, wanted, kind_reply, is_wrong, length_reply, record_reply}
use Rattle.records.specs.Longer.{little_behind}
use Rattle.assembly.specs.declared.BlockAt.{BlockAt}
use Rattle.assembly.specs.Book.{Book, find, bond_bytes, book_of, most_blocks}
use Rattle.assembly.specs.Placements.{placement_count, placement_at, graph_on, join_on, assembly_reply}
use Rattle.deck.specs.Deck.{longest_deck, Deck, deck_at, block_at, kinds_after, moved, placement_place, block_reply_at, blocks_from, blocks_reply, assembly_reply_at, end_reply, sheet_reply, deck_reply}
use Rattle.deck.specs.Molecule.{placed_in, graph_at, join_at, molecule_of}
use Rattle.deck.specs.declared.Form.TheVariants.{Composed}
use Rattle.compose.specs.Fields.{fields_reply}
use Rattle.queues.specs.Shelf.{places}
use Rattle.queues.specs.Model.{Entry, lookup, has}
use Rattle.queues.specs.Entries.{absent, Apart}
use Rattle.queues.specs.Keeps.{Proper, AllProper}
use Rattle.summaries.specs.Written.{written_reply}
use Rattle.queues.specs.Blocks.{Block, no_block, book_in}
use Rattle.gathered.specs.Gathered.{behind_head, over_record}
use Rattle.gathered.specs.Orders.{record_table, record_blocks}
use Rattle.gathered.specs.Stacked.{HeldBlocks, block_record, block_records, further}

abbrev Blocks : Type 0
Blocks = List (Entry Block)

-- a block that may stand in a deck
abbrev Fit : Entry Block → Type 0
Fit e = Proper record_table record_blocks e

abbrev AllFit : Blocks → Type 0
AllFit q = AllProper record_table record_blocks q

-- the bonds of a block that is not refused are pairs of bytes, and few
module _ (e : Entry Block) (p : Fit e) where
  even : length e.goods.bytes % 2 ≡ 0
  even = eqb-true (length e.goods.bytes % 2) 0 (not-false _ (neither (not (eqb (length e.goods.bytes % 2) 0)) (ltb most_bytes (length e.goods.bytes)) (passed e.goods.atoms e.goods.bytes p.fine).bytes).0)

  pub few : length e.goods.bytes ≤ most_bytes
  few = ltb-false most_bytes (length e.goods.bytes) (neither (not (eqb (length e.goods.bytes % 2) 0)) (ltb most_bytes (length e.goods.bytes)) (passed e.goods.atoms e.goods.bytes p.fine).bytes).1

  small_atoms : e.goods.atoms < 65536
  small_atoms = omega (arith, few_atoms e.goods.atoms e.goods.bytes p.fine)

-- reading behind other bytes
part_front : (a b : List ℕ) (i len : ℕ) → part (a ++ b) (length a + i) len ≡ part b i len
part_front a b i len = ap (take len) (drop-append-add a b i)

-- and a test behind other bytes
ltb_behind : (n a b : ℕ) → ltb (n + a) (n + b) ≡ ltb a b
ltb_behind n a b = go (ltb a b) refl
  where
    go : (t : Bool) → ltb a b ≡ t → ltb (n + a) (n + b) ≡ t
    go true e = lt-ltb (n + a) (n + b) (omega (arith, ltb-true a b e))
    go false e = le-ltb (n + a) (n + b) (omega (arith, ltb-false a b e))

pub size : (e : Entry Block) → length (block_record e) ≡ 10 + length e.goods.bytes
unfolding block_record little_bytes
size e = omega arith

-- what the record of a block says, behind other bytes and before others
module _ (a r : List ℕ) (e : Entry Block) (p : Fit e) where
  says_length : little 2 (block_record e ++ r) 0 ≡ 6 + length e.goods.bytes
  unfolding block_record little_bytes little
  says_length = omega (arith, few e p)

  says_kind : little 2 (block_record e ++ r) 2 ≡ 1
  unfolding block_record little_bytes little
  says_kind = refl

  says_number : little 2 (block_record e ++ r) 4 ≡ e.number
  unfolding block_record little_bytes little
  says_number = omega (arith, p.small)

  says_atoms : little 2 (block_record e ++ r) 6 ≡ e.goods.atoms
  unfolding block_record little_bytes little
  says_atoms = omega (arith, small_atoms e p)

  says_bonds : 2 * little 2 (block_record e ++ r) 8 ≡ length e.goods.bytes
  unfolding block_record little_bytes little
  says_bonds = let h : length e.goods.bytes / 2 < 65536 = omega (arith, few e p) in omega (arith, even e p)

  says_bytes : part (block_record e ++ r) 10 (length e.goods.bytes) ≡ e.goods.bytes
  unfolding block_record little_bytes
  says_bytes = take_at e.goods.bytes r (length e.goods.bytes) refl

  abbrev d : List ℕ
  d = a ++ (block_record e ++ r)

  at : (i j : ℕ) → j ≡ length a + i → little 2 d j ≡ little 2 (block_record e ++ r) i
  at i j h = ap (little 2 d) h ∙ little_behind a (block_record e ++ r) 2 i

  pub length_there : length_at d (length a) ≡ 6 + length e.goods.bytes
  length_there = at 0 (length a) (omega arith) ∙ says_length

  pub kind_there : kind_at d (length a) ≡ 1
  kind_there = at 2 (length a + 2) refl ∙ says_kind

  pub number_there : (block_at d (length a)).number ≡ e.number
  number_there = at 4 (length a + head_bytes) refl ∙ says_number

  pub atoms_there : (block_at d (length a)).atoms ≡ e.goods.atoms
  atoms_there = at 6 (length a + head_bytes + 2) (omega arith) ∙ says_atoms

  bonds_there : block_kind.item * (block_at d (length a)).bonds ≡ length e.goods.bytes
  bonds_there = ap (λ (m : ℕ). 2 * m) (at 8 (length a + head_bytes + 4) (omega arith)) ∙ says_bonds

  pub bytes_there : bond_bytes d (block_at d (length a)) ≡ e.goods.bytes
  bytes_there =
      let z : length a + head_bytes + 6 ≡ length a + 10 = omega arith in
      ap₂ (λ (f m : ℕ). part d f m) z bonds_there ∙ part_front a (block_record e ++ r) 10 (length e.goods.bytes) ∙ says_bytes

  pub end_there : end_at d (length a) ≡ length (a ++ block_record e)
  end_there = omega (arith, length_there, size e, length-append a (block_record e))

  within : end_at d (length a) ≤ length d
  within = omega (arith, end_there, length-append a (block_record e), length-append a (block_record e ++ r), length-append (block_record e) r)

  -- the record is taken, whatever may stand there besides a block
  pub record_there : (ks : List Kind) → record_reply (block_kind ∷ ks) d (length a) ≡ read tt
  unfolding record_reply kind_reply length_reply is_wrong
  record_there ks =
      let w : length_at d (length a) ≡ wanted block_kind d (length a) = omega (arith, length_there, bonds_there) in
      rw (le-ltb (length d) (end_at d (length a)) within, kind_there, eq-eqb (length_at d (length a)) (wanted block_kind d (length a)) w)

-- blocks of a deck that are those of a queue, in its order
abbrev entry_in : List ℕ → BlockAt → Entry Block
entry_in d b = record { number = b.number; goods = record { atoms = b.atoms; bytes = bond_bytes d b } }

abbrev pub Describes : List ℕ → List BlockAt → Blocks → Type 0
Describes d [] [] = Unit {0}
Describes d [] (e ∷ q) = ⊥
Describes d (b ∷ bs) [] = ⊥
Describes d (b ∷ bs) (e ∷ q) = (entry_in d b ≡ e) × Describes d bs q

describes_more : (d : List ℕ) (bs : List BlockAt) (q : Blocks) (b : BlockAt) (e : Entry Block) → Describes d bs q → entry_in d b ≡ e → Describes d (bs ++ (b ∷ [])) (q ++ (e ∷ []))
describes_more d [] [] b e h i = (i, tt)
describes_more d [] (f ∷ q) b e h i = absurd h
describes_more d (c ∷ bs) [] b e h i = absurd h
describes_more d (c ∷ bs) (f ∷ q) b e h i = (h.0, describes_more d bs q b e h.1 i)

describes_length : (d : List ℕ) (bs : List BlockAt) (q : Blocks) → Describes d bs q → length bs ≡ length q
describes_length d [] [] h = refl
describes_length d [] (e ∷ q) h = absurd h
describes_length d (b ∷ bs) [] h = absurd h
describes_length d (b ∷ bs) (e ∷ q) h = ap suc (describes_length d bs q h.1)

describes_find : (d : List ℕ) (bs : List BlockAt) (q : Blocks) → Describes d bs q → (x : ℕ) → entry_in d (find bs x) ≡ lookup no_block q x
unfolding find lookup
describes_find d [] [] h x = refl
describes_find d [] (e ∷ q) h x = absurd h
describes_find d (b ∷ bs) [] h x = absurd h
describes_find d (b ∷ bs) (e ∷ q) h x = go (eqb b.number x) (ap (λ (f : Entry Block). eqb f.number x) h.0) (describes_find d bs q h.1 x)
  where
    go : (t : Bool) → t ≡ eqb e.number x → entry_in d (find bs x) ≡ lookup no_block q x → entry_in d (cond t b (find bs x)) ≡ cond (eqb e.number x) e (lookup no_block q x)
    go true t more = rw (← t) h.0
    go false t more = rw (← t) more

pub describes_book : (d : List ℕ) (bs : List BlockAt) (q : Blocks) → Describes d bs q → book_of d bs ≡ book_in q
unfolding book_of has
describes_book d bs q h =
    ap₂ (λ (f : ℕ → Bool) (g : ℕ → Graph). record { has = f; graph = g })
    (fun_ext (λ x. ap (λ (e : Entry Block). not (eqb x 0) && eqb e.number x) (describes_find d bs q h x)))
    (fun_ext (λ x. ap (λ (e : Entry Block). graph_of e.goods.atoms e.goods.bytes) (describes_find d bs q h x)))

-- a queue's later block has no number of an earlier one
later_number : (p : Blocks) (e : Entry Block) (r : Blocks) → (lookup no_block (p ++ (e ∷ r)) e.number).number ≡ e.number
unfolding lookup
later_number [] e r = rw (eq-eqb e.number e.number refl)
later_number (f ∷ p) e r = go (eqb f.number e.number) refl (later_number p e r)
  where
    go : (t : Bool) → eqb f.number e.number ≡ t → (lookup no_block (p ++ (e ∷ r)) e.number).number ≡ e.number → (cond t f (lookup no_block (p ++ (e ∷ r)) e.number)).number ≡ e.number
    go true t more = eqb-true f.number e.number t
    go false t more = more

earlier_none : (p : Blocks) (e : Entry Block) (r : Blocks) → 1 ≤ e.number → Apart no_block (p ++ (e ∷ r)) → lookup no_block p e.number ≡ absent no_block
unfolding lookup
earlier_none [] e r h a = refl
earlier_none (f ∷ p) e r h a = go (eqb f.number e.number) refl (earlier_none p e r h a.1)
  where
    go : (t : Bool) → eqb f.number e.number ≡ t → lookup no_block p e.number ≡ absent no_block → cond t f (lookup no_block p e.number) ≡ absent no_block
    go true t more =
        let z : lookup no_block (p ++ (e ∷ r)) e.number ≡ absent no_block = ap (lookup no_block (p ++ (e ∷ r))) (sym (eqb-true f.number e.number t)) ∙ a.0 in
        absurd (omega (arith, h, sym (later_number p e r) ∙ ap (λ (w : Entry Block). w.number) z))
    go false t more = more

-- the last record, behind other bytes
module _ (a d : List ℕ) where
  front_length : length_at (a ++ d) (length a) ≡ length_at d 0
  front_length = let z : length a ≡ length a + 0 = omega arith in ap (little 2 (a ++ d)) z ∙ little_behind a d 2 0

  front_kind : kind_at (a ++ d) (length a) ≡ kind_at d 0
  front_kind = little_behind a d 2 2

  front_count : le16 (a ++ d) (length a + head_bytes + assembly_kind.count) ≡ le16 d (0 + head_bytes + assembly_kind.count)
  front_count = let z : length a + head_bytes + assembly_kind.count ≡ length a + 4 = omega arith in ap (little 2 (a ++ d)) z ∙ little_behind a d 2 4

  pub front_payload : payload_at (a ++ d) (length a) ≡ payload_at d 0
  front_payload = ap (λ (m : ℕ). part (a ++ d) (length a + 4) m) front_length ∙ part_front a d 4 (length_at d 0)

  pub front_end : end_at (a ++ d) (length a) ≡ length a + end_at d 0
  front_end = omega (arith, front_length)

-- a block's record is read, and then the rest
module _ (a r : List ℕ) (e : Entry Block) (p : Fit e) (done : List BlockAt) (new : eqb (find done e.number).number e.number ≡ false) (few : length done < most_blocks) where
  kinds_there : record_reply (kinds_after done assembly_kind) (a ++ (block_record e ++ r)) (length a) ≡ read tt
  kinds_there = go done
    where
      go : (bs : List BlockAt) → record_reply (kinds_after bs assembly_kind) (a ++ (block_record e ++ r)) (length a) ≡ read tt
      go [] = record_there a r e p []
      go (b ∷ bs) = record_there a r e p (assembly_kind ∷ [])

  block_there : block_reply_at (a ++ (block_record e ++ r)) (length a) done ≡ read tt
  unfolding block_reply_at
  block_there =
      rw (bytes_there a r e p, atoms_there a r e p, number_there a r e p, ne_eqb e.number 0 (λ z. omega (arith, p.positive)), new, lt-leb most_blocks (length done) few, p.fine)

  pub block_step : (fuel : ℕ) → blocks_from (suc fuel) assembly_kind (a ++ (block_record e ++ r)) (length a) done
      ≡ blocks_from fuel assembly_kind (a ++ (block_record e ++ r)) (length (a ++ block_record e)) (done ++ (block_at (a ++ (block_record e ++ r)) (length a) ∷ []))
  unfolding blocks_from
  block_step fuel = rw (kinds_there, kind_there a r e p, block_there, end_there a r e p)

-- all blocks of a queue are read, one by one
entry_there : (a r : List ℕ) (x : Entry Block) (k : Fit x) → entry_in (a ++ (block_record x ++ r)) (block_at (a ++ (block_record x ++ r)) (length a)) ≡ x
entry_there a r x k = rw (bytes_there a r x k, atoms_there a r x k, number_there a r x k)

unused : (all : List ℕ) (done : List BlockAt) (p : Blocks) → Describes all done p → (x : Entry Block) → 1 ≤ x.number → lookup no_block p x.number ≡ absent no_block → eqb (find done x.number).number x.number ≡ false
unused all done p s x l n =
    let z : (find done x.number).number ≡ 0 = ap (λ (w : Entry Block). w.number) (describes_find all done p s x.number ∙ n) in
    rw z (ne_eqb 0 x.number (λ y. omega arith))

module _ (d : List ℕ) where
  abbrev Goal : Blocks → List ℕ → List BlockAt → Blocks → List ℕ → ℕ → Type 0
  Goal q a done p all fuel =
      (bs : List BlockAt) × (blocks_from (length q + fuel) assembly_kind all (length a) done ≡ blocks_from fuel assembly_kind all (length a + length (block_records q)) bs) × Describes all bs (p ++ q)

  blocks_read : (q : Blocks) (a : List ℕ) (done : List BlockAt) (p : Blocks) (all : List ℕ) → all ≡ a ++ (block_records q ++ d) → Describes all done p → AllFit q → Apart no_block (p ++ q)
      → length p + length q ≤ places → (fuel : ℕ) → Goal q a done p all fuel
  unfolding block_records
  blocks_read [] a done p all e s k z l fuel =
      let w : length a + 0 ≡ length a = omega arith in
      let f : 0 + fuel ≡ fuel = omega arith in
      (done, rw (w, f), rw (append-nil p) s)
  blocks_read (x ∷ q) a done p all e s k z l fuel =
      let r = block_records q ++ d in
      let e₁ : all ≡ a ++ (block_record x ++ r) = e ∙ ap (λ (t : List ℕ). a ++ t) (append_assoc (block_record x) (block_records q) d) in
      let e₂ : all ≡ (a ++ block_record x) ++ r = e₁ ∙ sym (append_assoc a (block_record x) r) in
      let there : entry_in all (block_at all (length a)) ≡ x
      = ap (λ (t : List ℕ). entry_in t (block_at t (length a))) e₁ ∙ entry_there a r x k.0 in
      let new : eqb (find done x.number).number x.number ≡ false = unused all done p s x k.0.positive (earlier_none p x q k.0.positive z) in
      let few : length done < most_blocks = omega (arith, describes_length all done p s) in
      let f : suc (length q) + fuel ≡ suc (length q + fuel) = omega arith in
      let step = ap (λ (t : List ℕ). blocks_from (suc (length q + fuel)) assembly_kind t (length a) done) e₁
      ∙ block_step a r x k.0 done new few (length q + fuel)
      ∙ ap (λ (t : List ℕ). blocks_from (length q + fuel) assembly_kind t (length (a ++ block_record x)) (done ++ (block_at t (length a) ∷ []))) (sym e₁) in
      let assoc : (p ++ (x ∷ [])) ++ q ≡ p ++ (x ∷ q) = append_assoc p (x ∷ []) q in
      let n : length (p ++ (x ∷ [])) ≡ length p + 1 = length-append p (x ∷ []) in
      let (bs, t, u) = blocks_read q (a ++ block_record x) (done ++ (block_at all (length a) ∷ [])) (p ++ (x ∷ [])) all e₂ (describes_more all done p (block_at all (length a)) x s there) k.1 (rw assoc z) (omega arith) fuel in
      let place : length (a ++ block_record x) + length (block_records q) ≡ length a + length (block_record x ++ block_records q)
      = omega (arith, length-append a (block_record x), length-append (block_record x) (block_records q)) in
      (bs, ap (λ (m : ℕ). blocks_from m assembly_kind all (length a) done) f ∙ step ∙ t ∙ ap (λ (i : ℕ). blocks_from fuel assembly_kind all i bs) place, rw (← assoc) u)

-- The reply to the deck of a queue's blocks and a record is the reply over that record, its place counted behind the blocks. (A block record would be one more block.)
module _ (q : Blocks) (held : HeldBlocks q) (some : 1 ≤ length q) (d : List ℕ) (other : kind_at d 0 ≡ 1 → ⊥)
    (long : length (block_records q ++ d) ≤ longest_deck) where
  abbrev all : List ℕ
  all = block_records q ++ d

  abbrev place : ℕ
  place = length (block_records q)

  blocks_there : (bs : List BlockAt) × (blocks_from 17 assembly_kind all 0 [] ≡ blocks_from (suc (16 - length q)) assembly_kind all place bs) × Describes all bs q
  blocks_there =
      let few = held.few in
      let (bs, e, s) = blocks_read d q [] [] [] all refl tt held.proper held.apart (omega arith) (17 - length q) in
      let f : length q + (17 - length q) ≡ 17 = omega arith in
      let g : 17 - length q ≡ suc (16 - length q) = omega arith in
      let w : 0 + place ≡ place = omega arith in
      (bs, ap (λ (m : ℕ). blocks_from m assembly_kind all 0 []) (sym f) ∙ e ∙ ap₂ (λ (m i : ℕ). blocks_from m assembly_kind all i bs) g w, s)

  abbrev blocks : List BlockAt
  blocks = blocks_there.0

  abbrev deck : Deck
  deck = deck_at all blocks place

  book_is : book_of all blocks ≡ book_in q
  book_is = describes_book all blocks q blocks_there.2

  payload_is : payload_at all place ≡ payload_at d 0
  payload_is = front_payload (block_records q) d

  -- the record's own refusals
  here : place ≡ place + 0
  here = omega arith

  length_is : length_reply assembly_kind all place ≡ further place (length_reply assembly_kind d 0)
  unfolding length_reply is_wrong
  length_is =
      ap₂ (λ (n m : ℕ). refuse_if (not (eqb n (assembly_kind.fixed + assembly_kind.item * m))) 13 place) (front_length (block_records q) d) (front_count (block_records q) d)
      ∙ go (eqb (length_at d 0) (wanted assembly_kind d 0))
    where
      go : (v : Bool) → refuse_if (not v) 13 place ≡ further place (refuse_if (not v) 13 0)
      go true = refl
      go false = ap (λ (i : ℕ). refused (refusal 13 i)) here

  record_is : record_reply (block_kind ∷ assembly_kind ∷ []) all place ≡ further place (record_reply (assembly_kind ∷ []) d 0)
  unfolding record_reply kind_reply
  record_is =
      rw (short_is, front_kind (block_records q) d, ne_eqb (kind_at d 0) 1 other)
      (go (ltb (length d) (end_at d 0)) (eqb (kind_at d 0) 2))
    where
      short_is : ltb (length all) (end_at all place) ≡ ltb (length d) (end_at d 0)
      short_is = ap₂ ltb (length-append (block_records q) d) (front_end (block_records q) d) ∙ ltb_behind place (length d) (end_at d 0)

      go : (t u : Bool) → (refuse_if t 11 place then λ _. cond u (read assembly_kind) (refused (refusal 12 place)) then λ c. length_reply c all place)
          ≡ further place (refuse_if t 11 0 then λ _. cond u (read assembly_kind) (refused (refusal 12 0)) then λ c. length_reply c d 0)
      go true u = ap (λ (i : ℕ). refused (refusal 11 i)) here
      go false false = ap (λ (i : ℕ). refused (refusal 12 i)) here
      go false true = length_is

  last_is : (fuel : ℕ) (b : BlockAt) (bs : List BlockAt) → blocks_from (suc fuel) assembly_kind all place (b ∷ bs) ≡ (further place (record_reply (assembly_kind ∷ []) d 0) then λ _. read (deck_at all (b ∷ bs) place))
  unfolding blocks_from
  last_is fuel b bs = rw (record_is, front_kind (block_records q) d, ne_eqb (kind_at d 0) 1 other)

  -- the blocks are read up to it
  blocks_reply_lem : blocks_from 17 assembly_kind all 0 [] ≡ (further place (record_reply (assembly_kind ∷ []) d 0) then λ _. read deck)
  blocks_reply_lem = blocks_there.1 ∙ last blocks (omega (arith, describes_length all blocks q blocks_there.2))
    where
      last : (bs : List BlockAt) → 1 ≤ length bs → blocks_from (suc (16 - length q)) assembly_kind all place bs ≡ (further place (record_reply (assembly_kind ∷ []) d 0) then λ _. read (deck_at all bs place))
      last [] l = absurd (omega arith)
      last (b ∷ bs) l = last_is (16 - length q) b bs

  -- what is refused of the record, and then something
  abbrev fine : {A : Type 0} → A → Read A
  fine x =
      record_reply (assembly_kind ∷ []) d 0 then λ _.
      moved (placement_place 0) (assembly_reply (book_in q) (payload_at d 0)) then λ _.
      end_reply d (end_at d 0) then λ _.
      read x

  deck_reply_lem : deck_reply Composed all ≡ further place (fine deck)
  unfolding deck_reply blocks_reply assembly_reply_at sheet_reply end_reply
  deck_reply_lem =
      rw (le-ltb longest_deck (length all) long, blocks_reply_lem)
      (go (record_reply (assembly_kind ∷ []) d 0))
    where
      ends : (i j : ℕ) → i ≡ place + j → (t : Bool) → (refuse_if t 11 i then λ _. read deck) ≡ further place (refuse_if t 11 j then λ _. read deck)
      ends i j e true = ap (λ (n : ℕ). refused (refusal 11 n)) e
      ends i j e false = refl

      end_is : ltb (end_at all place) (length all) ≡ ltb (end_at d 0) (length d)
      end_is = ap₂ ltb (front_end (block_records q) d) (length-append (block_records q) d) ∙ ltb_behind place (end_at d 0) (length d)

      rest : (m : Read (Unit {0})) → (moved (placement_place place) m then λ _. refuse_if (ltb (end_at all place) (length all)) 11 (end_at all place) then λ _. read deck)
          ≡ further place (moved (placement_place 0) m then λ _. refuse_if (ltb (end_at d 0) (length d)) 11 (end_at d 0) then λ _. read deck)
      rest (refused r) = let w : placement_place place r ≡ place + placement_place 0 r = omega arith in ap (λ (i : ℕ). refused (refusal r.number i)) w
      rest (read u) = rw end_is (ends (end_at all place) (end_at d 0) (front_end (block_records q) d) (ltb (end_at d 0) (length d)))

      go : (m : Read (Unit {0}))
          → ((further place m then λ _. read deck) then λ c. moved (placement_place c.assembly) (assembly_reply (book_of all c.blocks) (payload_at all c.assembly)) then λ _. refuse_if (ltb c.sheet (length all)) 11 c.sheet then λ _. read c)
          ≡ further place (m then λ _. moved (placement_place 0) (assembly_reply (book_in q) (payload_at d 0)) then λ _. refuse_if (ltb (end_at d 0) (length d)) 11 (end_at d 0) then λ _. read deck)
      go (refused r) = refl
      go (read u) =
          ap (λ (m : Read (Unit {0})). moved (placement_place place) m then λ _. refuse_if (ltb (end_at all place) (length all)) 11 (end_at all place) then λ _. read deck) (ap₂ assembly_reply book_is payload_is)
          ∙ rest (assembly_reply (book_in q) (payload_at d 0))

  abbrev whole : Graph
  whole = let xs = payload_at d 0 in written (graph_on (book_in q) (placement_at xs)) (join_on (placement_at xs)) (placement_count xs - 1)

  molecule_is : molecule_of all deck ≡ whole
  unfolding molecule_of graph_at join_at placed_in
  molecule_is = ap₂ (λ (b : Book) (xs : List ℕ). written (graph_on b (placement_at xs)) (join_on (placement_at xs)) (placement_count xs - 1)) book_is payload_is

  fields_reply_lem : fields_reply Composed all ≡ further place (fine (indices_of whole))
  unfolding fields_reply
  fields_reply_lem = rw deck_reply_lem (go (record_reply (assembly_kind ∷ []) d 0) (moved (placement_place 0) (assembly_reply (book_in q) (payload_at d 0))) (end_reply d (end_at d 0)))
    where
      go : (a b c : Read (Unit {0})) → (further place (a then λ _. b then λ _. c then λ _. read deck) then λ k. read (indices_of (molecule_of all k)))
          ≡ further place (a then λ _. b then λ _. c then λ _. read (indices_of whole))
      go (refused r) b c = refl
      go (read u) (refused r) c = refl
      go (read u) (read v) (refused r) = refl
      go (read u) (read v) (read w) = ap (λ (g : Graph). read (indices_of g)) molecule_is

  record_fine : fine (indices_of whole) ≡ over_record (written_reply (book_in q) (payload_at d 0)) d
  unfolding over_record behind_head written_reply
  record_fine = ap (λ (m : Read Indices). record_reply (assembly_kind ∷ []) d 0 then λ _. m) (go (assembly_reply (book_in q) (payload_at d 0)))
    where
      go : (m : Read (Unit {0})) → (moved (placement_place 0) m then λ _. end_reply d (end_at d 0) then λ _. read (indices_of whole))
          ≡ (moved (placement_place 0) (m then λ _. read (indices_of whole)) then λ x. end_reply d (end_at d 0) then λ _. read x)
      go (refused r) = refl
      go (read u) = refl

  pub as_deck : fields_reply Composed all ≡ further place (over_record (written_reply (book_in q) (payload_at d 0)) d)
  as_deck = fields_reply_lem ∙ ap (further place) record_fine

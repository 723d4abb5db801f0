-- A deck's answer, part by part, and what the code's answer says of it. Assumes nothing.
use Prim.Native.Nat.{ℕ, ◌+◌, ◌*◌, ◌<◌, ◌≤◌}
use mathlib.Core.Bool.{Bool, true, false}
use mathlib.Core.List.{List}
use mathlib.Core.Path.{◌≡◌, refl, sym, ◌∙◌, ap, subst}
use native.Mathlib.Omega.{arith}
use borrow.Author.Tests.{lt-ltb, le-ltb}
use lib.Dec.{ltb}
use lib.ListN.{length, take}
use lib.Seq.{take-append_seam}
use Rattle.reply.specs.Read.{Read, refused, read, ◌then◌, refuse_if, refusal}
use Rattle.reply.specs.declared.Refusal.{Refusal}
use denote.Ref.{Bor}
use Rattle.records.specs.Bytes.{PartOf}
use Rattle.records.specs.Records.{block_kind, assembly_kind, end_at, record_reply}
use Rattle.records.specs.declared.Kind.{Kind}
use Rattle.assembly.specs.Book.{find, used}
use Rattle.assembly.specs.declared.BlockAt.{BlockAt}
use Rattle.deck.specs.Deck.{longest_deck, Deck, blocks_reply, open_reply, assembly_reply_at, end_reply, sheet_kinds, sheet_reply, deck_reply, Span, nowhere, payload, block_span}
use Rattle.deck.specs.Said.{said_deck}
use Rattle.deck.specs.declared.DeckRead.{DeckRead}
use Rattle.deck.specs.declared.Form.{Form}
use Rattle.deck.specs.declared.Form.TheVariants.{Composed, Judged}
use Rattle.std.specs.Prelude.{Ok, Err}

-- after the last record
module _ (d : List ℕ) (at : ℕ) where
  pub bytes_follow : at < length d → end_reply d at ≡ refused (refusal 11 at)
  unfolding end_reply
  bytes_follow h = rw (lt-ltb at (length d) h)

  pub nothing_follows : length d ≤ at → end_reply d at ≡ read tt
  unfolding end_reply
  nothing_follows h = rw (le-ltb at (length d) h)

  pub composed_end : sheet_reply Composed d at ≡ end_reply d at
  unfolding sheet_reply
  composed_end = refl

  pub no_sheet : (r : Refusal) → record_reply sheet_kinds d at ≡ refused r → sheet_reply Judged d at ≡ refused r
  unfolding sheet_reply
  no_sheet r e = rw e

  pub sheet_end : record_reply sheet_kinds d at ≡ read tt → sheet_reply Judged d at ≡ end_reply d (end_at d at)
  unfolding sheet_reply
  sheet_end e = rw e

-- before the last record
module _ (last : Kind) (d : List ℕ) where
  pub open_long : longest_deck < length d → open_reply last d ≡ refused (refusal 20 0)
  unfolding open_reply
  open_long h = rw (lt-ltb longest_deck (length d) h)

  pub open_short : length d ≤ longest_deck → open_reply last d ≡ blocks_reply last d
  unfolding open_reply
  open_short h = rw (le-ltb longest_deck (length d) h)

module _ (form : Form) (d : List ℕ) where
  abbrev behind : Deck → Read Deck
  behind k = assembly_reply_at d k.blocks k.assembly then λ _. sheet_reply form d k.sheet then λ _. read k

  opened : deck_reply form d ≡ (open_reply assembly_kind d then behind)
  unfolding deck_reply open_reply
  opened = go (ltb longest_deck (length d))
    where
      go : (t : Bool) → ◌≡◌ {A = Read Deck} (refuse_if t 20 0 then λ _. blocks_reply assembly_kind d then behind) ((refuse_if t 20 0 then λ _. blocks_reply assembly_kind d) then behind)
      go true = refl
      go false = refl

  pub bad_blocks : (r : Refusal) → open_reply assembly_kind d ≡ refused r → deck_reply form d ≡ refused r
  bad_blocks r e = opened ∙ rw e refl

  module _ (k : Deck) (e : open_reply assembly_kind d ≡ read k) where
    pub bad_assembly : (r : Refusal) → assembly_reply_at d k.blocks k.assembly ≡ refused r → deck_reply form d ≡ refused r
    bad_assembly r f = opened ∙ rw (e, f) refl

    module _ (f : assembly_reply_at d k.blocks k.assembly ≡ read tt) where
      pub bad_sheet : (r : Refusal) → sheet_reply form d k.sheet ≡ refused r → deck_reply form d ≡ refused r
      bad_sheet r g = opened ∙ rw (e, f, g) refl

      pub whole_deck : sheet_reply form d k.sheet ≡ read tt → deck_reply form d ≡ read k
      whole_deck g = opened ∙ rw (e, f, g) refl

-- what the code's answer says
pub deck_stopped : (x : Read Deck) (r : DeckRead) (q : Refusal) → r ≡ said_deck x → r.reply ≡ Err q → x ≡ refused q
deck_stopped (refused p) r q h o =
    let f : Err q ≡ Err p = sym o ∙ ap (λ (s : DeckRead). s.reply) h in
    let g : q ≡ p = cc in
    ap refused (sym g)
deck_stopped (read k) r q h o = let z : ◌≡◌ {A = ℕ} 0 1 = cc (ap (λ (s : DeckRead). s.reply) h) in absurd (omega arith)

pub deck_ended : (x : Read Deck) (r : DeckRead) → r ≡ said_deck x → r.reply ≡ Ok tt → (k : Deck) × (x ≡ read k) × (r ≡ said_deck (read k))
deck_ended (refused q) r h o = let z : ◌≡◌ {A = ℕ} 0 1 = cc (ap (λ (s : DeckRead). s.reply) h) in absurd (omega arith)
deck_ended (read k) r h o = (k, refl, h)

-- the blocks in its table
pub table_blocks : (k : Deck) (r : DeckRead) → r ≡ said_deck (read k) → take r.layout.count r.layout.blocks ≡ k.blocks
table_blocks k r e = rw e (take-append_seam k.blocks _)

-- the lookup
module _ (bs : List BlockAt) (x : ℕ) where
  pub has_payload : used bs x ≡ true → payload bs x ≡ record { from = (find bs x).start; len = block_kind.fixed + block_kind.item * (find bs x).bonds }
  unfolding payload
  has_payload e = rw e

  pub no_payload : used bs x ≡ false → payload bs x ≡ nowhere
  unfolding payload
  no_payload e = rw e

module _ (d : List ℕ) (x : ℕ) where
  pub in_composed : (k : Deck) → deck_reply Composed d ≡ read k → block_span d x ≡ payload k.blocks x
  unfolding block_span
  in_composed k e = rw e

  pub in_judged : (r : Refusal) (k : Deck) → deck_reply Composed d ≡ refused r → deck_reply Judged d ≡ read k → block_span d x ≡ payload k.blocks x
  unfolding block_span
  in_judged r k e f = rw (e, f)

  pub in_neither : (r q : Refusal) → deck_reply Composed d ≡ refused r → deck_reply Judged d ≡ refused q → block_span d x ≡ nowhere
  unfolding block_span
  in_neither r q e f = rw (e, f)

  -- the blocks that the code looks in, of a deck that is read
  pub held : (form : Form) (r : DeckRead) → r ≡ said_deck (deck_reply form d) → r.reply ≡ Ok tt
      → (k : Deck) × (deck_reply form d ≡ read k) × (payload (take r.layout.count r.layout.blocks) x ≡ payload k.blocks x)
  held form r e f =
      let (k, g, h) = deck_ended (deck_reply form d) r e f in
      (k, g, ap (λ (bs : List BlockAt). payload bs x) (table_blocks k r h))

-- a part that stands elsewhere only by name
pub part_at : {s r : Bor (List ℕ)} {a b : Span} → a ≡ b → PartOf s a.from a.len r → PartOf s b.from b.len r
part_at {s} {r} e p = subst (λ (x : Span). PartOf s x.from x.len r) e p

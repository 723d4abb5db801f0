-- Laws. Each promise determines the reply: two replies that satisfy it are equal. Assumes nothing.
use Rattle.std.specs.Prelude.{ℕ, List, ◌≡◌, Result}
use Rattle.std.specs.Borrow.{Bor}
use Rattle.reply.specs.Chain.{unique}
use Rattle.records.specs.Bytes.{PartOf}
use Rattle.records.specs.Unique.{unique-part}
use Rattle.records.specs.declared.Kind.{Kind}
use Rattle.deck.specs.Deck.{open_reply, deck_reply, block_span}
use Rattle.deck.specs.Filled.{open_book}
use Rattle.deck.specs.Placed.{placed_distance_reply}
use Rattle.deck.specs.Said.{said_deck}
use Rattle.deck.specs.declared.DeckRead.{DeckRead}
use Rattle.deck.specs.declared.Form.{Form}
use Rattle.compose.specs.Fields.{compose_reply}
use Rattle.reply.specs.Read.{as_result}
use Rattle.reply.specs.declared.Refusal.{Refusal}
use Rattle.compose.specs.declared.Composed.{Composed}

module _ (d : List ℕ) where
  pub unique-read_deck : (form : Form) (r s : DeckRead) → r ≡ said_deck (deck_reply form d) → s ≡ said_deck (deck_reply form d) → r ≡ s
  unique-read_deck form r s = unique

  pub unique-open_deck : (last : Kind) (book : List ℕ) (r s : DeckRead) (b c : List ℕ) → (r ≡ said_deck (open_reply last d)) × (b ≡ open_book last d book)
      → (s ≡ said_deck (open_reply last d)) × (c ≡ open_book last d book) → (r ≡ s) × (b ≡ c)
  unique-open_deck last book r s b c p q = (unique p.0 q.0, unique p.1 q.1)

pub unique-fields : (form : Form) (d : List ℕ) (r s : Result Composed Refusal) → r ≡ as_result (compose_reply form d) → s ≡ as_result (compose_reply form d) → r ≡ s
unique-fields form d r s = unique

pub unique-placed_distance : (d : List ℕ) (k i l j : ℕ) (r s : Result ℕ Refusal) → r ≡ as_result (placed_distance_reply d k i l j) → s ≡ as_result (placed_distance_reply d k i l j) → r ≡ s
unique-placed_distance d k i l j r s = unique

pub unique-block_part : (s : Bor (List ℕ)) (x : ℕ) (q r : Bor (List ℕ)) → let p = block_span s.now x in PartOf s p.from p.len q → PartOf s p.from p.len r → (q.now ≡ r.now) × (q.ref_ptr ≡ r.ref_ptr)
unique-block_part s x q r = unique-part

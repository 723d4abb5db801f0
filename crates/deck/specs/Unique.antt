-- Laws. Each promise determines the reply: two replies that satisfy it are equal. Assumes nothing.
use Rattle.std.specs.Prelude.{ℕ, Bool, cond, List, ◌≡◌, eqb, Result}
use Rattle.std.specs.Borrow.{Bor}
use Rattle.records.specs.Bytes.{PartOf}
use Rattle.records.specs.Unique.{unique-part}
use Rattle.records.specs.declared.Kind.{Kind}
use Rattle.assembly.specs.Book.{find, most_blocks}
use Rattle.assembly.specs.declared.BlockAt.{BlockAt}
use Rattle.records.specs.Records.{block_kind, payload_at}
use Rattle.reply.specs.Chain.{unique}
use Rattle.assembly.specs.Placements.{placement_at}
use Rattle.assembly.specs.declared.Placement.{Placement}
use Rattle.deck.specs.Deck.{Deck, sheet_reply, payload, unfit_after}
use Rattle.deck.specs.Molecule.{placed_in}
use Rattle.deck.specs.Placed.{is_missing}
use Rattle.deck.specs.Said.{refused_deck}
use Rattle.deck.specs.Unfilled.{heads_from}
use Rattle.deck.specs.declared.DeckRead.{DeckRead}
use Rattle.deck.specs.declared.Form.{Form}
use Rattle.reply.specs.Read.{as_result}
use Rattle.reply.specs.declared.Refusal.{Refusal}

module _ (d : List ℕ) where
  pub unique-sheet_reply : (form : Form) (at : ℕ) (r s : Result (Unit {0}) Refusal) → r ≡ as_result (sheet_reply form d at) → s ≡ as_result (sheet_reply form d at) → r ≡ s
  unique-sheet_reply form at r s = unique

  pub unique-placement : (at k : ℕ) (r s : Placement) → r ≡ placement_at (payload_at d at) k → s ≡ placement_at (payload_at d at) k → r ≡ s
  unique-placement at k r s = unique

pub unique-block_at : (d : List ℕ) (k : Deck) (i : ℕ) (r s : BlockAt) → r ≡ find k.blocks (placed_in d k i).block → s ≡ find k.blocks (placed_in d k i).block → r ≡ s
unique-block_at d k i r s = unique

pub unique-is_missing : (d : List ℕ) (k : Deck) (p a : ℕ) (r s : Bool) → r ≡ is_missing d k p a → s ≡ is_missing d k p a → r ≡ s
unique-is_missing d k p a r s = unique

pub unique-payload_of : (s : Bor (List ℕ)) (bs : List BlockAt) (x : ℕ) (q r : Bor (List ℕ)) → let p = payload bs x in PartOf s p.from p.len q → PartOf s p.from p.len r → (q.now ≡ r.now) × (q.ref_ptr ≡ r.ref_ptr)
unique-payload_of s bs x q r = unique-part

pub unique-heads : (d : List ℕ) (r s : ℕ) → r ≡ heads_from most_blocks d 0 → s ≡ heads_from most_blocks d 0 → r ≡ s
unique-heads d r s = unique

pub unique-is_unfit : (bs : List BlockAt) (x : ℕ) (r s : Bool) → r ≡ unfit_after bs x → s ≡ unfit_after bs x → r ≡ s
unique-is_unfit bs x r s = unique

pub unique-second_kind : (count : ℕ) (last r s : Kind) → r ≡ cond (eqb count 0) block_kind last → s ≡ cond (eqb count 0) block_kind last → r ≡ s
unique-second_kind count last r s = unique

pub unique-deck_refused : (reply : Result (Unit {0}) Refusal) (r s : DeckRead) → r ≡ refused_deck reply → s ≡ refused_deck reply → r ≡ s
unique-deck_refused reply r s = unique

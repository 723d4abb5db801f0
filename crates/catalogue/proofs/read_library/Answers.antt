use Prim.Native.Nat.{◌≤◌}
use mathlib.Core.List.{List}
use mathlib.Core.Path.{◌≡◌, sym, ◌∙◌, ap, ap₂, subst}
use lib.ListN.{length}
use Rattle.reply.specs.Read.{read}
use Rattle.records.specs.Records.{payload_at}
use Rattle.deck.specs.Deck.{Deck, open_reply}
use Rattle.deck.specs.Said.{said_deck}
use Rattle.deck.specs.declared.DeckRead.{DeckRead}
use Rattle.deck.proofs.Parts.{deck_stopped, deck_ended, table_blocks}
use Rattle.assembly.specs.declared.BlockAt.{BlockAt}
use Rattle.catalogue.specs.Library.{library_kind, after_blocks}
use Rattle.catalogue.specs.Said.{refused_library, tabled_library, said_library}
use Rattle.catalogue.proofs.Reading.{said_tabled, library_stopped, library_after, payload_long}
use Rattle.catalogue.proofs.read_library.Goals as goal
use Rattle.catalogue.proofs.read_library.Goals.{In-Ok}

-- `catalogue::read_library` meets its contract. Assumes nothing.
-- the blocks that are read
blocks : (c : In-Ok) → let d = c.args.d.now in
    (k : Deck) × (open_reply library_kind d ≡ read k) × (c.open_deck-k.result ≡ said_deck (read k))
blocks c = let r = c.open_deck-k in deck_ended _ r.result r.ensures.reply c.in-Ok.is

pub returns-in_default : goal.returns-in_default
returns-in_default c = let d = c.args.d.now in let r = c.open_deck-k in record { reply = c.library_refused.ensures ∙ ap refused_library c.in_default.is ∙ ap said_library (sym (library_stopped d c.in_default.field-0 (deck_stopped _ r.result c.in_default.field-0 r.ensures.reply c.in_default.is))); bytes = r.ensures.bytes }

pub read_record-requires : goal.read_record-requires
read_record-requires c = let d = c.args.d.now in let (k, e, r) = blocks (goal.at.read_record-requires c).In-Ok in
    subst (λ (x : DeckRead). library_kind.fixed ≤ length (payload_at d x.layout.assembly)) (sym r) (payload_long d k e)

pub returns : goal.returns
returns c = let d = c.args.d.now in let (k, e, r) = blocks (goal.at.returns c).In-Ok in record {
  reply = c.read_record.ensures
      ∙ ap₂ (λ (bs : List BlockAt) (x : DeckRead). tabled_library x.layout.blocks x.layout.count (after_blocks d bs x.layout.assembly x.layout.sheet)) (table_blocks k c.open_deck-k.result r) r
      ∙ said_tabled d k.blocks k.assembly k.sheet
      ∙ ap said_library (sym (library_after d k e));
  bytes = c.open_deck-k.ensures.bytes;
}

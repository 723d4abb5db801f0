-- Laws. The first block of a library deck, and a book of one place that is lent while the deck is read. Assumes nothing.
use Rattle.std.specs.Prelude.{ℕ, List, ◌≡◌, replicate}
use Rattle.std.proofs.Common.{sym, subst}
use Rattle.std.proofs.lemmas.List.{length-replicate}
use Rattle.reply.specs.Read.{read}
use Rattle.assembly.specs.Book.{bond_bytes}
use Rattle.assembly.specs.declared.BlockAt.{BlockAt}
use Rattle.summary.specs.Layout.{summary_bytes}
use Rattle.filling.specs.Reply.{fill_bytes}
use Rattle.deck.specs.Deck.{block_at}
use Rattle.deck.specs.Filled.{open_book}
use Rattle.deck.specs.First as deck
use Rattle.catalogue.specs.Library.{library_kind, Library, library_reply}
use Rattle.catalogue.proofs.Sound.{whole}

-- an empty book of one place
abbrev pub one_place : List ℕ
one_place = replicate summary_bytes 0

module _ (d : List ℕ) (l : Library) (e : library_reply d ≡ read l) where
  pub first_block : deck.FirstBlock d l.blocks
  first_block = let w = whole d l e in subst (λ (bs : List BlockAt). deck.FirstBlock d bs) (sym w.same) (deck.first_block library_kind d w.opened)

  -- the book is what opening that block makes of an empty place
  pub first_opened : open_book library_kind d one_place ≡ fill_bytes (block_at d 0).number (block_at d 0).atoms (bond_bytes d (block_at d 0)) one_place
  first_opened = deck.first_opened library_kind d (whole d l e).opened one_place (length-replicate {A = ℕ} summary_bytes 0)

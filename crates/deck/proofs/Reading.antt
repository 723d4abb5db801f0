-- What the code's answers say of a deck that was read, and of the block of a placement. Assumes nothing.
use Prim.Native.Nat.{ℕ}
use mathlib.Core.List.{List}
use mathlib.Core.Path.{◌≡◌, sym, ap}
use native.Mathlib.Omega.{arith}
use Rattle.reply.specs.Read.{Read, refused, read}
use Rattle.assembly.specs.Book.{find, book_of}
use Rattle.assembly.specs.declared.BlockAt.{BlockAt}
use Rattle.deck.specs.Deck.{Deck}
use Rattle.deck.specs.Molecule.{placed_in, graph_at}
use Rattle.deck.specs.Placed.{deck_of}
use Rattle.deck.specs.Present.{laid_out}
use Rattle.deck.specs.Said.{said_deck}
use Rattle.deck.specs.declared.DeckRead.{DeckRead}
use Rattle.std.specs.Prelude.{Ok}

-- a deck that is fine is read
pub deck-read : (x : Read Deck) (r : DeckRead) → r ≡ said_deck x → r.reply ≡ Ok tt → x ≡ read (deck_of r.layout)
deck-read (refused q) r e f = let z : ◌≡◌ {A = ℕ} 0 1 = cc in absurd (omega arith)
deck-read (read k) r e f = rw e (ap read (sym (laid_out k)))

-- the block of the placement at an index
pub block-atoms : (d : List ℕ) (deck : Deck) (n : ℕ) (b : BlockAt) → b ≡ find deck.blocks (placed_in d deck n).block → (graph_at d deck n).atoms ≡ b.atoms
unfolding graph_at book_of
block-atoms d deck n b e = rw e

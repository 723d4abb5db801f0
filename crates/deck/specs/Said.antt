-- Definitions. How the code says what a deck is told.
use Rattle.std.specs.Prelude.{ℕ, List, [], ◌++◌, length, drop, replicate, Result, Ok, Err}
use Rattle.reply.specs.Read.{Read, refused, read, refusal}
use Rattle.reply.specs.declared.Refusal.{Refusal}
use Rattle.records.specs.Records.{payload_at, end_at}
use Rattle.assembly.specs.Placements.{placement_count}
use Rattle.assembly.specs.declared.BlockAt.{BlockAt}
use Rattle.assembly.specs.Book.{no_block, most_blocks}
use Rattle.deck.specs.Deck.{Deck}
use Rattle.deck.specs.declared.Layout.{Layout}
use Rattle.deck.specs.declared.DeckRead.{DeckRead}

-- a table of blocks: as many as there are, then empty places
abbrev pub block_table : List BlockAt → List BlockAt
block_table bs = bs ++ drop (length bs) (replicate most_blocks no_block)

abbrev pub layout_of : Deck → Layout
layout_of k = record { count = length k.blocks; blocks = block_table k.blocks; assembly = k.assembly; placements = k.placements; sheet = k.sheet }

abbrev nothing : Deck
nothing = record { blocks = []; assembly = 0; placements = 0; sheet = 0 }

abbrev pub refused_deck : Result (Unit {0}) Refusal → DeckRead
refused_deck r = record { reply = r; layout = layout_of nothing }

-- one with a table of blocks, of which `count` are there
abbrev pub tabled_deck : List ℕ → List BlockAt → ℕ → ℕ → DeckRead
tabled_deck d table count at = record {
  reply = Ok tt;
  layout = record { count = count; blocks = table; assembly = at; placements = placement_count (payload_at d at); sheet = end_at d at };
}

abbrev pub said_deck : Read Deck → DeckRead
said_deck (refused r) = refused_deck (Err r)
said_deck (read k) = record { reply = Ok tt; layout = layout_of k }

-- a reply at another place
abbrev pub moved_reply : (Refusal → ℕ) → Result (Unit {0}) Refusal → Result (Unit {0}) Refusal
moved_reply place (Ok tt) = Ok tt
moved_reply place (Err r) = Err (refusal r.number (place r))

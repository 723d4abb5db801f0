use Prim.Native.Nat.{ℕ}
use mathlib.Core.Path.{sym, ap, ◌∙◌}
use Rattle.std.specs.Prelude.{Err}
use Rattle.reply.specs.Read.{refusal}
use Rattle.deck.specs.Deck.{block_place}
use Rattle.deck.specs.Said.{moved_reply}
use Rattle.compose.proofs.blocks.block_moved.Goals as goal

-- `compose::blocks::block_moved` meets its contract. Assumes nothing.
pub block_place-requires : goal.block_place-requires
block_place-requires c = (c.requires.0, c.requires.1 c.in-Err.r c.in-Err.is)

pub returns-in-Err : goal.returns-in-Err
returns-in-Err c = ap (λ (p : ℕ). Err (refusal c.in-Err.r.number p)) c.block_place.ensures ∙ ap (moved_reply (block_place c.args.at)) (sym c.in-Err.is)

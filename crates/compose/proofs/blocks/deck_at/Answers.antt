use Rattle.compose.proofs.blocks.deck_at.Goals as goal

-- `compose::blocks::deck_at` meets its contract. Assumes nothing.
pub returns : goal.returns
returns c = rw (c.le16_at-2.ensures, c.le16_at.ensures, c.payload_at-xs.ensures.bytes)

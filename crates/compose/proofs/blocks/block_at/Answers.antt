use Rattle.compose.proofs.blocks.block_at.Goals as goal

-- `compose::blocks::block_at` meets its contract. Assumes nothing.
pub returns : goal.returns
returns c = rw (c.le16_at.ensures, c.le16_at-2.ensures, c.le16_at-3.ensures)

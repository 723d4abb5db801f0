use native.Mathlib.Omega.{arith}
use Rattle.block.specs.Lent.{zeros}
use Rattle.assembly.specs.Book.{most_blocks}
use Rattle.deck.proofs.Few.{heads_most}
use Rattle.compose.proofs.reading.read_deck.Goals as goal

-- `compose::reading::read_deck` meets its contract. Assumes nothing.
pub read_in-requires : goal.read_in-requires
read_in-requires c = record { room = omega (arith, heads_most most_blocks c.args.d.now 0); none = zeros 8448 }

pub returns : goal.returns
returns c = c.read_in.ensures.reply

use mathlib.Core.Path.{◌∙◌}
use Rattle.block.specs.Block.{block_reply}
use Rattle.calls.proofs.Laws.{reply_coded}
use Rattle.block_calls.proofs.check_block.Goals as goal

-- `block_calls::check_block` meets its contract.
pub returns : goal.returns
returns c =
    let a = c.args in
    c.reply_code.ensures ∙ reply_coded _ (block_reply a.atoms a.bonds.now) c.check-reply.ensures

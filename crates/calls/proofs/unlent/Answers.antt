use mathlib.Core.Path.{sym, ◌∙◌, ap}
use Rattle.reply.specs.Read.{Read, as_read}
use Rattle.block.specs.Block.{block_reply}
use Rattle.calls.specs.Convention.{coded}
use Rattle.calls.specs.Convention.{then_nine}
use Rattle.calls.proofs.unlent.Goals as goal
use Rattle.reply.specs.Chain.{read_back}

-- `calls::unlent` meets its contract.
pub returns-in-Ok : goal.returns-in-Ok
returns-in-Ok c =
    ap (λ (B : Read (Unit {0})). coded (then_nine B))
    (sym (ap as_read c.in-Ok.is) ∙ read_back _ (block_reply c.args.atoms c.args.bonds.now) c.check.ensures)

pub returns-in-Err : goal.returns-in-Err
returns-in-Err c =
    c.code_of.ensures
    ∙ ap (λ (B : Read (Unit {0})). coded (then_nine B))
    (sym (ap as_read c.in-Err.is) ∙ read_back _ (block_reply c.args.atoms c.args.bonds.now) c.check.ensures)

use Rattle.records.specs.declared.Sheet.TheVariants.{Five}
use Rattle.block.specs.Index.{indices_reply}
use Rattle.calls.proofs.Blocks.{lent_fields}
use Rattle.block_calls.proofs.indices.Goals as goal

-- `block_calls::indices` meets its contract.
pub returns : goal.returns
returns c =
    let a = c.args in
    lent_fields Five _ (indices_reply a.atoms a.bonds.now) c.measure-answer.ensures c.give_indices.ensures

use Rattle.text.proofs.Putting.{both, as_word}
use Rattle.molwriter.proofs.Pieces.{counts_is}
use Rattle.molwriter.proofs.put_counts.Goals as goal

-- `molwriter::put_counts` meets its contract: the words one after the other.
pub returns : goal.returns
returns c =
    let a = c.args in
    as_word (counts_is a.n a.m) (both (both (both c.put-a.ensures c.put_three-b.ensures) c.put_three-c.ensures) c.put.ensures)

use mathlib.Core.Path.{◌∙◌}
use Rattle.poly.proofs.Pairs.{refused_reply, fine_reply}
use Rattle.poly.proofs.polynomial.Goals as goal

-- `poly::polynomial` meets its contract: a refusal is the block's, and the values are those of its table of counts.
pub returns-in-Err : goal.returns-in-Err
returns-in-Err c =
    let pairs = c.pair_counts-pairs in
    let a = c.args in
    refused_reply a.n a.bonds.now a.x pairs.result pairs.ensures c.in-Err.r c.in-Err.is

pub returns-in-Ok : goal.returns-in-Ok
returns-in-Ok c =
    let pairs = c.pair_counts-pairs in
    let a = c.args in
    c.values_of.ensures ∙ fine_reply a.n a.bonds.now a.x pairs.result pairs.ensures c.in-Ok.is

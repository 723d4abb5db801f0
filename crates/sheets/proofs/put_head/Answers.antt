use Rattle.sheets.proofs.Puts.{two_fields}
use Rattle.sheets.proofs.put_head.Goals as goal

-- `sheets::put_head` meets its contract.
pub returns : goal.returns
returns c = let a = c.args in two_fields a.out.now a.length a.number c.put_little.ensures c.put_little-2.ensures

use Rattle.sheets.proofs.Puts.{five_fields}
use Rattle.sheets.proofs.put_five.Goals as goal

-- `sheets::put_five` meets its contract.
pub returns : goal.returns
returns c =
    let a = c.args in
    five_fields a.out.now a.atoms a.w a.even a.odd a.polarity c.put_little.ensures c.put_little-2.ensures c.put_little-3.ensures c.put_little-4.ensures c.put_little-5.ensures

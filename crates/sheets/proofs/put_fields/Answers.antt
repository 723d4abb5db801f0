use Rattle.sheets.proofs.Puts.{fields_five, fields_six}
use Rattle.sheets.proofs.put_fields.Goals as goal

-- `sheets::put_fields` meets its contract.
pub returns-in-Five : goal.returns-in-Five
returns-in-Five c = let a = c.args in fields_five a.sheet a.x a.out.now c.in-Five.is c.put_five.ensures

pub returns-in-Six : goal.returns-in-Six
returns-in-Six c =
    let a = c.args in
    fields_six a.sheet a.x a.out.now c.in-Six.is c.put_five.ensures c.put_little.ensures

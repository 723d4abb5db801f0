use mathlib.Core.Path.{sym, ap}
use Rattle.records.specs.Records.{sheet_kind}
use Rattle.records.proofs.sheet_kind.Goals as goal

-- `records::sheet_kind` meets its contract. Assumes nothing.
pub returns-in-Five : goal.returns-in-Five
returns-in-Five c = sym (ap sheet_kind c.in-Five.is)

pub returns-in-Six : goal.returns-in-Six
returns-in-Six c = sym (ap sheet_kind c.in-Six.is)

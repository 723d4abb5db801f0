use Rattle.calls.proofs.Blocks.{sheet_six, sheet_five}
use Rattle.calls.proofs.sheet_for.Goals as goal

-- `calls::sheet_for` meets its contract. Assumes nothing.
pub returns-then-kind-eq4 : goal.returns-then-kind-eq4
returns-then-kind-eq4 c = sheet_six c.args.kind c.if-kind-eq4.true

pub returns : goal.returns
returns c = sheet_five c.args.kind c.if-kind-eq4.false

use mathlib.Core.Path.{sym}
use lib.ListN.{get_or-eq_default}
use Rattle.records.proofs.byte_at.Goals as goal

-- `records::byte_at` meets its contract. Assumes nothing.
pub returns-else-at-d : goal.returns-else-at-d
returns-else-at-d c = sym (get_or-eq_default c.args.d.now 0 c.if-at-d.false)

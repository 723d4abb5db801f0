use Rattle.sdfile.specs.Sdf.{item_reply}
use Rattle.sdfile.proofs.Items.{span_refused, span_read, part_at}
use Rattle.sdfile.proofs.item_part.Goals as goal

-- `sdfile::item_part` meets its contract. Assumes nothing.
pub returns-in-Err : goal.returns-in-Err
returns-in-Err c = let a = c.args in part_at (span_refused (item_reply a.d.now a.name.now) c.in-Err.ensures) c.part.ensures

pub returns-in-Ok : goal.returns-in-Ok
returns-in-Ok c = let a = c.args in part_at (span_read (item_reply a.d.now a.name.now) c.in-Ok.ensures) c.part-in-Ok.ensures

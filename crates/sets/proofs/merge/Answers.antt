use Rattle.sets.proofs.Storing.{room_first, room_second, stored}
use Rattle.sets.proofs.merge.Goals as goal

-- `sets::merge` meets its contract: the stores are what `stored` says.
pub bounds-xs-u-2 : goal.bounds-xs-u-2
bounds-xs-u-2 c = room_first c.requires _

pub bounds-ys-u-2 : goal.bounds-ys-u-2
bounds-ys-u-2 c = room_second c.requires _

pub returns : goal.returns
returns c = stored _ _ _ _ _ c.combine-next.result c.requires c.combine-next.ensures

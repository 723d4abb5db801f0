use Rattle.printed.proofs.Reading.{shape_is}
use Rattle.printed.proofs.laid_out.Reads as reads
use Rattle.printed.proofs.laid_out.Lts as lts
use Rattle.printed.proofs.behind_point.Reads as behind-point-reads
use Rattle.printed.proofs.is_sound.Reads as is-sound-reads
use Rattle.printed.proofs.past.Reads as past-reads
use Rattle.printed.proofs.laid_out.Goals as goal

-- `printed::laid_out` meets its contract. Assumes nothing.
pub returns : goal.returns
returns c =
    shape_is _ _ _ _ _ _ _ _ c.past-from.ensures c.past-to.ensures c.behind_point-first.ensures c.past-last.ensures c.past-end.ensures c.is_sound-sound.ensures

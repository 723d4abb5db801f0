use mathlib.Core.Path.{refl, ◌∙◌, ap}
use lib.ListN.{replicate}
use Rattle.adjacency.specs.Neighbours.{neighbours_reply}
use Rattle.block.specs.Block.{most_bytes}
use Rattle.measuring.proofs.Fits.{fits, counted_is}
use Rattle.measuring.proofs.Texts.{text_is, text_cut}
use Rattle.measuring.proofs.measure_neighbours.Goals as goal
use Rattle.reply.specs.Read.{as_result}

-- `measuring::measure_neighbours` meets its contract: the bonds that were read are measured.
pub counted-requires : goal.counted-requires
counted-requires c =
    let d = c.args.text.now in
    fits (neighbours_reply d most_bytes) _ _ _ _ c.read-seen.ensures.reply (text_cut d (replicate most_bytes 0) _ refl c.read-seen.ensures.bytes)

pub returns : goal.returns
returns c =
    let d = c.args.text.now in
    c.counted.ensures ∙ ap as_result (counted_is (neighbours_reply d most_bytes) _ _ _ _ c.read-seen.ensures.reply (text_cut d (replicate most_bytes 0) _ refl c.read-seen.ensures.bytes) ∙ text_is d)

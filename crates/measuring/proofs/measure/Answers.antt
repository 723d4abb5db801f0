use mathlib.Core.Path.{refl, ◌∙◌, ap}
use lib.ListN.{replicate}
use Rattle.molfile.specs.Molfile.{molfile_reply}
use Rattle.block.specs.Block.{most_bytes}
use Rattle.measuring.proofs.Fits.{fits, counted_is, never_nine, molfile_cut}
use Rattle.measuring.proofs.measure.Goals as goal
use Rattle.reply.specs.Read.{as_result}

-- `measuring::measure` meets its contract: the bonds that were read are measured.
pub counted-requires : goal.counted-requires
counted-requires c =
    let d = c.args.text.now in
    fits (molfile_reply d most_bytes) _ _ _ _ c.read-seen.ensures.reply (λ _ e. molfile_cut d (replicate most_bytes 0) _ refl c.read-seen.ensures.bytes e)

pub returns : goal.returns
returns c =
    let d = c.args.text.now in
    c.counted.ensures ∙ ap as_result (counted_is (molfile_reply d most_bytes) _ _ _ _ c.read-seen.ensures.reply (λ _ e. molfile_cut d (replicate most_bytes 0) _ refl c.read-seen.ensures.bytes e) ∙ never_nine d)

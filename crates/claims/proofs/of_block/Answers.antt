use mathlib.Core.Path.{refl, sym, ◌∙◌}
use Rattle.reach.specs.Told.{indices_fine}
use Rattle.claims.proofs.Molecules.{bonds_fit, block_refused, block_read}
use Rattle.claims.proofs.of_block.Goals as goal

-- `claims::of_block` meets its contract. Assumes nothing.
pub block_fields-own-requires : goal.block_fields-own-requires
block_fields-own-requires c = indices_fine _ _ _ (sym c.measure.ensures ∙ c.in-Ok.is)

pub above-most-requires : goal.above-most-requires
above-most-requires c = bonds_fit _ _ (indices_fine _ _ _ (sym c.measure.ensures ∙ c.in-Ok.is)).0

pub returns-in-Err : goal.returns-in-Err
returns-in-Err c = block_refused _ _ _ (sym c.in-Err.is ∙ c.measure.ensures)

pub returns-in-Ok : goal.returns-in-Ok
returns-in-Ok c = block_read _ _ (indices_fine _ _ _ (sym c.measure.ensures ∙ c.in-Ok.is)).0 _ _ _ _ _ c.block_fields-own.ensures refl c.above-most.ensures refl c.judged.ensures

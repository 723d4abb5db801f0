use mathlib.Core.Path.{refl}
use Rattle.sheets.specs.Sheets.{all_fields}
use Rattle.sheets.proofs.fields_of.Goals as goal

-- `sheets::fields_of` meets its contract. Assumes nothing.
pub returns : goal.returns
unfolding all_fields
returns c = refl

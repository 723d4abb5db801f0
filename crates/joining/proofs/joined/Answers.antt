use mathlib.Core.Path.{refl}
use Rattle.joining.specs.Joining.{joined_of}
use Rattle.joining.proofs.joined.Goals as goal

-- `joining::joined` meets its contract. Assumes nothing.
pub returns : goal.returns
unfolding joined_of
returns c = rw (c.added.ensures, c.cut-2.ensures.0, c.cut.ensures.0, c.cut_fields-2.ensures.0, c.cut_fields.ensures.0) refl

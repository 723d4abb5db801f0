use mathlib.Core.Path.{refl}
use Rattle.joining.specs.Parts.{grow}
use Rattle.joining.specs.Joining.{grown_of}
use Rattle.joining.proofs.grown.Goals as goal

-- `joining::grown` meets its contract. Assumes nothing.
pub returns : goal.returns
unfolding grown_of grow
returns c = rw (c.with.ensures, c.farther.ensures.0, c.cut-2.ensures.0, c.cut.ensures.0) refl

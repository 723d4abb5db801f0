-- `line::empty`: zeros, and none of them counted.
use Rattle.std.proofs.Common.{refl}
use Rattle.line.specs.Text.{padded}
use Rattle.line.proofs.empty.Goals as goal

pub returns : goal.returns
unfolding padded
returns c = refl

-- Laws. What the code's reply with the six fields says of the answer. Assumes nothing.
use Rattle.std.specs.Prelude.{◌≡◌}
use Rattle.std.proofs.Common.{ap}
use Rattle.reply.specs.Read.{Read, refused, read}
use Rattle.block.specs.declared.Indices.{Indices}

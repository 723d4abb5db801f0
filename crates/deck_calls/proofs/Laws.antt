-- What a reply of the code says, as one number.
use mathlib.Core.Path.{◌≡◌, ap}
use Rattle.reply.specs.Read.{Read, refused, read}
use Rattle.block.specs.declared.Indices.{Indices}
use Rattle.judging.specs.Judging.{said_sheet_written}
use Rattle.calls.specs.Convention.{coded}
use Rattle.deck_calls.specs.Replies.{written_code}
use Rattle.std.specs.Prelude.{Result}
use Rattle.reply.specs.declared.Refusal.{Refusal}

pub written_coded : (a : Result (Unit {0}) Refusal) (R : Read Indices) → a ≡ said_sheet_written R → written_code a ≡ coded R
written_coded a (refused r) e = ap written_code e
written_coded a (read x) e = ap written_code e

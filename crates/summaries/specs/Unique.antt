-- Laws. The promise determines the reply: two replies that satisfy it are equal. Assumes nothing.
use Rattle.std.specs.Prelude.{List, ◌≡◌, ℕ, Result}
use Rattle.reply.specs.Chain.{unique}
use Rattle.summaries.specs.Composing.{composed_reply}
use Rattle.reply.specs.Read.{as_result}
use Rattle.reply.specs.declared.Refusal.{Refusal}
use Rattle.block.specs.declared.Indices.{Indices}

pub unique-compose : (b xs : List ℕ) (r s : Result Indices Refusal) → r ≡ as_result (composed_reply b xs) → s ≡ as_result (composed_reply b xs) → r ≡ s
unique-compose b xs r s = unique

-- Laws. Each promise determines the reply: two replies that satisfy it are equal. Assumes nothing.
use Rattle.std.specs.Prelude.{ℕ, List, ◌≡◌, Result}
use Rattle.reply.specs.Chain.{unique}
use Rattle.sets.specs.Reply.{sets_reply, sets_from_reply}
use Rattle.reply.specs.Read.{as_result}
use Rattle.reply.specs.declared.Refusal.{Refusal}
use Rattle.sets.specs.declared.Sets.{Sets}

module _ (n : ℕ) (xs : List ℕ) where
  pub unique-count : (r s : Result Sets Refusal) → r ≡ as_result (sets_reply n xs) → s ≡ as_result (sets_reply n xs) → r ≡ s
  unique-count r s = unique

  pub unique-count_from : (root : ℕ) (r s : Result Sets Refusal) → r ≡ as_result (sets_from_reply n xs root) → s ≡ as_result (sets_from_reply n xs root) → r ≡ s
  unique-count_from root r s = unique

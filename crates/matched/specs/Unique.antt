-- Laws. Two replies that meet the promise are equal. Assumes nothing.
use Rattle.std.specs.Prelude.{ℕ, List, ◌≡◌, Result}
use Rattle.std.proofs.Common.{sym, ◌∙◌}
use Rattle.reply.specs.Read.{as_result}
use Rattle.reply.specs.declared.Refusal.{Refusal}
use Rattle.matched.specs.Matched.{match_reply}
use Rattle.matched.specs.declared.Match.{Match}

pub unique-check : (d : List ℕ) (atoms : ℕ) (bonds matching : List ℕ) {a b : Result Match Refusal} → a ≡ as_result (match_reply d atoms bonds matching) → b ≡ as_result (match_reply d atoms bonds matching) → a ≡ b
unique-check d atoms bonds matching p q = p ∙ sym q

-- Laws. The promise leaves one reply.
use Rattle.std.specs.Prelude.{ℕ, ◌≡◌, Result}
use Rattle.std.proofs.Common.{sym, ◌∙◌}
use Rattle.reply.specs.declared.Refusal.{Refusal}
use Rattle.matched.specs.declared.Match.{Match}
use Rattle.whole_calls.specs.Replies.{match_code}

pub match_once : (a : Result Match Refusal) {x y : ℕ} → x ≡ match_code a → y ≡ match_code a → x ≡ y
match_once a p q = p ∙ sym q

-- Laws. Each promise leaves one reply.
use Rattle.std.specs.Prelude.{ℕ, ◌≡◌, Result}
use Rattle.std.proofs.Common.{sym, ◌∙◌}
use Rattle.judging.specs.declared.Verdict.{Verdict}
use Rattle.deck_calls.specs.Replies.{written_code, verdict_code}
use Rattle.reply.specs.declared.Refusal.{Refusal}

pub verdict_once : (v : Verdict) {x y : ℕ} → x ≡ verdict_code v → y ≡ verdict_code v → x ≡ y
verdict_once v p q = p ∙ sym q

pub written_once : (w : Result (Unit {0}) Refusal) {x y : ℕ} → x ≡ written_code w → y ≡ written_code w → x ≡ y
written_once w p q = p ∙ sym q

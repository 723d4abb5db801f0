-- Laws. The promise of `fill` determines its reply and the bytes; a refusal changes none.
use Rattle.std.specs.Prelude.{ℕ, List, ◌≡◌, length, Result}
use Rattle.reply.specs.Read.{refused, as_result}
use Rattle.reply.specs.Chain.{unique}
use Rattle.reply.specs.declared.Refusal.{Refusal}
use Rattle.filling.specs.Reply.{fill_reply, filled_summary, fill_bytes}

pub unique-fill : (x n : ℕ) (xs out : List ℕ) (r s : Result (Unit {0}) Refusal) (o p : List ℕ) → (r ≡ as_result (fill_reply n xs (length out))) × (o ≡ fill_bytes x n xs out)
    → (s ≡ as_result (fill_reply n xs (length out))) × (p ≡ fill_bytes x n xs out) → (r ≡ s) × (o ≡ p)
unique-fill x n xs out r s o p a b = (unique a.0 b.0, unique a.1 b.1)

pub refusal_keeps : (x n : ℕ) (xs out : List ℕ) (r : Refusal) → fill_reply n xs (length out) ≡ refused r → fill_bytes x n xs out ≡ out
unfolding filled_summary
refusal_keeps x n xs out r e = rw e

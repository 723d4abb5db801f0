-- Laws. Each promise determines the reply and the bytes: two that satisfy it are equal.
use Rattle.std.specs.Prelude.{ℕ, List, ◌≡◌, Result}
use Rattle.reply.specs.Chain.{unique}
use Rattle.summary.specs.Layout.{summary_bytes}
use Rattle.queues.specs.Table.{table_reply, emptied}
use Rattle.queues.specs.declared.Queue.{Queue}
use Rattle.queues.specs.Queues.{add_told, table_added, look_told, drop_told, table_dropped, compose_told}
use Rattle.reply.specs.Read.{as_result}
use Rattle.reply.specs.declared.Refusal.{Refusal}
use Rattle.block.specs.declared.Indices.{Indices}

-- a reply and the table after the call
pub record Left (a : Result (Unit {0}) Refusal) (bytes : List ℕ) (r : Result (Unit {0}) Refusal) (t : List ℕ) : Type 0 where
  pub reply : r ≡ a
  pub table : t ≡ bytes

same : {a r s : Result (Unit {0}) Refusal} {b t u : List ℕ} → Left a b r t → Left a b s u → (r ≡ s) × (t ≡ u)
same p q = (unique p.reply q.reply, unique p.table q.table)

module _ (t : List ℕ) where
  pub unique-empty : (r s : Result (Unit {0}) Refusal) (u v : List ℕ) → Left (as_result (table_reply summary_bytes t)) (emptied summary_bytes t) r u → Left (as_result (table_reply summary_bytes t)) (emptied summary_bytes t) s v → (r ≡ s) × (u ≡ v)
  unique-empty r s u v = same

  module _ (q : Queue) where
    pub unique-add : (x n : ℕ) (bs : List ℕ) (r s : Result (Unit {0}) Refusal) (u v : List ℕ) → Left (as_result (add_told t q x n bs)) (table_added t q x n bs) r u → Left (as_result (add_told t q x n bs)) (table_added t q x n bs) s v → (r ≡ s) × (u ≡ v)
    unique-add x n bs r s u v = same

    pub unique-look : (x : ℕ) (r s : Result Indices Refusal) → r ≡ as_result (look_told t q x) → s ≡ as_result (look_told t q x) → r ≡ s
    unique-look x r s = unique

    pub unique-drop : (x : ℕ) (r s : Result (Unit {0}) Refusal) (u v : List ℕ) → Left (as_result (drop_told t q x)) (table_dropped t q x) r u → Left (as_result (drop_told t q x)) (table_dropped t q x) s v → (r ≡ s) × (u ≡ v)
    unique-drop x r s u v = same

    pub unique-compose : (xs : List ℕ) (r s : Result Indices Refusal) → r ≡ as_result (compose_told t q xs) → s ≡ as_result (compose_told t q xs) → r ≡ s
    unique-compose xs r s = unique

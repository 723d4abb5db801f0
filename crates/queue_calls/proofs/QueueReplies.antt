-- Laws. What the C functions for two queues answer, by what the library says. Assumes nothing.
use Prim.Native.Nat.{ℕ}
use mathlib.Core.List.{List}
use mathlib.Core.Path.{◌≡◌, sym, ◌∙◌, ap, ap₂}
use borrow.Author.Tests.{eq-eqb, ne_eqb}
use Rattle.reply.specs.Read.{Read, as_result}
use Rattle.block.specs.declared.Indices.{Indices}
use Rattle.records.specs.declared.Sheet.{Sheet}
use Rattle.judging.specs.Judging.{said_sheet_written, sheet_out}
use Rattle.queues.specs.declared.Queue.{Queue}
use Rattle.queues.specs.declared.Queue.TheVariants.{Day, Night}
use Rattle.calls.specs.Convention.{coded, reply_code}
use Rattle.deck_calls.specs.Replies.{written_code}
use Rattle.queue_calls.specs.TwoQueues.{queue_for}
use Rattle.calls.proofs.Laws.{reply_coded}
use Rattle.deck_calls.proofs.Laws.{written_coded}
use Rattle.std.specs.Prelude.{Result}
use Rattle.reply.specs.declared.Refusal.{Refusal}

pub queue_day : (which : ℕ) → which ≡ 0 → Day ≡ queue_for which
queue_day which e = rw (eq-eqb which 0 e)

pub queue_night : (which : ℕ) → (which ≡ 0 → ⊥) → Night ≡ queue_for which
queue_night which e = rw (ne_eqb which 0 e)

-- a reply about a queue that is called by a number, and the table that is left
module _ (told : Queue → Read (Unit {0})) (left : Queue → List ℕ) where
  pub queue_coded : {x : ℕ} (a : Result (Unit {0}) Refusal) (q p : Queue) (t : List ℕ) → q ≡ p → x ≡ reply_code a → (a ≡ as_result (told q)) × (t ≡ left q) → (x ≡ coded (told p)) × (t ≡ left p)
  queue_coded a q p t s e f = (e ∙ reply_coded a (told p) (f.0 ∙ ap (λ (y : Queue). as_result (told y)) s), f.1 ∙ ap left s)

-- a sheet over what a queue that is called by a number holds
module _ (told : Queue → Sheet → Read Indices) (old : List ℕ) where
  pub sheet_coded : {x : ℕ} (w : Result (Unit {0}) Refusal) (q p : Queue) (s k : Sheet) (out : List ℕ) → q ≡ p → s ≡ k → x ≡ written_code w → (w ≡ said_sheet_written (told q s)) × (out ≡ sheet_out s old (told q s)) → (x ≡ coded (told p k)) × (out ≡ sheet_out k old (told p k))
  sheet_coded w q p s k out e f g h = (
    g ∙ written_coded w (told p k) (h.0 ∙ ap₂ (λ (y : Queue) (z : Sheet). said_sheet_written (told y z)) e f),
    h.1 ∙ ap₂ (λ (y : Queue) (z : Sheet). sheet_out z old (told y z)) e f,
  )

-- two replies and two tables that satisfy the promise are equal
pub table_once : (R : Read (Unit {0})) {left t u : List ℕ} {x y : ℕ} → (x ≡ coded R) × (t ≡ left) → (y ≡ coded R) × (u ≡ left) → (x ≡ y) × (t ≡ u)
table_once R p q = (p.0 ∙ sym q.0, p.1 ∙ sym q.1)

-- Laws. What each call at the table promises is what the isolation theorem speaks of: its replies and the table's bytes. Assumes nothing.
use Rattle.std.specs.Prelude.{ℕ, List, ◌≡◌, refl}
use Rattle.queues.specs.Calls.{CallNumber, add, look, drop, compose, done, fields, sheet, table_answer, table_left}
use Rattle.queues.specs.declared.Queue.{Queue}
use Rattle.queues.specs.Queues.{add_told, table_added, look_told, drop_told, table_dropped, compose_told}
use Rattle.queues.specs.Blocks.{Block, summary_table}

module _ (t : List ℕ) (q : Queue) where
  pub add_told_lem : (x : CallNumber) (b : Block) → table_answer summary_table q t (add x b) ≡ done (add_told t q x.value b.atoms b.bytes)
  add_told_lem x b = refl

  pub add_left : (x : CallNumber) (b : Block) → table_left summary_table q t (add x b) ≡ table_added t q x.value b.atoms b.bytes
  add_left x b = refl

  pub look_told_lem : (x : ℕ) → table_answer summary_table q t (look x) ≡ fields (look_told t q x)
  look_told_lem x = refl

  pub drop_told_lem : (x : ℕ) → table_answer summary_table q t (drop x) ≡ done (drop_told t q x)
  drop_told_lem x = refl

  pub drop_left : (x : ℕ) → table_left summary_table q t (drop x) ≡ table_dropped t q x
  drop_left x = refl

  pub compose_told_lem : (xs : List ℕ) → table_answer summary_table q t (compose xs) ≡ sheet (compose_told t q xs)
  compose_told_lem xs = refl

-- Definitions. The table: two shelves, the day queue's and the night queue's. A call of a queue reads and changes its own shelf only.
use Rattle.std.specs.Prelude.{ℕ, ◌+◌, ◌*◌, List, ◌++◌, ltb, length, take, drop, replicate}
use Rattle.std.proofs.lemmas.List.Edits.{sets}
use Rattle.reply.specs.Read.{Read, ◌then◌, refuse_if}
use Rattle.records.specs.Bytes.{part}
use Rattle.queues.specs.Shelf.{places, unless}
use Rattle.queues.specs.declared.Queue.{Queue}
use Rattle.queues.specs.declared.Queue.TheVariants.{Day, Night}

-- places of w bytes
module _ (w : ℕ) where
  abbrev pub shelf_bytes : ℕ
  shelf_bytes = w * places

  abbrev pub table_bytes : ℕ
  table_bytes = shelf_bytes + shelf_bytes

  abbrev pub shelf_start : Queue → ℕ
  shelf_start Day = 0
  shelf_start Night = shelf_bytes

  -- the shelf of a queue, and the table with another one there
  abbrev pub shelf : Queue → List ℕ → List ℕ
  shelf q t = part t (shelf_start q) shelf_bytes

  abbrev pub with_shelf : Queue → List ℕ → List ℕ → List ℕ
  with_shelf q t s = take (shelf_start q) t ++ (s ++ drop shelf_bytes (drop (shelf_start q) t))

  -- 9 for a short table, before all else
  abbrev pub table_reply : List ℕ → Read (Unit {0})
  table_reply t = refuse_if (ltb (length t) table_bytes) 9 0

  abbrev pub on_table : {A : Type 0} → List ℕ → Read A → Read A
  on_table t r = table_reply t then λ _. r

  -- the table after a call of a queue that makes s of its shelf
  abbrev pub table_after : Queue → List ℕ → List ℕ → List ℕ
  table_after q t s = unless (table_reply t) t (with_shelf q t s)

  -- the table made empty: its bytes are 0, later ones stay
  unfoldable pub zeroed : List ℕ → List ℕ
  zeroed t = sets t 0 (replicate table_bytes 0)

  abbrev pub emptied : List ℕ → List ℕ
  emptied t = unless (table_reply t) t (zeroed t)

-- Definitions. How large a book a deck needs, by the heads of its records.
use Rattle.std.specs.Prelude.{ℕ, zero, suc, ◌*◌, ◌≤◌, List, ◌≡◌, eqb, length, get_or}
use Rattle.reply.specs.Read.{if_else}
use Rattle.records.specs.Records.{block_kind, kind_at, end_at}
use Rattle.assembly.specs.Book.{most_blocks}
use Rattle.summary.specs.Layout.{summary_bytes}

-- how many records from a place on are blocks, by their heads
unfoldable pub heads_from : ℕ → List ℕ → ℕ → ℕ
heads_from zero d at = 0
heads_from (suc left) d at = if_else (eqb (kind_at d at) block_kind.number) (λ _. suc (heads_from left d (end_at d at))) (λ _. 0)

-- a book with a place for each of them, all 0
pub record Unfilled (d b : List ℕ) : Type 0 where
  pub room : summary_bytes * heads_from most_blocks d 0 ≤ length b
  pub none : (p : ℕ) → get_or b p 0 ≡ 0

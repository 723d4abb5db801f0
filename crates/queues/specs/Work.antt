-- Work. What adding works on.
use Rattle.std.specs.Prelude.{ℕ, ◌*◌, List}
use Rattle.std.proofs.lemmas.List.Edits.{sets}
use Rattle.reply.specs.Read.{Read, refused, ◌then◌}
use Rattle.reply.specs.declared.Refusal.{Refusal}
use Rattle.block.specs.Block.{block_reply}
use Rattle.summary.specs.Layout.{summary_bytes}
use Rattle.queues.specs.Shelf.{place_holding, unless}
use Rattle.queues.specs.Queues.{stored_block}

-- a reply, and a refusal where it has none
unfoldable pub first_of : Read (Unit {0}) → Refusal → Read (Unit {0})
first_of r q = r then λ _. refused q

-- a shelf whose first empty place is filled, unless the block is refused
unfoldable pub filled_in : List ℕ → ℕ → ℕ → List ℕ → List ℕ
filled_in s x n bs = unless (block_reply n bs) s (sets s (summary_bytes * place_holding summary_bytes s 0) (stored_block x n bs))

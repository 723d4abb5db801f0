-- Definitions. The reply to filling, and the lent bytes afterwards: the summary, and behind it what was there; a refusal changes none.
use Rattle.std.specs.Prelude.{ℕ, List, ltb, length}
use Rattle.std.proofs.lemmas.List.Edits.{sets}
use Rattle.graph.specs.Graph.{Graph}
use Rattle.reply.specs.Read.{Read, refused, read, ◌then◌, refuse_if}
use Rattle.block.specs.Block.{graph_of, block_reply}
use Rattle.summary.specs.Layout.{summary_bytes}
use Rattle.summary.specs.Summary.{summary_of}

-- 9 at 0 where there are fewer bytes than a place has
unfoldable pub fill_reply : ℕ → List ℕ → ℕ → Read (Unit {0})
fill_reply n xs room = block_reply n xs then λ _. refuse_if (ltb room summary_bytes) 9 0

unfoldable pub filled_summary : Read (Unit {0}) → ℕ → Graph → List ℕ → List ℕ
filled_summary (refused r) x g out = out
filled_summary (read u) x g out = sets out 0 (summary_of x g)

abbrev pub fill_bytes : ℕ → ℕ → List ℕ → List ℕ → List ℕ
fill_bytes x n xs out = filled_summary (fill_reply n xs (length out)) x (graph_of n xs) out

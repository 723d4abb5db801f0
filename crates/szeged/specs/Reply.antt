-- Definitions. The Szeged index of a block and the lent entries, or a refusal: the block's, then 9 at place 0.
use Rattle.std.specs.Prelude.{ℕ, List, ◌++◌, ltb, length, drop}
use Rattle.graph.specs.Graph.{Graph}
use Rattle.reply.specs.Read.{Read, refused, read, ◌then◌, refuse_if}
use Rattle.block.specs.Block.{bonds_of, graph_of, block_reply}
use Rattle.szeged.specs.Szeged.{szeged_terms, szeged}

-- 9 where there are fewer entries than bonds
unfoldable pub szeged_reply : ℕ → List ℕ → ℕ → Read ℕ
szeged_reply n xs room =
    block_reply n xs then λ _.
    refuse_if (ltb room (length (bonds_of xs))) 9 0 then λ _.
    read (szeged (graph_of n xs))

-- the lent entries afterwards: the term of each bond in list order, and later entries as they were; a refusal changes none
unfoldable pub filled_terms : Read ℕ → Graph → List ℕ → List ℕ
filled_terms (refused r) g out = out
filled_terms (read s) g out = szeged_terms g ++ drop (length g.bonds) out

abbrev pub szeged_entries : ℕ → List ℕ → List ℕ → List ℕ
szeged_entries n xs out = filled_terms (szeged_reply n xs (length out)) (graph_of n xs) out

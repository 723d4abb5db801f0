-- Definitions. The contributions of a block's bonds: D and the lent entries, or a refusal: the block's, then 9, then 8, both at place 0.
use Rattle.std.specs.Prelude.{ℕ, List, ◌++◌, map, ltb, length, drop}
use Rattle.graph.specs.Graph.{Graph}
use Rattle.graph.specs.Paths.{denominator, share}
use Rattle.reply.specs.Read.{Read, refused, read, ◌then◌, refuse_if}
use Rattle.block.specs.Block.{bonds_of, graph_of, block_reply}

-- the most that D may be
abbrev pub most_denominator : ℕ
most_denominator = 1_000_000

-- 9 where there are fewer entries than bonds, 8 where D is above the most
unfoldable pub shares_reply : ℕ → List ℕ → ℕ → Read ℕ
shares_reply n xs room =
    block_reply n xs then λ _.
    refuse_if (ltb room (length (bonds_of xs))) 9 0 then λ _.
    refuse_if (ltb most_denominator (denominator (graph_of n xs))) 8 0 then λ _.
    read (denominator (graph_of n xs))

-- the lent entries afterwards: the share of each bond in list order, and later entries as they were; a refusal changes none
unfoldable pub filled_shares : Read ℕ → Graph → List ℕ → List ℕ
filled_shares (refused r) g out = out
filled_shares (read d) g out = map (share g) g.bonds ++ drop (length g.bonds) out

abbrev pub shares_entries : ℕ → List ℕ → List ℕ → List ℕ
shares_entries n xs out = filled_shares (shares_reply n xs (length out)) (graph_of n xs) out

-- Definitions. The neighbours of a block's atoms, as sets.
use Rattle.std.specs.Prelude.{ℕ, suc, Bool, cond, List}
use Rattle.graph.specs.Graph.{Graph, bonded, sum}
use Rattle.graph.specs.Sets.{alone}
use Rattle.reply.specs.Read.{read, ◌then◌}
use Rattle.block.specs.Block.{most_atoms, graph_of, drawn_reply, block_reply}
use Rattle.block.specs.Rows.{table, lent_row}

-- the set of those of the atoms 1 to n that pass a test: the number whose binary digit at v - 1 is 1 where atom v passes
abbrev pub set_of : ℕ → (ℕ → Bool) → ℕ
set_of n p = sum n (λ v. cond (p v) (alone v) 0)

-- the neighbours of atom u at place u - 1
unfoldable pub neighbours_of : Graph → List ℕ
neighbours_of g = table most_atoms (λ u. set_of g.atoms (bonded g (suc u)))

-- the lent neighbours of a block after it was read: by 1 to 6 alone, and by 1 to 7
unfoldable pub drawn_near : ℕ → List ℕ → List ℕ
drawn_near n xs = lent_row (drawn_reply n xs then λ _. read (neighbours_of (graph_of n xs)))

unfoldable pub opened_near : ℕ → List ℕ → List ℕ
opened_near n xs = lent_row (block_reply n xs then λ _. read (neighbours_of (graph_of n xs)))

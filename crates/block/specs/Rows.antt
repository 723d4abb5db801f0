-- Definitions. The distances of a block: 64 rows of 64, half of them, and the largest of each row; 0 beyond its atoms and where it is refused.
use Rattle.std.specs.Prelude.{ℕ, suc, ◌-◌, ◌||◌, cond, List, [], ltb, get_or, replicate, Ok, Err}
use Rattle.graph.specs.Graph.{Graph, distance}
use Rattle.graph.specs.Farthest.{farthest}
unfoldable pub use Rattle.half.specs.Half.{table}
use Rattle.half.specs.Half.{half_of}
use Rattle.reply.specs.Read.{Read, refused, read, ◌then◌, refuse_if, is_outside}
use Rattle.block.specs.Block.{most_atoms, graph_of, block_reply}
use Rattle.block.specs.declared.OneRow.{OneRow}

-- the distances from atom i, that of atom j at place j - 1
unfoldable pub row_of : Graph → ℕ → List ℕ
row_of g i = table most_atoms (λ j. cond (ltb j g.atoms) (distance g i (suc j)) 0)

abbrev pub no_row : List ℕ
no_row = replicate most_atoms 0

-- what a lent row is afterwards: what is read, and all 0 where it is refused
abbrev pub lent_row : Read (List ℕ) → List ℕ
lent_row (refused r) = no_row
lent_row (read row) = row

-- the row of one atom, and the largest distance from it: 18 at place 0 where there is no such atom
unfoldable pub row_reply : ℕ → List ℕ → ℕ → Read (List ℕ × ℕ)
row_reply n xs i =
    block_reply n xs then λ _.
    refuse_if (is_outside n i) 18 0 then λ _.
    read (row_of (graph_of n xs) i, farthest (graph_of n xs) i)

abbrev pub said_row : Read (List ℕ × ℕ) → OneRow
said_row (refused r) = record { reply = Err r; row = no_row; largest = 0 }
said_row (read x) = record { reply = Ok tt; row = x.0; largest = x.1 }

-- the row of atom i at place i - 1
unfoldable pub rows_of : ℕ → List ℕ → List (List ℕ)
rows_of n xs = table most_atoms (λ i. (said_row (row_reply n xs (suc i))).row)

-- the largest distance from atom i at place i - 1
unfoldable pub far_of : ℕ → List ℕ → List ℕ
far_of n xs = table most_atoms (λ i. (said_row (row_reply n xs (suc i))).largest)

-- what rows have for atoms i and j; 0 for none
unfoldable pub distance_at : List (List ℕ) → ℕ → ℕ → ℕ
distance_at rows i j = cond (is_outside most_atoms i || is_outside most_atoms j) 0 (get_or (get_or rows (i - 1) []) (j - 1) 0)

-- half of the rows
unfoldable pub half_table : ℕ → List ℕ → List ℕ
half_table n xs = half_of (distance_at (rows_of n xs))

-- what is lent after a block was read into it: a refused one changes nothing
abbrev pub unless_refused : Read (Unit {0}) → List ℕ → List ℕ → List ℕ
unless_refused (refused r) old new = old
unless_refused (read u) old new = new

abbrev pub half_after : ℕ → List ℕ → List ℕ → List ℕ
half_after n xs old = unless_refused (block_reply n xs) old (half_table n xs)

abbrev pub far_after : ℕ → List ℕ → List ℕ → List ℕ
far_after n xs old = unless_refused (block_reply n xs) old (far_of n xs)

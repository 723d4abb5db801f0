-- Definitions. Balaban's J in whole numbers: J times 10 ^ 9 (Balaban, "Highly discriminating distance-based topological index", Chem. Phys. Lett. 89 (1982) 399-404),
-- rounded down bond by bond and once more at the end; and how fine that is.
use Rattle.std.specs.Prelude.{ℕ, zero, suc, ◌+◌, ◌-◌, ◌*◌, ◌/◌, ◌^◌, ◌≤◌, ◌<◌, true, false, cond, List, eqb, leb, length}
use Rattle.graph.specs.Graph.{Graph, Bond, sum_bonds, vertex_sum}
use Rattle.reply.specs.Read.{Read, read, ◌then◌}
use Rattle.block.specs.Block.{graph_of, block_reply}

-- t is the largest whole number with t squared times p at most the bound
pub record Largest (bound p t : ℕ) : Type 0 where
  pub fits : t * t * p ≤ bound
  pub most : (s : ℕ) → s * s * p ≤ bound → s ≤ t

-- The largest t with t squared at most q, worked out: twice that of q / 4, or one more. In q turns q / 4 / 4 .. is 0.
unfoldable pub root_in : ℕ → ℕ → ℕ
root_in zero q = 0
root_in (suc turns) q = elim (eqb q 0) [ true ↦ 0 | false ↦ let s = 2 * root_in turns (q / 4) in cond (leb (suc s * suc s) q) (suc s) s ]

-- The largest t with t squared times p at most the bound (`largest_root_lem`). For p = 0 there is none and this says 0; at a bond of a block p is never 0
-- (`bond_largest`).
unfoldable pub largest_root : ℕ → ℕ → ℕ
largest_root bound p = root_in (bound / p) (bound / p)

-- K squared times 10 ^ 18
abbrev pub bound : ℕ → ℕ
bound K = K * K * 10 ^ 18

-- what a bond uv brings: the largest t with t squared times S(u) times S(v) at most K squared times 10 ^ 18
unfoldable pub term : ℕ → Graph → Bond → ℕ
term K g b = largest_root (bound K) (vertex_sum g b.one * vertex_sum g b.two)

-- m, and m - n + 2: for a block nothing is cut off by the subtraction, and it is not 0 (`divisor_is`)
abbrev pub bond_count : Graph → ℕ
bond_count g = length g.bonds

abbrev pub divisor : Graph → ℕ
divisor g = bond_count g + 2 - g.atoms

-- the reckoning with K squared times 10 ^ 18: m times the sum over the bonds, divided by m - n + 2, rounded down
unfoldable pub reckoned : ℕ → Graph → ℕ
reckoned K g = bond_count g * sum_bonds g.bonds (term K g) / divisor g

-- the answer is the one for K = 1
unfoldable pub balaban_reply : ℕ → List ℕ → Read ℕ
balaban_reply n xs = block_reply n xs then λ _. read (reckoned 1 (graph_of n xs))

-- How fine an answer R is: the reckoning with K squared times 10 ^ 18, held against K times R.
pub record Fine (K : ℕ) (g : Graph) (R : ℕ) : Type 0 where
  pub least : K * R ≤ reckoned K g
  pub below : reckoned K g * divisor g < K * (divisor g * (R + 1) + bond_count g * bond_count g)

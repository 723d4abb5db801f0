-- Definitions. The even and odd polynomial values of a block, in the order of roundings that docs/RULES.md fixes, and refusal 10.
use Rattle.std.specs.Prelude.{ℕ, zero, suc, ◌-◌, ◌%◌, Bool, false, ◌||◌, cond, List, eqb, get_or, pos, negsuc, Float}
use Rattle.std.specs.Float.{fin, binary64}
use Rattle.std.specs.Float.Ieee.{add, mul, lt, eq, is_nan, of_int}
use Rattle.graph.specs.Graph.{pairs_at}
use Rattle.reply.specs.Read.{Read, refused, read, ◌then◌, refuse_if}
use Rattle.block.specs.Block.{most_atoms, graph_of, block_reply}
use Rattle.poly.specs.declared.Values.{Values}

-- the floats 0, 1 and 0.5
abbrev pub zero_f : Float
zero_f = fin false 0 (pos 0)

abbrev pub one_f : Float
one_f = fin false 1 (pos 0)

abbrev pub half : Float
half = fin false 1 (negsuc 0)

-- x is 0, negative, above 1 or a NaN
unfoldable pub unusable : Float → Bool
unusable x = eq x zero_f || lt x zero_f || lt one_f x || is_nan x

-- n(k) where k is of the parity p (0: even, 1: odd), and 0 for the other parity
unfoldable pub of_parity : ℕ → (ℕ → ℕ) → ℕ → ℕ
of_parity p n k = cond (eqb (k % 2) p) (n k) 0

-- add n, then multiply by x: two roundings to an f64
abbrev pub turn : ℕ → Float → Float → Float
turn n x v = mul binary64 (add binary64 v (of_int binary64 (pos n))) x

-- such a turn with n(k) for each k down to 1, from v on
unfoldable pub horner : (ℕ → ℕ) → Float → ℕ → Float → Float
horner n x zero v = v
horner n x (suc k) v = horner n x k (turn (n (suc k)) x v)

-- the largest distance that a block can have: 63
abbrev pub most_distance : ℕ
most_distance = most_atoms - 1

-- start at 0, and for k from 63 down to 1
unfoldable pub value : ℕ → (ℕ → ℕ) → Float → Float
value p n x = horner (of_parity p n) x most_distance zero_f

unfoldable pub polynomial_values : (ℕ → ℕ) → Float → Values
polynomial_values n x = record { even = value 0 n x; odd = value 1 n x }

-- refusal 10, or the values for n(k) pairs at each distance k
unfoldable pub polynomial_at : (ℕ → ℕ) → Float → Read Values
polynomial_at n x = refuse_if (unusable x) 10 0 then λ _. read (polynomial_values n x)

unfoldable pub polynomial_reply : ℕ → List ℕ → Float → Read Values
polynomial_reply n xs x = block_reply n xs then λ _. polynomial_at (pairs_at (graph_of n xs)) x

-- n(k) as the code holds it: at place k of a list
abbrev pub pairs_counted : List ℕ → ℕ → ℕ
pairs_counted counts k = get_or counts k 0

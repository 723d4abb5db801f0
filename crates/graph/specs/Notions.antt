-- Work. Notions that the laws of shortest paths are stated with. No promise cites them.
use Rattle.std.specs.Prelude.{ℕ, zero, suc, ◌+◌, ◌-◌, ◌/◌, ◌≤◌, ◌<◌, Bool, true, false, ◌&&◌, cond, List, [], ◌∷◌, ◌≡◌, eqb, ltb}
use Rattle.std.specs.Int.{◌∣◌}
use Rattle.graph.specs.Graph.{Graph, Bond, Within, any_joins, bonded, distance, sum}
use Rattle.graph.specs.Paths.{path_count, lcm_over}

-- whether v is bonded to j and one nearer to i, as a test and as facts
unfoldable pub near : Graph → ℕ → ℕ → ℕ → Bool
near g i v j = bonded g v j && eqb (suc (distance g i v)) (distance g i j)

pub record OnTheWay (g : Graph) (i v j : ℕ) : Type 0 where
  pub bond : bonded g v j ≡ true
  pub one : suc (distance g i v) ≡ distance g i j

-- f at the neighbour that bond e gives to j; 0 where it gives none
unfoldable pub across : Bond → (ℕ → ℕ) → ℕ → ℕ
across e f j = cond (eqb e.two j) (f e.one) 0 + cond (eqb e.one j) (f e.two) 0

-- a bond joins two atoms of 1 to n
pub record BondInside (n : ℕ) (b : Bond) : Type 0 where
  pub one : Within n b.one
  pub two : Within n b.two
  pub apart : b.one ≡ b.two → ⊥

-- each bond of the list joins two atoms of 1 to n, and none is listed again
unfoldable pub Plain : ℕ → List Bond → Type 0
Plain n [] = Unit {0}
Plain n (b ∷ bs) = BondInside n b × (any_joins bs b.one b.two ≡ false) × Plain n bs

-- what the pair i, j weighs, counted from its smaller atom
unfoldable pub weight : Graph → ℕ → ℕ → ℕ → ℕ
weight g d i j = cond (ltb i j) (d / path_count g i j) 0

-- q at u and at what lies onward from it, at most k bonds farther from i, once for each way there
unfoldable pub onward : Graph → ℕ → (ℕ → ℕ) → ℕ → ℕ → ℕ
onward g i q zero u = q u
onward g i q (suc k) u = q u + sum g.atoms (λ w. let r = onward g i q k w in cond (near g i u w) r 0)

unfoldable pub gathered : Graph → ℕ → (ℕ → ℕ) → ℕ → ℕ
gathered g i q u = onward g i q (g.atoms - distance g i u) u

-- d is the greatest common divisor of a and b
pub record Gcd (a b d : ℕ) : Type 0 where
  pub left : d ∣ a
  pub right : d ∣ b
  pub greatest : (x : ℕ) → x ∣ a → x ∣ b → x ∣ d

-- i < j of 1 to n
pub record AtomPair (n i j : ℕ) : Type 0 where
  pub low : 1 ≤ i
  pub less : i < j
  pub high : j ≤ n

-- the least common multiple of f at the pairs of 1 to n whose first is at most m, start by start
unfoldable pub lcm_starts : ℕ → (ℕ → ℕ → ℕ) → ℕ → ℕ
lcm_starts n f zero = 1
lcm_starts n f (suc i) = lcm_over (n - suc i) (λ k. f (suc i) (suc i + k)) (lcm_starts n f i)

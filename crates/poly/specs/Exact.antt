-- Definitions. What is proved of a reply beside its promise: no value is a NaN or infinite, and at x = 0.5 both are exact for a block of largest distance at most 40.
use Rattle.std.specs.Prelude.{ℕ, ◌-◌, ◌*◌, ◌^◌, Bool, true, false, ◌&&◌, Result, Ok, Err}
use Rattle.std.specs.Float.Ieee.Exact.{HasValue}
use Rattle.std.specs.Float.Ieee.Scale.{finite}
use Rattle.graph.specs.Graph.{Graph, pairs_at, sum}
use Rattle.poly.specs.Poly.{of_parity}
use Rattle.reply.specs.declared.Refusal.{Refusal}
use Rattle.poly.specs.declared.Values.{Values}

-- neither value is a NaN or an infinity
abbrev pub all_finite : Result Values Refusal → Bool
all_finite (Ok v) = finite v.even && finite v.odd
all_finite (Err r) = true

-- the largest distance up to which the values at 0.5 are exact
abbrev pub exact_to : ℕ
exact_to = 40

-- the sum of n(k) 2 ^ (40 - k) over the k of the parity p
abbrev pub scaled : ℕ → (ℕ → ℕ) → ℕ
scaled p n = sum exact_to (λ k. of_parity p n k * 2 ^ (exact_to - k))

-- a reply that is no refusal, and whose values times 2 ^ 40 are those sums: `HasValue v false a c` says that v is finite, not negative and equal to a / c
abbrev pub Exact : Graph → Result Values Refusal → Type 0
Exact g (Ok v) = HasValue v.even false (scaled 0 (pairs_at g)) (2 ^ exact_to) × HasValue v.odd false (scaled 1 (pairs_at g)) (2 ^ exact_to)
Exact g (Err r) = ⊥

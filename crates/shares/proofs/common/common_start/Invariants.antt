use Prim.Native.Nat.{ℕ, ◌+◌, ◌-◌, min, ◌≤◌, ◌<◌}
use mathlib.Core.Path.{◌≡◌}
use Rattle.graph.specs.Paths.{lcm_over}
use Rattle.shares.specs.Work.{cap, Tally}
use Rattle.shares.proofs.common.common_start.Given as goal

-- `common_start` meets its contract: the counts passed are taken in.
abbrev pub invariant-loop-k : goal.invariant-loop-k
invariant-loop-k l = (l.start < l.k) × (l.k ≤ l.n + 1) × ((f : ℕ → ℕ) (m : ℕ) → Tally l.n f m l.c l.before → l.all ≡ min cap (lcm_over (l.k - (l.start + 1)) (λ j. f (l.start + j)) m))

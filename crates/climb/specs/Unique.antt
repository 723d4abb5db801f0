-- Laws. The promise determines the reply: two that satisfy it are equal. Assumes nothing.
use Rattle.std.specs.Prelude.{ℕ, List, ◌≡◌}
use Rattle.reply.specs.Chain.{unique}
use Rattle.climb.specs.Far.{placed_far}

pub unique-far : (b xs : List ℕ) (k i l j r s : ℕ) → r ≡ placed_far b xs k i l j → s ≡ placed_far b xs k i l j → r ≡ s
unique-far b xs k i l j r s = unique

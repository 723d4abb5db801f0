use Prim.Native.Nat.{ℕ}
use mathlib.Core.List.{List}
use mathlib.Core.Path.{ap, ◌∙◌}
use Rattle.assembly.specs.Placements.{placement_at}
use Rattle.deck.proofs.placement.Goals as goal

-- `deck::placement` meets its contract. Assumes nothing.
pub returns : goal.returns
returns c = let a = c.args in c.placement_at.ensures ∙ ap (λ (xs : List ℕ). placement_at xs a.k) c.payload_at-xs.ensures.bytes

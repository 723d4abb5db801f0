use mathlib.Core.Bool.{false}
use mathlib.Core.Path.{◌≡◌, sym, ◌∙◌}
use native.Mathlib.Omega.{arith}
use Rattle.graph.specs.Graph.{Within}
use Rattle.reply.specs.Read.{is_outside}
use Rattle.block.specs.Faults.{inside}
use Rattle.assembly.specs.Placements.{most_placements}
use Rattle.climb.specs.Far.{placed_far}
use Rattle.climb.proofs.far.Goals as goal
use Rattle.climb.proofs.far.Goals.{Else-is_outside-2}

-- `climb::far` meets its contract. Assumes nothing.
pub returns-then-is_outside : goal.returns-then-is_outside
unfolding placed_far
returns-then-is_outside c = rw (sym c.is_outside.ensures ∙ c.if-is_outside.true)

pub returns-then-is_outside-2 : goal.returns-then-is_outside-2
unfolding placed_far
returns-then-is_outside-2 c = rw (sym c.is_outside.ensures ∙ c.if-is_outside.false, sym c.is_outside-2.ensures ∙ c.if-is_outside-2.true)

one : (c : Else-is_outside-2) → is_outside most_placements c.args.k ≡ false
one c = sym c.is_outside.ensures ∙ c.if-is_outside.false

two : (c : Else-is_outside-2) → is_outside most_placements c.args.l ≡ false
two c = sym c.is_outside-2.ensures ∙ c.if-is_outside-2.false

-- both are placements
numbers : (c : Else-is_outside-2) → let a = c.args in Within most_placements a.k × Within most_placements a.l
numbers c = let a = c.args in (inside most_placements a.k (one c), inside most_placements a.l (two c))

pub overflow_sub-k : goal.overflow_sub-k
overflow_sub-k c = omega (arith, (numbers (goal.at.overflow_sub-k c).Else-is_outside-2).0)

pub overflow_sub-l : goal.overflow_sub-l
overflow_sub-l c = omega (arith, (numbers (goal.at.overflow_sub-l c).Else-is_outside-2).1)

pub climb-requires : goal.climb-requires
climb-requires c = (omega (arith, (numbers (goal.at.climb-requires c).Else-is_outside-2).0), omega (arith, (numbers (goal.at.climb-requires c).Else-is_outside-2).1))

pub returns : goal.returns
unfolding placed_far
returns c = rw (one (goal.at.returns c).Else-is_outside-2, two (goal.at.returns c).Else-is_outside-2) c.climb.ensures.0

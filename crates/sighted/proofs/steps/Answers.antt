use mathlib.Core.Bool.{false}
use mathlib.Core.Path.{◌≡◌, sym, ◌∙◌}
use native.Mathlib.Omega.{arith}
use Rattle.graph.specs.Graph.{Within}
use Rattle.reply.specs.Read.{is_outside}
use Rattle.block.specs.Block.{most_atoms}
use Rattle.block.specs.Faults.{inside}
use Rattle.sighted.specs.Sighted.{steps_in}
use Rattle.sighted.proofs.steps.Goals as goal
use Rattle.sighted.proofs.steps.Goals.{Else-is_outside}

pub returns-then-is_outside : goal.returns-then-is_outside
unfolding steps_in
returns-then-is_outside c = let e = sym c.is_outside.ensures ∙ c.if-is_outside.true in rw e

is-inside : (c : Else-is_outside) → is_outside most_atoms c.args.b ≡ false
is-inside c = sym c.is_outside.ensures ∙ c.if-is_outside.false

atom : (c : Else-is_outside) → Within most_atoms c.args.b
atom c = inside most_atoms c.args.b (is-inside c)

pub overflow_sub-result : goal.overflow_sub-result
overflow_sub-result c = omega (arith, atom (goal.at.overflow_sub-result c).Else-is_outside)

pub bounds-row-b : goal.bounds-row-b
bounds-row-b c = omega (arith, atom (goal.at.bounds-row-b c).Else-is_outside)

pub returns : goal.returns
unfolding steps_in
returns c = rw (is-inside (goal.at.returns c).Else-is_outside)

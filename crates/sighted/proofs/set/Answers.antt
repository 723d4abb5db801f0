use mathlib.Core.Bool.{false}
use mathlib.Core.Path.{◌≡◌, sym, ◌∙◌}
use native.Mathlib.Omega.{arith}
use Rattle.graph.specs.Graph.{Within}
use Rattle.reply.specs.Read.{is_outside}
use Rattle.block.specs.Block.{most_atoms}
use Rattle.block.specs.Faults.{inside}
use Rattle.sighted.proofs.Looking.{set_here}
use Rattle.sighted.proofs.set.Goals as goal
use Rattle.sighted.proofs.set.Goals.{Else-is_outside}

pub returns-then-is_outside : goal.returns-then-is_outside
returns-then-is_outside c = rw (sym c.is_outside.ensures ∙ c.if-is_outside.true)

is-inside : (c : Else-is_outside) → is_outside most_atoms c.args.a ≡ false
is-inside c = sym c.is_outside.ensures ∙ c.if-is_outside.false

atom : (c : Else-is_outside) → Within most_atoms c.args.a
atom c = inside most_atoms c.args.a (is-inside c)

pub overflow_sub-a : goal.overflow_sub-a
overflow_sub-a c = omega (arith, atom (goal.at.overflow_sub-a c).Else-is_outside)

pub set_at-requires : goal.set_at-requires
set_at-requires c = omega (arith, atom (goal.at.set_at-requires c).Else-is_outside)

pub returns : goal.returns
returns c = rw (is-inside (goal.at.returns c).Else-is_outside) (c.set_at.ensures ∙ set_here _ _ (omega (arith, atom (goal.at.returns c).Else-is_outside)))

use mathlib.Core.Path.{◌≡◌, sym, ◌∙◌}
use native.Mathlib.Omega.{arith}
use mathlib.Core.Bool.{false}
use Rattle.graph.specs.SetLaws.{shifted_one}
use Rattle.graph.specs.Graph.{Within}
use Rattle.reply.specs.Read.{is_outside}
use Rattle.block.specs.Block.{most_atoms}
use Rattle.block.specs.Faults.{inside}
use Rattle.sighted.specs.Work.{start_of}
use Rattle.sighted.proofs.start.Goals as goal
use Rattle.sighted.proofs.start.Goals.{Else-is_outside}

pub returns-then-is_outside : goal.returns-then-is_outside
unfolding start_of
returns-then-is_outside c = let e = sym c.is_outside.ensures ∙ c.if-is_outside.true in rw e

is-inside : (c : Else-is_outside) → is_outside c.args.n c.args.a ≡ false
is-inside c = sym c.is_outside.ensures ∙ c.if-is_outside.false

atom : (c : Else-is_outside) → Within c.args.n c.args.a
atom c = inside c.args.n c.args.a (is-inside c)

pub overflow_sub-result : goal.overflow_sub-result
overflow_sub-result c = omega (arith, atom (goal.at.overflow_sub-result c).Else-is_outside)

pub overflow_shl-result : goal.overflow_shl-result
overflow_shl-result c = let p = c.requires in omega (arith, atom (goal.at.overflow_shl-result c).Else-is_outside)

pub returns : goal.returns
unfolding start_of
returns c = rw (is-inside (goal.at.returns c).Else-is_outside) (shifted_one most_atoms _ (overflow_shl-result (goal.at.returns c).Else-is_outside))

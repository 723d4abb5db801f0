use mathlib.Core.Bool.{false}
use mathlib.Core.Logic.{⊎_map}
use mathlib.Core.Path.{◌≡◌, sym, ◌∙◌}
use Rattle.reply.specs.Read.{is_outside}
use Rattle.block.specs.Block.{most_atoms}
use Rattle.block.proofs.Replies.{refuses_one, refuses_two, refuses_bond}
use Rattle.block.proofs.refusal.Goals as goal
use Rattle.block.proofs.refusal.Goals.{Else-is_outside}

pub returns-then-is_outside : goal.returns-then-is_outside
returns-then-is_outside c = c.at.ensures ∙ refuses_one _ _ (sym c.is_outside.ensures ∙ c.if-is_outside.true)

sized : (c : Else-is_outside) → is_outside most_atoms c.args.n ≡ false
sized c = sym c.is_outside.ensures ∙ c.if-is_outside.false

pub returns-then-bonds-ne0 : goal.returns-then-bonds-ne0
returns-then-bonds-ne0 c = c.at-then-bonds-ne0.ensures ∙ refuses_two _ _ (sized (goal.at.returns-then-bonds-ne0 c).Else-is_outside) (⊎_map (λ t. t.if-bonds-ne0.true) (λ t. t.if-bonds-gt-BYTES.true-raw) c.then-bonds-ne0.branch-raw)

pub returns : goal.returns
returns c = refuses_bond _ _ (sized (goal.at.returns c).Else-is_outside) c.if-bonds-ne0.false c.if-bonds-gt-BYTES.false-raw _ c.refusal.ensures

use mathlib.Core.Path.{refl, sym, ap, ◌∙◌}
use borrow.Author.Tests.{not-true, not-false}
use Rattle.graph.specs.Graph.{Within}
use Rattle.block.specs.Block.{graph_of}
use Rattle.block.specs.Near.{ReadyBlock}
use Rattle.block.specs.Found.{SearchTask}
use Rattle.block.specs.Faults.{inside}
use Rattle.block.specs.Told.{passed}
use Rattle.block.proofs.Filling.{row-refused, row_outside, row_fine}
use Rattle.block.proofs.Replies.{refused_block}
use Rattle.std.specs.Prelude.{Err}
use Rattle.block.proofs.row.Goals as goal
use Rattle.block.proofs.row.Goals.{Else-is_outside, Else-not-admit}

pub admit-requires : goal.admit-requires
admit-requires c = refl

pub returns-then-not-admit : goal.returns-then-not-admit
returns-then-not-admit c =
    row-refused _ _ _ _ _ (refused_block _ _ c.refusal.ensures (c.admit.ensures.refuses (not-true _ c.if-not-admit.true-raw))) refl refl refl

-- the block is fine, and i is one of its atoms
ready : (c : Else-not-admit) → let s = c.args in ReadyBlock s.n s.bonds.now c.admit.new.near
ready c = c.admit.ensures.ready (not-false _ c.if-not-admit.false-raw)

ready-in-Else-is_outside : (c : Else-is_outside) → let s = c.args in ReadyBlock s.n s.bonds.now c.admit.new.near
ready-in-Else-is_outside c = c.admit.ensures.ready (not-false _ c.if-not-admit.false-raw)

pub returns-then-is_outside : goal.returns-then-is_outside
returns-then-is_outside c = row_outside _ _ _ _ (ready (goal.at.returns-then-is_outside c).Else-not-admit).fine (sym c.is_outside.ensures ∙ c.if-is_outside.true) (ap Err c.at.ensures) refl refl

atom : (c : Else-is_outside) → let s = c.args in Within s.n s.i
atom c = inside _ _ (sym c.is_outside.ensures ∙ c.if-is_outside.false)

task : (c : Else-is_outside) → let s = c.args in SearchTask (graph_of s.n s.bonds.now) c.admit.new.near s.n s.i
task c = record { shown = (ready-in-Else-is_outside c).shown; size = refl; start = atom c }

pub from_atom-ended-requires : goal.from_atom-ended-requires
from_atom-ended-requires c = ((_, task (goal.at.from_atom-ended-requires c).Else-is_outside), refl)

pub returns : goal.returns
returns c =
    let f = (ready (goal.at.returns c).Else-not-admit).fine in
    let S = c.from_atom-ended.ensures _ (task (goal.at.returns c).Else-is_outside) in
    let whole = (passed _ _ f).whole in
    row_fine _ _ _ _ f (atom (goal.at.returns c).Else-is_outside) refl (S.far whole) (S.deep whole)

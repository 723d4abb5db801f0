use mathlib.Core.Path.{sym, ◌∙◌, ap}
use Rattle.block.specs.Block.{block_reply}
use Rattle.reply.specs.Chain.{fine_read, refused_read}
use Rattle.adjacency.specs.Judging.{no_label, label_alone, label_before, label_after}
use Rattle.neighbours.proofs.bonds.judged.Goals as goal
use Rattle.std.specs.Prelude.{Err}
use Rattle.reply.specs.Read.{as_result}

-- `judged` meets its contract: the block's reply, or 3 where the block is refused by nothing earlier. Assumes nothing.
pub returns-then-not-high : goal.returns-then-not-high
returns-then-not-high c = let a = c.args in c.check-reply.ensures ∙ ap as_result (sym (no_label a.n a.bonds.now a.high c.if-not-high.true-raw))

pub returns-in-Ok : goal.returns-in-Ok
returns-in-Ok c =
    let a = c.args in
    let e = fine_read (block_reply a.n a.bonds.now) (sym c.check-reply.ensures ∙ c.in-Ok.is) in
    ap Err c.at.ensures ∙ ap as_result (sym (label_alone a.n a.bonds.now c.requires a.high c.if-not-high.false-raw e))

pub returns-then-refusal-eq7 : goal.returns-then-refusal-eq7
returns-then-refusal-eq7 c =
    let a = c.args in
    let e = refused_read (block_reply a.n a.bonds.now) _ (sym c.check-reply.ensures ∙ c.in-Err.is) in
    ap Err c.at.ensures ∙ ap as_result (sym (label_before a.n a.bonds.now c.requires a.high _ c.if-not-high.false-raw e c.if-refusal-eq7.true))

pub returns-else-refusal-eq7 : goal.returns-else-refusal-eq7
returns-else-refusal-eq7 c =
    let a = c.args in
    let e = refused_read (block_reply a.n a.bonds.now) _ (sym c.check-reply.ensures ∙ c.in-Err.is) in
    ap as_result (sym (label_after a.n a.bonds.now c.requires a.high _ c.if-not-high.false-raw e c.if-refusal-eq7.false))

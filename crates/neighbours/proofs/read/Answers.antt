use mathlib.Core.Path.{sym, ◌∙◌, ap}
use native.Mathlib.Omega.{arith}
use lib.ListN.{length}
use Rattle.adjacency.specs.Turns.{shaped_refused, shaped_read}
use Rattle.neighbours.proofs.Shapes.{shape_refused, shape_bonds}
use Rattle.block.specs.Block.{said_molecule}
use Rattle.adjacency.proofs.Blocks.{stays, reply_fault, reply_none, reply_shape, reply_block}
use Rattle.std.specs.Prelude.{Err}
use Rattle.std.proofs.lemmas.Result.{err_from_is_err_and}
use Rattle.neighbours.proofs.read.Goals as goal

-- `read` meets its contract: each return is one way through the definition.
pub returns-then-fault-text : goal.returns-then-fault-text
returns-then-fault-text c =
    let a = c.args in
    let f = c.fault-fault.ensures in
    let e = reply_fault a.text.now (length a.out.now) (omega (arith, f, c.if-fault-text.true)) in
    record { reply = ap Err c.at.ensures ∙ rw f (sym (ap said_molecule e)); bytes = stays a.out.now e }

pub returns-then-text-count : goal.returns-then-text-count
returns-then-text-count c =
    let a = c.args in
    let e = reply_none a.text.now (length a.out.now) (omega (arith, c.fault-fault.ensures, c.if-fault-text.false)) (c.number-count.ensures.past c.if-text-count.true) in
    record { reply = ap Err c.at-then-text-count.ensures ∙ sym (ap said_molecule e); bytes = stays a.out.now e }

pub shape-requires : goal.shape-requires
shape-requires c = (c.number-count.ensures.here c.if-text-count.false).within

pub block_of-requires : goal.block_of-requires
block_of-requires c =
    let x = c.number-count.ensures.here c.if-text-count.false in
    let j = shaped_read _ _ _ (shape_bonds _ _ c.in_ok-k.ensures) in
    (x.within, j.1)

pub returns-in_err-k : goal.returns-in_err-k
returns-in_err-k c =
    let a = c.args in
    let x = c.number-count.ensures.here c.if-text-count.false in
    let j = shaped_refused _ 0 0 _ _ (shape_refused _ _ c.in_err-k.ensures) in
    let e = reply_shape a.text.now (length a.out.now) (omega (arith, c.fault-fault.ensures, c.if-fault-text.false)) _ _ _ x.same _ j in
    let p = err_from_is_err_and c.from_residual.result c.from_residual.ensures.1 in
    record { reply = rw (p.1, p.2) (sym (ap said_molecule e)); bytes = stays a.out.now e }

pub returns : goal.returns
returns c =
    let a = c.args in
    let x = c.number-count.ensures.here c.if-text-count.false in
    let j = shaped_read _ _ _ (shape_bonds _ _ c.in_ok-k.ensures) in
    let e = reply_block a.text.now (length a.out.now) (omega (arith, c.fault-fault.ensures, c.if-fault-text.false)) _ _ _ x.same j.0 in
    record { reply = c.block_of.ensures.reply ∙ sym (ap said_molecule e); bytes = c.block_of.ensures.bytes ∙ sym (rw e) }

use Prim.Native.Nat.{◌≤◌}
use mathlib.Core.Path.{◌≡◌, sym, ◌∙◌, ap}
use native.Mathlib.Omega.{arith}
use Rattle.graph.specs.Paths.{denominator}
use Rattle.block.specs.Block.{graph_of}
use Rattle.shares.specs.Reply.{most_denominator}
use Rattle.shares.proofs.Blocks.{few_bonds, given, whole, nothing}
use Rattle.block.specs.Lent.{filled_as}
use Rattle.shares.proofs.Reply.{reply_short, reply_large, reply_done, entries_stay, entries_done}
use Rattle.shares.proofs.answered.Goals as goal
use Rattle.reply.specs.Read.{as_result}
use Rattle.std.specs.Prelude.{Ok, Err}

-- `answered` meets its contract: each return is one way through the definition.
pub returns-then-out-bonds : goal.returns-then-out-bonds
returns-then-out-bonds c =
    let a = c.args in
    let e = reply_short a.n a.bonds.now c.requires.0 _ c.if-out-bonds.true in
    record { reply = ap Err c.at.ensures ∙ sym (ap as_result e); entries = entries_stay a.n a.bonds.now a.out.now e }

pub fill-d-requires : goal.fill-d-requires
fill-d-requires c =
    let a = c.args in
    let p = c.requires in
    (whole a.n a.bonds.now p.0, given a.n a.bonds.now p.0 a.near.now a.half.now a.far.now p.1 p.2 p.3, nothing a.n a.bonds.now (few_bonds a.n a.bonds.now p.0))

pub returns-then-d-gt-MOST : goal.returns-then-d-gt-MOST
returns-then-d-gt-MOST c =
    let a = c.args in
    let e = reply_large a.n a.bonds.now c.requires.0 _ c.if-out-bonds.false (omega (arith, c.if-d-gt-MOST.true, c.fill-d.ensures.0)) in
    record { reply = ap Err c.at-then-d-gt-MOST.ensures ∙ sym (ap as_result e); entries = entries_stay a.n a.bonds.now a.out.now e }

pub put-requires : goal.put-requires
put-requires c = (c.if-out-bonds.false, few_bonds c.args.n c.args.bonds.now c.requires.0)

pub shape_of-out : goal.shape_of-out
shape_of-out c = c.put.ensures.same

pub returns : goal.returns
returns c =
    let a = c.args in
    let f = c.fill-d in
    let low : f.result ≤ most_denominator = omega (arith, c.if-d-gt-MOST.false) in
    let is : f.result ≡ denominator (graph_of a.n a.bonds.now) = omega (arith, f.ensures.0) in
    let r = c.if-out-bonds.false in
    let e = reply_done a.n a.bonds.now c.requires.0 _ r (omega arith) in
    record { reply = ap Ok is ∙ sym (ap as_result e); entries = entries_done a.n a.bonds.now e (filled_as c.put.ensures (f.ensures.1 low)) r }

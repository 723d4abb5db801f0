use mathlib.Core.Path.{sym, ◌∙◌, ap}
use Rattle.szeged.proofs.Reply.{reply_short, reply_done, entries_stay, entries_done}
use Rattle.szeged.proofs.answered.Goals as goal
use Rattle.reply.specs.Read.{as_result}
use Rattle.std.specs.Prelude.{Ok, Err}

-- `answered` meets its contract: each return is one way through the definition.
pub returns-then-out-bonds : goal.returns-then-out-bonds
returns-then-out-bonds c =
    let e = reply_short c.args.n c.args.bonds.now c.requires.0 _ c.if-out-bonds.true in
    record { reply = ap Err c.at.ensures ∙ sym (ap as_result e); entries = entries_stay c.args.n c.args.bonds.now c.args.out.now e }

pub fill-requires : goal.fill-requires
fill-requires c = let p = c.requires in record { fine = p.0; far = p.1; room = c.if-out-bonds.false }

pub returns : goal.returns
returns c =
    let fits = c.if-out-bonds.false in
    let d = c.fill.ensures in
    let e = reply_done c.args.n c.args.bonds.now c.requires.0 _ fits in
    record { reply = ap Ok d.is ∙ sym (ap as_result e); entries = entries_done c.args.n c.args.bonds.now e fits d }

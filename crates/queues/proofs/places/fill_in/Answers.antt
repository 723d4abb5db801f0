use Rattle.queues.proofs.Answers.{lent_reply, lent_bytes}
use Rattle.queues.proofs.places.fill_in.Goals as goal

-- `fill_in` meets its contract.
pub returns : goal.returns
returns c =
    let f = c.fill in
    let p = c.requires in
    let a = c.args in record { reply = lent_reply a.s.now a.number a.n a.bonds.now a.k p.1 p.0 p.2 f.result f.ensures.reply; bytes = lent_bytes a.s.now a.number a.n a.bonds.now a.k p.1 p.0 p.2 _ f.ensures.bytes }

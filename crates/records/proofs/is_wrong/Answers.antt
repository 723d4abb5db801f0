use Prim.Native.Nat.{ℕ}
use mathlib.Core.Path.{sym, ◌∙◌, ap}
use lib.Dec.{ltb}
use Rattle.records.proofs.Replies.{wrong_loose, wrong_counted}
use Rattle.records.proofs.is_wrong.Goals as goal

-- `records::is_wrong` meets its contract. Assumes nothing.
pub returns-then-k : goal.returns-then-k
returns-then-k c = let a = c.args in ap (λ (n : ℕ). ltb n a.k.fixed) c.le16_at.ensures ∙ sym (wrong_loose a.k a.d.now a.at c.if-k.true)

pub returns : goal.returns
returns c = let a = c.args in c.is_odd.ensures ∙ sym (wrong_counted a.k a.d.now a.at c.if-k.false)

use Prim.Native.Nat.{◌+◌}
use mathlib.Core.Path.{sym, ◌∙◌}
use native.Mathlib.Omega.{arith}
use Rattle.records.proofs.Numbers.{past}
use Rattle.records.proofs.Replies.{is_six, not_six}
use Rattle.records.proofs.sheet_at.Goals as goal

-- `records::sheet_at` meets its contract: past the end no number stands. Assumes nothing.
pub returns-then-d-at : goal.returns-then-d-at
returns-then-d-at c = let a = c.args in sym (not_six a.d.now a.at (λ e. omega (arith, e, past 2 a.d.now (a.at + 2) (omega arith))))

pub returns-then-le16_at : goal.returns-then-le16_at
returns-then-le16_at c = sym (is_six _ _ (sym c.le16_at.ensures ∙ c.if-le16_at.true))

pub returns : goal.returns
returns c = sym (not_six _ _ (λ e. c.if-le16_at.false (c.le16_at.ensures ∙ e)))

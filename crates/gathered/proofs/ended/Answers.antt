use mathlib.Core.Path.{sym, ◌∙◌, ap}
use native.Mathlib.Omega.{arith}
use Prim.Native.Nat.{ℕ}
use Rattle.reply.specs.Read.{refusal, as_result}
use Rattle.gathered.proofs.Answers.{more_follows, none_follows}
use Rattle.gathered.proofs.ended.Goals as goal
use Rattle.std.specs.Prelude.{Err}

-- `gathered::ended` meets its contract. Assumes nothing.
pub returns-then-end-d : goal.returns-then-end-d
returns-then-end-d c =
    let a = c.args in
    let e = c.le16_at.ensures in
    ap Err c.at.ensures ∙ ap (λ (p : ℕ). Err (refusal 11 p)) (omega (arith, e)) ∙ sym (ap as_result (more_follows a.d.now a.all (omega (arith, e, c.if-end-d.true))))

pub returns : goal.returns
returns c =
    let a = c.args in
    sym (ap as_result (none_follows a.d.now a.all (omega (arith, c.le16_at.ensures, c.if-end-d.false))))

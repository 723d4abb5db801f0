use Prim.Native.Nat.{◌≤◌}
use mathlib.Core.Path.{sym, ap, ◌∙◌}
use native.Mathlib.Omega.{arith}
use lib.ListN.{length}
use Rattle.records.specs.Records.{end_at}
use Rattle.records.proofs.Replies.{cut_off, is_one, is_other, is_neither}
use Rattle.records.proofs.record_at.Goals as goal
use Rattle.records.proofs.record_at.Goals.{Else-d-at-2}
use Rattle.reply.specs.Read.{as_result}
use Rattle.std.specs.Prelude.{Err}

-- `records::record_at` meets its contract. Assumes nothing.
whole : (c : Else-d-at-2) → let a = c.args in end_at a.d.now a.at ≤ length a.d.now
whole c = omega (arith, c.le16_at.ensures)

pub returns-then-d-at : goal.returns-then-d-at
returns-then-d-at c = let a = c.args in ap Err c.at.ensures ∙ ap as_result (sym (cut_off a.a a.b a.d.now a.at (omega arith)))

pub returns-then-d-at-2 : goal.returns-then-d-at-2
returns-then-d-at-2 c = let a = c.args in
    ap Err c.at-then-d-at-2.ensures ∙ ap as_result (sym (cut_off a.a a.b a.d.now a.at (omega (arith, c.le16_at.ensures))))

pub returns-then-kind-a : goal.returns-then-kind-a
returns-then-kind-a c = let a = c.args in
    c.length_reply.ensures ∙ ap as_result (sym (is_one a.a a.b a.d.now a.at (whole (goal.at.returns-then-kind-a c).Else-d-at-2) (sym c.le16_at-kind.ensures ∙ c.if-kind-a.true)))

pub returns-then-kind-b : goal.returns-then-kind-b
returns-then-kind-b c = let a = c.args in
    let k = c.le16_at-kind.ensures in
    c.length_reply-then-kind-b.ensures
    ∙ ap as_result (sym (is_other a.a a.b a.d.now a.at (whole (goal.at.returns-then-kind-b c).Else-d-at-2) (λ e. c.if-kind-a.false (k ∙ e)) (sym k ∙ c.if-kind-b.true)))

pub returns : goal.returns
returns c = let a = c.args in
    let k = c.le16_at-kind.ensures in
    ap Err c.at-2.ensures ∙ ap as_result (sym (is_neither a.a a.b a.d.now a.at (whole (goal.at.returns c).Else-d-at-2) (λ e. c.if-kind-a.false (k ∙ e)) (λ e. c.if-kind-b.false (k ∙ e))))

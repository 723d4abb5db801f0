use Prim.Native.Nat.{ℕ, ◌+◌, ◌≤◌}
use mathlib.Core.Path.{◌≡◌, sym, ap, ◌∙◌}
use native.Mathlib.Omega.{arith}
use lib.ListN.{length}
use Rattle.std.proofs.lemmas.Result.{err_from_is_err_and}
use Rattle.reply.specs.Read.{read, as_result}
use Rattle.reply.specs.Chain.{fine_read, refused_read}
use Rattle.records.specs.Records.{end_at, record_reply}
use Rattle.records.specs.Taken.{taken}
use Rattle.deck.specs.Deck.{sheet_kinds, end_reply, sheet_reply}
use Rattle.deck.specs.declared.Form.{Form}
use Rattle.deck.proofs.Parts.{composed_end, no_sheet, sheet_end}
use Rattle.deck.proofs.sheet_reply.Goals as goal
use Rattle.deck.proofs.sheet_reply.Goals.{In_ok-record_at}

-- `deck::sheet_reply` meets its contract. Assumes nothing.
fine : (c : In_ok-record_at) → let a = c.args in record_reply sheet_kinds a.d.now a.at ≡ read tt
fine c = fine_read _ (sym c.record_at.ensures ∙ c.in_ok-record_at.was)

whole : (c : In_ok-record_at) → let a = c.args in end_at a.d.now a.at ≤ length a.d.now
whole c = let a = c.args in (taken a.d.now a.at sheet_kinds (fine c)).whole

pub returns-in_default : goal.returns-in_default
returns-in_default c = let a = c.args in c.end_reply.ensures ∙ ap as_result (sym (composed_end a.d.now a.at)) ∙ ap (λ (f : Form). as_result (sheet_reply f a.d.now a.at)) (sym c.in_default.is)

pub returns-in_err-record_at : goal.returns-in_err-record_at
returns-in_err-record_at c =
    let a = c.args in
    let p = err_from_is_err_and c.from_residual.result c.from_residual.ensures.1 in
    let e = refused_read _ _ (sym c.record_at.ensures ∙ c.in_err-record_at.was) in
    rw (p.1, p.2) (ap as_result (sym (no_sheet a.d.now a.at _ e)) ∙ ap (λ (f : Form). as_result (sheet_reply f a.d.now a.at)) (sym c.in-Judged.is))

pub overflow_add-at : goal.overflow_add-at
overflow_add-at c = omega (arith, whole (goal.at.overflow_add-at c).In_ok-record_at)

pub overflow_add-at-2 : goal.overflow_add-at-2
overflow_add-at-2 c = omega (arith, c.le16_at.ensures, whole (goal.at.overflow_add-at-2 c).In_ok-record_at)

pub returns : goal.returns
returns c = let a = c.args in
    c.end_reply-2.ensures
    ∙ ap (λ (n : ℕ). as_result (end_reply a.d.now (a.at + 4 + n))) c.le16_at.ensures
    ∙ ap as_result (sym (sheet_end a.d.now a.at (fine (goal.at.returns c).In_ok-record_at)))
    ∙ ap (λ (f : Form). as_result (sheet_reply f a.d.now a.at)) (sym c.in-Judged.is)

use Prim.Native.Nat.{ℕ}
use mathlib.Core.List.{List, [], ◌∷◌}
use mathlib.Core.Path.{◌≡◌, sym, ◌∙◌, ap}
use Rattle.reply.specs.Read.{Read, read, ◌then◌}
use Rattle.block.specs.Rows.{row_reply}
use Rattle.block_calls.proofs.Laws.{row_said, row_told}
use Rattle.calls.proofs.Laws.{lent_refused, lent_read}
use Rattle.block_calls.proofs.farthest.Goals as goal
use Rattle.block_calls.proofs.farthest.Goals.{After-row-seen}
use Rattle.std.specs.Prelude.{Result}
use Rattle.reply.specs.declared.Refusal.{Refusal}

-- `block_calls::farthest` meets its contract.
-- what the row told, once its reply is known
told : (c : After-row-seen) (q : Result (Unit {0}) Refusal) → c.row-seen.result.reply ≡ q → let a = c.args in row_reply a.atoms a.bonds.now a.atom ≡ row_said q c.row-seen.result.row c.row-seen.result.largest
told c q e =
    let a = c.args in
    sym (row_told c.row-seen.result (row_reply a.atoms a.bonds.now a.atom) c.row-seen.ensures) ∙ ap (λ (p : Result (Unit {0}) Refusal). row_said p c.row-seen.result.row c.row-seen.result.largest) e

pub returns-in-Err : goal.returns-in-Err
returns-in-Err c =
    lent_refused _ c.args.largest.now c.code_of.result (ap (λ (R : Read (List ℕ × ℕ)). R then λ x. read (x.1 ∷ [])) (told (goal.at.returns-in-Err c).After-row-seen _ c.in-Err.is)) c.code_of.ensures

pub returns-in-Ok : goal.returns-in-Ok
returns-in-Ok c =
    lent_read _ c.args.largest.now c.give.result _
    (ap (λ (R : Read (List ℕ × ℕ)). R then λ x. read (x.1 ∷ [])) (told (goal.at.returns-in-Ok c).After-row-seen _ c.in-Ok.is) ∙ ap (λ (d : ℕ). read (d ∷ [])) (sym c.wide.ensures.0))
    c.give.ensures

use Prim.Native.Nat.{ℕ, ◌+◌, ◌≤◌}
use mathlib.Core.Path.{◌≡◌, sym, ap, ◌∙◌}
use lib.ListN.{length}
use Rattle.reply.specs.Read.{read}
use Rattle.text.specs.Said.{line_at}
use Rattle.text.specs.Laws.{said_next, no_number_lem, is_number_lem}
use Rattle.molfile.specs.Molfile.{line_reply}
use Rattle.molfile.specs.Work.{said_numbers}
use Rattle.molfile.specs.declared.Numbers.{Numbers}
use Rattle.molfile.proofs.Turns.{line_refused, line_read}
use Rattle.molfile.proofs.Lines.{line_there, numbers_no_line, numbers_first, numbers_second, numbers_both}
use native.Mathlib.Omega.{arith}
use Rattle.molfile.proofs.two_numbers.Goals as goal
use Rattle.molfile.proofs.two_numbers.Goals.{In_ok-l}
use Rattle.std.specs.Prelude.{Ok, Err}
use Rattle.std.proofs.lemmas.Result.{err_from_is_err_and}

-- `molfile::two_numbers` meets its contract. Assumes nothing.
-- the line is there
there : (c : In_ok-l) → let a = c.args in
    (line_reply 6 a.d.now a.at ≡ read tt) × (line_at a.d.now a.at ≡ c.in_ok-l.l)
there c = let a = c.args in
    line_read a.d.now a.at (line_reply 6 a.d.now a.at) (sym c.in_ok-l.ensures)

long : (c : In_ok-l) → let a = c.args in a.at + 6 ≤ length a.d.now
long c = let a = c.args in
    let l = line_there 6 a.d.now a.at (there c).0 in omega arith

numbers : {a b c x y z : ℕ} → a ≡ x → b ≡ y → c ≡ z → ◌≡◌ {A = Numbers} (record { one = a; two = b; next = c }) (record { one = x; two = y; next = z })
numbers p q r = rw (p, q, r)

pub number_at-one-requires : goal.number_at-one-requires
number_at-one-requires c = omega (arith, long (goal.at.number_at-one-requires c).In_ok-l)

pub overflow_add-at : goal.overflow_add-at
overflow_add-at c = omega (arith, long (goal.at.overflow_add-at c).In_ok-l)

pub number_at-two-requires : goal.number_at-two-requires
number_at-two-requires c = omega (arith, long (goal.at.number_at-two-requires c).In_ok-l)

pub returns-then-one-eq-NO_NUMBER : goal.returns-then-one-eq-NO_NUMBER
returns-then-one-eq-NO_NUMBER c =
    let a = c.args in
    ap Err c.at.ensures ∙ ap (said_numbers a.d.now a.at) (sym (numbers_first a.d.now a.at (there (goal.at.returns-then-one-eq-NO_NUMBER c).In_ok-l).0 (no_number_lem _ _ _ c.number_at-one.result c.number_at-one.ensures c.if-one-eq-NO_NUMBER.true)))

pub returns-then-two-eq-NO_NUMBER : goal.returns-then-two-eq-NO_NUMBER
returns-then-two-eq-NO_NUMBER c =
    let a = c.args in
    let f = is_number_lem _ _ _ c.number_at-one.result c.number_at-one.ensures c.if-one-eq-NO_NUMBER.false in
    let g = no_number_lem _ _ _ c.number_at-two.result c.number_at-two.ensures c.if-two-eq-NO_NUMBER.true in
    ap Err c.at-then-two-eq-NO_NUMBER.ensures ∙ ap (said_numbers a.d.now a.at) (sym (numbers_second a.d.now a.at (there (goal.at.returns-then-two-eq-NO_NUMBER c).In_ok-l).0 f.0 g))

pub returns-in_err-l : goal.returns-in_err-l
returns-in_err-l c =
    let a = c.args in
    let e = line_refused a.d.now a.at (line_reply 6 a.d.now a.at) (sym c.in_err-l.ensures) in
    let p = err_from_is_err_and c.from_residual.result c.from_residual.ensures.1 in
    rw (p.1, p.2) (ap (said_numbers a.d.now a.at) (sym (numbers_no_line a.d.now a.at _ e)))

pub returns : goal.returns
returns c =
    let a = c.args in
    let f = is_number_lem _ _ _ c.number_at-one.result c.number_at-one.ensures c.if-one-eq-NO_NUMBER.false in
    let g = is_number_lem _ _ _ c.number_at-two.result c.number_at-two.ensures c.if-two-eq-NO_NUMBER.false in
    ap Ok (numbers f.1 g.1 (said_next a.d.now a.at (sym (there (goal.at.returns c).In_ok-l).1))) ∙ ap (said_numbers a.d.now a.at) (sym (numbers_both a.d.now a.at (there (goal.at.returns c).In_ok-l).0 f.0 g.0))

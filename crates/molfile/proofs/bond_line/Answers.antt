use mathlib.Core.Bool.{Bool, true, false, ◌||◌}
use mathlib.Core.Path.{◌≡◌, sym, ap, ◌∙◌}
use Rattle.reply.specs.Read.{read, is_outside}
use Rattle.molfile.specs.Molfile.{ends_of_line, numbers_reply}
use Rattle.molfile.specs.Work.{said_numbers, numbers_at}
use Rattle.molfile.specs.declared.Numbers.{Numbers}
use Rattle.molfile.proofs.Turns.{numbers-refused, numbers-read}
use Rattle.molfile.proofs.Lines.{bond_no_numbers, bond_outside, bond_inside}
use Rattle.molfile.proofs.bond_line.Goals as goal
use Rattle.molfile.proofs.bond_line.Goals.{In_ok-x}
use Rattle.std.specs.Prelude.{Ok, Err}
use Rattle.std.proofs.lemmas.Result.{err_from_is_err_and}

-- `molfile::bond_line` meets its contract. Assumes nothing.
there : (c : In_ok-x) → let a = c.args in
    (numbers_reply a.d.now a.at ≡ read tt) × (numbers_at a.d.now a.at ≡ c.in_ok-x.x)
there c = let a = c.args in
    numbers-read a.d.now a.at (numbers_reply a.d.now a.at) (sym c.in_ok-x.ensures)

first : {p : Bool} (q : Bool) → p ≡ true → (p || q) ≡ true
first q e = rw e

second : {p q : Bool} → p ≡ false → q ≡ true → (p || q) ≡ true
second e f = rw (e, f)

neither : {p q : Bool} → p ≡ false → q ≡ false → (p || q) ≡ false
neither e f = rw (e, f)

pub returns-then-is_outside : goal.returns-then-is_outside
returns-then-is_outside c =
    let a = c.args in
    let e = ap (λ (x : Numbers). is_outside a.n x.one) (there (goal.at.returns-then-is_outside c).In_ok-x).1 ∙ sym c.is_outside.ensures ∙ c.if-is_outside.true in
    ap Err c.at.ensures ∙ ap (said_numbers a.d.now a.at) (sym (bond_outside a.n a.d.now a.at (there (goal.at.returns-then-is_outside c).In_ok-x).0 (first (is_outside a.n (ends_of_line a.d.now a.at).two) e)))

pub returns-then-is_outside-2 : goal.returns-then-is_outside-2
returns-then-is_outside-2 c =
    let a = c.args in
    let e = ap (λ (x : Numbers). is_outside a.n x.one) (there (goal.at.returns-then-is_outside-2 c).In_ok-x).1 ∙ sym c.is_outside.ensures ∙ c.if-is_outside.false in
    let f = ap (λ (x : Numbers). is_outside a.n x.two) (there (goal.at.returns-then-is_outside-2 c).In_ok-x).1 ∙ sym c.is_outside-2.ensures ∙ c.if-is_outside-2.true in
    ap Err c.at-then-is_outside-2.ensures ∙ ap (said_numbers a.d.now a.at) (sym (bond_outside a.n a.d.now a.at (there (goal.at.returns-then-is_outside-2 c).In_ok-x).0 (second e f)))

pub returns-in_err-x : goal.returns-in_err-x
returns-in_err-x c =
    let a = c.args in
    let e = numbers-refused a.d.now a.at (numbers_reply a.d.now a.at) (sym c.in_err-x.ensures) in
    let p = err_from_is_err_and c.from_residual.result c.from_residual.ensures.1 in
    rw (p.1, p.2) (ap (said_numbers a.d.now a.at) (sym (bond_no_numbers a.n a.d.now a.at _ e)))

pub returns : goal.returns
returns c =
    let a = c.args in
    let e = ap (λ (x : Numbers). is_outside a.n x.one) (there (goal.at.returns c).In_ok-x).1 ∙ sym c.is_outside.ensures ∙ c.if-is_outside.false in
    let f = ap (λ (x : Numbers). is_outside a.n x.two) (there (goal.at.returns c).In_ok-x).1 ∙ sym c.is_outside-2.ensures ∙ c.if-is_outside-2.false in
    ap Ok (sym (there (goal.at.returns c).In_ok-x).1) ∙ ap (said_numbers a.d.now a.at) (sym (bond_inside a.n a.d.now a.at (there (goal.at.returns c).In_ok-x).0 (neither e f)))

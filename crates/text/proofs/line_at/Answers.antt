use Rattle.text.proofs.Lines.{end_from, line_last, line_empty, line_carriage, line_plain}
use native.Mathlib.Omega.{arith}
use Rattle.text.proofs.line_at.Goals as goal

-- `text::line_at` meets its contract. Assumes nothing.
pub overflow_sub-result : goal.overflow_sub-result
overflow_sub-result c = let a = c.args in omega (arith, c.line_end-end.ensures, end_from a.d.now a.at)

pub returns-then-d-end : goal.returns-then-d-end
returns-then-d-end c =
    let a = c.args in
    line_last a.d.now a.at c.line_end-end.result c.line_end-end.ensures c.if-d-end.true

pub overflow_sub-chars : goal.overflow_sub-chars
overflow_sub-chars c = let a = c.args in omega (arith, c.line_end-end.ensures, end_from a.d.now a.at)

pub returns-then-chars-eq0 : goal.returns-then-chars-eq0
returns-then-chars-eq0 c =
    let a = c.args in
    line_empty a.d.now a.at c.line_end-end.result c.line_end-end.ensures c.if-d-end.false c.if-chars-eq0.true

pub returns-then-d-end-eq-CARRIAGE : goal.returns-then-d-end-eq-CARRIAGE
returns-then-d-end-eq-CARRIAGE c =
    let a = c.args in
    let l = c.line_end-end in
    line_carriage a.d.now a.at l.result l.ensures c.if-d-end.false c.if-chars-eq0.false c.if-d-end-eq-CARRIAGE.true

pub returns : goal.returns
returns c =
    let a = c.args in
    let l = c.line_end-end in
    line_plain a.d.now a.at l.result l.ensures c.if-d-end.false c.if-chars-eq0.false c.if-d-end-eq-CARRIAGE.false

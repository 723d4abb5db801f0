use mathlib.Core.Path.{sym, ap, ◌∙◌}
use Rattle.text.specs.Laws.{said_chars}
use Rattle.molfile.specs.Work.{said_line}
use Rattle.molfile.proofs.Lines.{line_missing, line_short, line_long}
use native.Mathlib.Omega.{arith}
use Rattle.molfile.proofs.line.Goals as goal
use Rattle.std.specs.Prelude.{Ok, Err}

-- `molfile::line` meets its contract. Assumes nothing.
pub returns-then-d-at : goal.returns-then-d-at
returns-then-d-at c =
    let a = c.args in
    ap Err c.at.ensures ∙ ap (said_line a.d.now a.at) (sym (line_missing a.least a.d.now a.at c.if-d-at.true))

pub returns-then-seen-least : goal.returns-then-seen-least
returns-then-seen-least c =
    let a = c.args in
    let e = said_chars a.d.now a.at c.line_at-seen.ensures in
    ap Err c.at-then-seen-least.ensures ∙ ap (said_line a.d.now a.at) (sym (line_short a.least a.d.now a.at c.if-d-at.false (omega (arith, c.if-seen-least.true))))

pub returns : goal.returns
returns c =
    let a = c.args in
    let e = said_chars a.d.now a.at c.line_at-seen.ensures in
    ap Ok c.line_at-seen.ensures ∙ ap (said_line a.d.now a.at) (sym (line_long a.least a.d.now a.at c.if-d-at.false (omega (arith, c.if-seen-least.false))))

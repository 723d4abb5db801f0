use mathlib.Core.Path.{sym, ap, ◌∙◌}
use Rattle.molfile.specs.Molfile.{counts_place, in_turn, header_reply, numbers_reply}
use Rattle.molfile.specs.Work.{said_numbers}
use Rattle.molfile.proofs.Turns.{walk_refused, walk-read}
use Rattle.molfile.proofs.Chains.{counts_no_header, counts_go_on}
use Rattle.molfile.proofs.counts_line.Goals as goal
use Rattle.std.proofs.lemmas.Result.{err_from_is_err_and}

-- `molfile::counts_line` meets its contract. Assumes nothing.
pub returns-in_err-at : goal.returns-in_err-at
returns-in_err-at c =
    let d = c.args.d.now in
    let e = walk_refused (counts_place d) (in_turn 3 (header_reply d)) (sym c.in_err-at.ensures) in
    let p = err_from_is_err_and c.from_residual.result c.from_residual.ensures.1 in
    rw (p.1, p.2) (ap (said_numbers d (counts_place d)) (sym (counts_no_header d _ e)))

pub returns : goal.returns
returns c =
    let d = c.args.d.now in
    let e = walk-read (counts_place d) (in_turn 3 (header_reply d)) (sym c.in_ok-at.ensures) in
    c.two_numbers.ensures ∙ ap (λ at. said_numbers d at (numbers_reply d at)) (sym e.1) ∙ ap (said_numbers d (counts_place d)) (sym (counts_go_on d e.0))

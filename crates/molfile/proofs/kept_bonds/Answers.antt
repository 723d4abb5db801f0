use mathlib.Core.Path.{sym}
use Rattle.molfile.specs.Molfile.{counts_place}
use Rattle.molfile.specs.Work.{counts_reply}
use Rattle.molfile.proofs.Turns.{numbers-refused, numbers-read}
use Rattle.molfile.proofs.Chains.{lines_no_counts}
use Rattle.molfile.proofs.Replies.{refused-kept}
use Rattle.molfile.proofs.kept_bonds.Goals as goal
use Rattle.std.proofs.lemmas.Result.{err_from_is_err_and}

pub listed-requires : goal.listed-requires
listed-requires c =
    let d = c.args.text.now in
    let e = numbers-read d (counts_place d) (counts_reply d) (sym c.in_ok-x.ensures) in
    (sym e.1, e.0)

pub returns-in_err-x : goal.returns-in_err-x
returns-in_err-x c =
    let d = c.args.text.now in
    let w = refused-kept d c.args.out.now (lines_no_counts d _ (numbers-refused d (counts_place d) (counts_reply d) (sym c.in_err-x.ensures))) in
    let p = err_from_is_err_and c.from_residual.result c.from_residual.ensures.1 in
    record { reply = rw (p.1, p.2) w.0; numbers = w.1 }

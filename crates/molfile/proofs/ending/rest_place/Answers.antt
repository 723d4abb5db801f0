use mathlib.Core.Path.{sym, ap, ◌∙◌}
use Rattle.reply.specs.Read.{Read}
use Rattle.molfile.specs.Molfile.{counts_place, rest_by}
use Rattle.molfile.specs.Work.{counts_reply}
use Rattle.molfile.proofs.Turns.{numbers-refused, numbers-read}
use Rattle.molfile.proofs.Chains.{lines_no_counts}
use Rattle.molfile.proofs.ending.rest_place.Goals as goal

pub listed_end-requires : goal.listed_end-requires
listed_end-requires c =
    let d = c.args.text.now in
    let e = numbers-read d (counts_place d) (counts_reply d) (sym c.counts_line-seen.ensures ∙ c.in-Ok.is) in
    (sym e.1, e.0)

pub returns-in-Err : goal.returns-in-Err
returns-in-Err c =
    let d = c.args.text.now in
    let e = lines_no_counts d _ (numbers-refused d (counts_place d) (counts_reply d) (sym c.counts_line-seen.ensures ∙ c.in-Err.is)) in
    sym (ap (λ (m : Read (Unit {0})). rest_by m d) e)

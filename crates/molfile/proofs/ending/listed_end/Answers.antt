use Prim.Native.Nat.{◌≤◌}
use mathlib.Core.Path.{sym, ap, ◌∙◌}
use native.Mathlib.Omega.{arith}
use Rattle.reply.specs.Read.{Read}
use Rattle.molfile.specs.Molfile.{rest_by}
use Rattle.molfile.specs.Work.{most}
use Rattle.molfile.specs.declared.Numbers.{Numbers}
use Rattle.molfile.proofs.Turns.{walk-read, walk_refused}
use Rattle.molfile.proofs.Chains.{lines_go_on, counts_few}
use Rattle.molfile.proofs.ending.listed_end.Goals as goal

pub lists-passed-requires : goal.lists-passed-requires
lists-passed-requires c =
    let few = counts_few c.args.text.now c.requires.1 in
    let n : c.args.x.one ≤ most = omega (arith, ap (λ (x : Numbers). x.one) c.requires.0, few.0) in
    let m : c.args.x.two ≤ most = omega (arith, ap (λ (x : Numbers). x.two) c.requires.0, few.1) in
    (c.requires.0, n, n, m, m)

pub returns-in-Err : goal.returns-in-Err
returns-in-Err c =
    let d = c.args.text.now in
    let e = lines_go_on d c.requires.1 ∙ walk_refused _ _ (sym c.lists-passed.ensures.reply ∙ c.in-Err.is) in
    sym (ap (λ (m : Read (Unit {0})). rest_by m d) e)

pub returns-in-Ok : goal.returns-in-Ok
returns-in-Ok c =
    let d = c.args.text.now in
    let w = walk-read _ _ (sym c.lists-passed.ensures.reply ∙ c.in-Ok.is) in
    sym w.1 ∙ sym (ap (λ (m : Read (Unit {0})). rest_by m d) (lines_go_on d c.requires.1 ∙ w.0))

use borrow.Author.Tests.{eq-eqb, ne_eqb}
use Rattle.sdfile.specs.Sdf.{is_white}
use Rattle.sdfile.proofs.is_white.Goals as goal

-- `sdfile::is_white` meets its contract. Assumes nothing.
pub returns-then-b-eq-BLANK : goal.returns-then-b-eq-BLANK
unfolding is_white
returns-then-b-eq-BLANK c = rw (eq-eqb c.args.b 32 c.if-b-eq-BLANK.true)

pub returns-then-b-eq-TAB : goal.returns-then-b-eq-TAB
unfolding is_white
returns-then-b-eq-TAB c = let b = c.args.b in rw (ne_eqb b 32 c.if-b-eq-BLANK.false, eq-eqb b 9 c.if-b-eq-TAB.true)

pub returns-then-b-eq-CARRIAGE : goal.returns-then-b-eq-CARRIAGE
unfolding is_white
returns-then-b-eq-CARRIAGE c =
    let b = c.args.b in
    rw (ne_eqb b 32 c.if-b-eq-BLANK.false, ne_eqb b 9 c.if-b-eq-TAB.false, eq-eqb b 13 c.if-b-eq-CARRIAGE.true)

pub returns : goal.returns
unfolding is_white
returns c =
    let b = c.args.b in
    rw (ne_eqb b 32 c.if-b-eq-BLANK.false, ne_eqb b 9 c.if-b-eq-TAB.false, ne_eqb b 13 c.if-b-eq-CARRIAGE.false)

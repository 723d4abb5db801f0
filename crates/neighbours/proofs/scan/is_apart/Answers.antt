use borrow.Author.Tests.{eq-eqb, ne_eqb}
use Rattle.neighbours.proofs.scan.is_apart.Goals as goal

-- `is_apart` meets its contract. Assumes nothing.
pub returns-then-b-eq32 : goal.returns-then-b-eq32
returns-then-b-eq32 c = rw (eq-eqb c.args.b 32 c.if-b-eq32.true)

pub returns-then-b-eq9 : goal.returns-then-b-eq9
returns-then-b-eq9 c = let b = c.args.b in rw (ne_eqb b 32 c.if-b-eq32.false, eq-eqb b 9 c.if-b-eq9.true)

pub returns-then-b-eq13 : goal.returns-then-b-eq13
returns-then-b-eq13 c =
    let b = c.args.b in
    rw (ne_eqb b 32 c.if-b-eq32.false, ne_eqb b 9 c.if-b-eq9.false, eq-eqb b 13 c.if-b-eq13.true)

pub returns : goal.returns
returns c =
    let b = c.args.b in
    rw (ne_eqb b 32 c.if-b-eq32.false, ne_eqb b 9 c.if-b-eq9.false, ne_eqb b 13 c.if-b-eq13.false)

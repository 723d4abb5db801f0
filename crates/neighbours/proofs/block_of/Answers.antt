use mathlib.Core.Path.{sym, ◌∙◌, ap}
use native.Mathlib.Omega.{arith}
use lib.ListN.{length}
use Rattle.adjacency.specs.Work.{steps_at}
use Rattle.adjacency.proofs.Blocks.{too_few, too_many, too_long, stays}
use Rattle.block.specs.Block.{said_molecule}
use Rattle.std.specs.Prelude.{Err}
use Rattle.neighbours.proofs.block_of.Goals as goal

-- `block_of` meets its contract: 1, 2, then the rest. Assumes nothing.
pub returns-then-n-eq0 : goal.returns-then-n-eq0
returns-then-n-eq0 c =
    let a = c.args in
    let e = too_few a.n (steps_at 0 a.text.now a.at) (length a.out.now) c.if-n-eq0.true in
    record { reply = ap Err c.at.ensures ∙ sym (ap said_molecule e); bytes = stays a.out.now e }

pub returns-then-n-gt-ATOMS : goal.returns-then-n-gt-ATOMS
returns-then-n-gt-ATOMS c =
    let a = c.args in
    let e = too_many a.n (steps_at 0 a.text.now a.at) (length a.out.now) c.if-n-gt-ATOMS.true in
    record { reply = ap Err c.at-then-n-gt-ATOMS.ensures ∙ sym (ap said_molecule e); bytes = stays a.out.now e }

pub returns-then-count : goal.returns-then-count
returns-then-count c =
    let a = c.args in
    let e = too_long a.n (steps_at 0 a.text.now a.at) (length a.out.now) c.if-n-eq0.false c.if-n-gt-ATOMS.false (omega (arith, c.if-count.true, c.requires.1)) in
    record { reply = ap Err c.at-then-count.ensures ∙ sym (ap said_molecule e); bytes = stays a.out.now e }

pub bonds_of-requires : goal.bonds_of-requires
bonds_of-requires c = (c.requires.0, record { low = c.if-n-eq0.false; high = c.if-n-gt-ATOMS.false; short = omega (arith, c.if-count.false, c.requires.1) })

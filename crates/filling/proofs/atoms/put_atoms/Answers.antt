use native.Mathlib.Omega.{arith}
use Rattle.filling.proofs.Putting.{atoms_start, atoms_next, atoms_end}
use Rattle.filling.proofs.atoms.put_atoms.Goals as goal

pub loop-i-init : goal.loop-i-init
loop-i-init c = atoms_start _ _ _

pub loop-i-preserved : goal.loop-i-preserved
loop-i-preserved c =
    atoms_next c.loop-i.invariant c.loop-i-test.true c.put_little.ensures

pub shape_of-out : goal.shape_of-out
shape_of-out c = c.loop-i.invariant.size

pub returns : goal.returns
returns c = atoms_end c.loop-i.invariant (omega (arith, c.loop-i-test.false))

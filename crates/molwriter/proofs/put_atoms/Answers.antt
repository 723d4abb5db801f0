use Prim.Native.Nat.{◌-◌}
use mathlib.Core.Path.{◌≡◌, refl, ap}
use Rattle.molwriter.specs.Pieces.{atoms_text}
use Rattle.text.proofs.Putting.{none, both, as_word}
use Rattle.molwriter.proofs.Pieces.{atoms_none, atoms_more}
use borrow.Author.Rules.{rules}
use native.Mathlib.Omega.{arith}
use Rattle.molwriter.proofs.put_atoms.Goals as goal

pub loop-init : goal.loop-init
loop-init c =
    (omega arith, refl, as_word atoms_none none)

pub loop-preserved : goal.loop-preserved
loop-preserved c =
    let l = c.loop in
    (omega arith, search rules, as_word (atoms_more l.counter) (both l.invariant.2 c.put-next.ensures))

pub shape_of-out : goal.shape_of-out
shape_of-out c = c.loop.invariant.1

pub returns : goal.returns
returns c =
    let l = c.loop in
    let e : l.counter ≡ c.args.n = omega arith in
    as_word (ap atoms_text e) l.invariant.2

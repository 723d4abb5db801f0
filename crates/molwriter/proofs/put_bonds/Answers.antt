use Prim.Native.Nat.{◌+◌, ◌-◌, ◌*◌}
use mathlib.Core.List.{[], ◌∷◌, ◌++◌}
use mathlib.Core.Path.{refl, ap}
use lib.ListN.{get_or}
use Rattle.graph.specs.Graph.{bond}
use Rattle.molwriter.specs.Pieces.{bonds_text}
use Rattle.text.proofs.Putting.{none, both, as_word}
use Rattle.molwriter.proofs.Pieces.{bonds_none, bonds_more, done_more, all_done}
use borrow.Author.Rules.{rules}
use native.Mathlib.Omega.{arith}
use Rattle.molwriter.proofs.put_bonds.Goals as goal

pub loop-k-init : goal.loop-k-init
loop-k-init c =
    (omega arith, refl, refl, ([], as_word bonds_none none, refl))

pub loop-k-preserved : goal.loop-k-preserved
loop-k-preserved c =
    let l = c.loop-k in
    let xs = c.args.bonds.now in
    let b = bond (get_or xs (2 * l.k) 0) (get_or xs (2 * l.k + 1) 0) in
    let done = l.invariant.3.0 in
    (omega arith, l.invariant.1, search rules, (done ++ (b ∷ []), as_word (bonds_more done b) (both l.invariant.3.1 c.put_bond-next.ensures), done_more xs l.k done (omega (arith, l.invariant.1)) l.invariant.3.2))

pub shape_of-out : goal.shape_of-out
shape_of-out c = c.loop-k.invariant.2

pub returns : goal.returns
returns c =
    let l = c.loop-k in
    as_word (ap bonds_text (all_done c.args.bonds.now l.k l.invariant.3.0 (omega (arith, l.invariant.1)) l.invariant.3.2)) l.invariant.3.1

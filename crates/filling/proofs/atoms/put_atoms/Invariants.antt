use Rattle.filling.proofs.Putting.{AtomsPut}
use Rattle.filling.proofs.atoms.put_atoms.Given as goal

-- `put_atoms` meets its contract. The loop's invariant: what is left to put makes of the bytes what all of it makes of the first ones.
abbrev pub invariant-loop-i : goal.invariant-loop-i
invariant-loop-i l = AtomsPut l.near l.n l.initial.out l.out l.i

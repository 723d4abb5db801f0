use Prim.Native.Nat.{◌-◌, ◌≤◌}
use Rattle.molfile.specs.Work.{bond_by, kept_by}
use Rattle.text.specs.Put.{Puts}
use Rattle.molfile.proofs.dropping.keep.Given as goal

-- `keep` meets its contract. The loop's invariant: the numbers of the first k bonds that are kept are put.
abbrev pub invariant-loop-k : goal.invariant-loop-k
invariant-loop-k l = (l.k ≤ l.m) × Puts l.initial.out 0 (kept_by l.numbers (bond_by l.ones l.twos) l.k) l.out l.j

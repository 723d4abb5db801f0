use Prim.Native.Nat.{◌≤◌, min}
use mathlib.Core.Bool.{false}
use mathlib.Core.Path.{◌≡◌}
use lib.ListN.{length}
use Rattle.reply.specs.Read.{is_outside}
use Rattle.half.specs.Half.{most_atoms, all_pairs}
use Rattle.half.proofs.Lines.{Storing}
use Rattle.half.proofs.put_row.Given as goal

abbrev pub invariant-loop-j : goal.invariant-loop-j
invariant-loop-j l = Storing l.initial.half l.line l.i l.m l.half l.p l.j × (is_outside most_atoms l.i ≡ false) × (all_pairs ≤ length l.initial.half) × (l.m ≡ min l.n most_atoms)

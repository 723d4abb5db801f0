use Rattle.half.proofs.Lines.{Down}
use Rattle.half.proofs.column.Given as goal

abbrev pub invariant-loop-j : goal.invariant-loop-j
invariant-loop-j l = Down l.half l.i l.line l.p l.j

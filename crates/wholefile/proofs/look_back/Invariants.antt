use Prim.Native.Nat.{◌-◌, ◌≤◌}
use Rattle.wholefile.proofs.Looking.{LookedBack}
use Rattle.wholefile.proofs.look_back.Given as goal

-- `wholefile::look_back` meets its contract. The loop's invariant: what the first i bonds say.
abbrev pub invariant-loop-i : goal.invariant-loop-i
invariant-loop-i l = (l.i ≤ l.k) × LookedBack l.xs l.a l.b l.i l.joined l.one l.two

use Prim.Native.Nat.{◌≤◌}
use mathlib.Core.Path.{sym, ◌∙◌, ap}
use native.Mathlib.Omega.{arith}
use lib.ListN.{length}
use Rattle.text.proofs.Putting.{at_front}
use Rattle.adjacency.specs.Writing.{given_short, given_all, text_stays, text_put}
use Rattle.std.specs.Prelude.{Err}
use Rattle.neighbours.specs.Said.{said_neighbours_written}
use Rattle.neighbours.proofs.given.Goals as goal

-- `given` meets its contract. Assumes nothing.
pub returns-then-out-bytes : goal.returns-then-out-bytes
returns-then-out-bytes c =
    let a = c.args in
    let e = given_short a.bytes.now (length a.out.now) (omega (arith, c.if-out-bytes.true)) in
    record { reply = ap Err c.at.ensures ∙ sym (ap said_neighbours_written e); bytes = text_stays a.out.now e }

pub returns : goal.returns
returns c =
    let a = c.args in
    let h : length a.bytes.now ≤ length a.out.now = omega (arith, c.if-out-bytes.false) in
    let e = given_all a.bytes.now (length a.out.now) h in
    record { reply = sym (ap said_neighbours_written e); bytes = text_put a.out.now e (at_front c.put.ensures h).1 }

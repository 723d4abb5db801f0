use Prim.Native.Nat.{◌-◌}
use mathlib.Core.Path.{◌≡◌, refl, sym, ap, ◌∙◌}
use Rattle.text.specs.Text.{later_line, next_line}
use Rattle.text.specs.Laws.{said_next, later_more}
use Rattle.molfile.specs.Molfile.{in_turn, line_reply, header_reply, counts_place}
use Rattle.molfile.specs.Work.{said_walk}
use Rattle.molfile.proofs.Turns.{line_refused, line_read, turn_more, turn_stops}
use native.Mathlib.Omega.{arith}
use Rattle.molfile.proofs.header.Goals as goal
use Rattle.std.specs.Prelude.{Ok}
use Rattle.std.proofs.lemmas.Result.{err_from_is_err_and}

pub loop-init : goal.loop-init
unfolding later_line in_turn
loop-init c = (omega arith, refl, refl)

pub returns-in_err-l : goal.returns-in_err-l
returns-in_err-l c =
    let l = c.loop in
    let d = c.args.d.now in
    let e = line_refused d l.at (line_reply 0 d l.at) (sym c.in_err-l.ensures) in
    let p = err_from_is_err_and c.from_residual.result c.from_residual.ensures.1 in
    rw (p.1, p.2) (sym (ap (said_walk (counts_place d)) (turn_stops (header_reply d) 3 l.counter _ (omega arith) l.invariant.2 (rw l.invariant.1 at e))))

pub loop-preserved : goal.loop-preserved
loop-preserved c =
    let l = c.loop in
    let d = c.args.d.now in
    let e = line_read d l.at (line_reply 0 d l.at) (sym c.in_ok-l.ensures) in
    (omega arith, said_next d l.at (sym e.1) ∙ ap (next_line d) l.invariant.1 ∙ sym (later_more d 0 l.counter), turn_more (header_reply d) l.counter l.invariant.2 (rw l.invariant.1 at e.0))

pub returns : goal.returns
returns c =
    let l = c.loop in
    let d = c.args.d.now in
    let e : l.counter ≡ 3 = omega arith in
    let t = rw e at l.invariant.2 in
    ap Ok (rw e at l.invariant.1) ∙ sym (ap (said_walk (counts_place d)) t)

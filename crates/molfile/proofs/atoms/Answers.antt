use Prim.Native.Nat.{ℕ, ◌-◌}
use mathlib.Core.Path.{◌≡◌, refl, sym, ap, ◌∙◌}
use lib.ListN.{length-set}
use Rattle.reply.specs.Read.{read}
use Rattle.reply.specs.Chain.{not_read}
use Rattle.text.specs.Text.{next_line}
use Rattle.text.specs.Said.{line_at}
use Rattle.text.specs.Laws.{said_next, said_chars}
use Rattle.molfile.specs.Molfile.{atom_line_place, hydrogen_at, line_reply, atom_reply}
use Rattle.molfile.specs.Work.{mark_of, said_walk}
use Rattle.molfile.proofs.Turns.{line_refused, line_read, turn_none, turn_more, turn_stops}
use Rattle.molfile.proofs.Lines.{line_there}
use Rattle.molfile.proofs.Filling.{holds_none, holds_more, atom_next}
use native.Mathlib.Omega.{arith}
use Rattle.molfile.proofs.atoms.Goals as goal
use Rattle.molfile.proofs.atoms.Invariants.{mark}
use Rattle.molfile.proofs.atoms.Goals.{In_ok-l}
use Rattle.std.specs.Prelude.{Ok}
use Rattle.std.proofs.lemmas.Result.{err_from_is_err_and}

-- the line is there
there : (c : In_ok-l) → let l = c.loop-i in let d = c.args.d.now in
    (line_reply 32 d l.at ≡ read tt) × (line_at d l.at ≡ c.in_ok-l.l)
there c = let l = c.loop-i in let d = c.args.d.now in
    line_read d l.at (line_reply 32 d l.at) (sym c.in_ok-l.ensures)

pub loop-i-init : goal.loop-i-init
loop-i-init c =
    let a = c.args in
    (omega arith, c.requires.0, turn_none (atom_reply a.d.now), refl, holds_none (mark a.d.now) a.marks.now)

pub returns-in_err-l : goal.returns-in_err-l
returns-in_err-l c =
    let l = c.loop-i in
    let a = c.args in
    let d = a.d.now in
    let e = line_refused d l.at (line_reply 32 d l.at) (sym c.in_err-l.ensures) in
    let t = turn_stops (atom_reply d) a.n l.i _ (omega arith) l.invariant.2 (rw l.invariant.1 at e) in
    let p = err_from_is_err_and c.from_residual.result c.from_residual.ensures.1 in
    rw (p.1, p.2) (record { reply = sym (ap (said_walk (atom_line_place d a.n)) t); marks = λ z. absurd (not_read (sym t ∙ z)); same = l.invariant.3 })

pub mark-requires : goal.mark-requires
mark-requires c =
    let l = c.loop-i in
    let d = c.args.d.now in
    let e = said_chars d l.at (sym (there (goal.at.mark-requires c).In_ok-l).1) in
    (e, omega (arith, line_there 32 d l.at (there (goal.at.mark-requires c).In_ok-l).0))

pub bounds-marks-i : goal.bounds-marks-i
bounds-marks-i c =
    let l = c.loop-i in
    omega (arith, l.invariant.3)

pub loop-i-preserved : goal.loop-i-preserved
loop-i-preserved c =
    let l = c.loop-i in
    let d = c.args.d.now in
    let t = there (goal.at.loop-i-preserved c).In_ok-l in (
      omega arith,
      said_next d l.at (sym t.1) ∙ ap (next_line d) l.invariant.1 ∙ sym (atom_next d l.i),
      turn_more (atom_reply d) l.i l.invariant.2 (rw l.invariant.1 at t.0),
      length-set l.marks l.i c.mark.result ∙ l.invariant.3,
      holds_more (mark d) l.marks l.i c.mark.result (omega (arith, l.invariant.3)) l.invariant.4 (c.mark.ensures ∙ ap (λ (p : ℕ). mark_of (hydrogen_at d p)) l.invariant.1),
    )

pub shape_of-marks : goal.shape_of-marks
shape_of-marks c = c.loop-i.invariant.3

pub returns : goal.returns
returns c =
    let l = c.loop-i in
    let a = c.args in
    let d = a.d.now in
    let e : l.i ≡ a.n = omega arith in
    let t = rw e at l.invariant.2 in
    record { reply = ap Ok (rw e at l.invariant.1) ∙ sym (ap (said_walk (atom_line_place d a.n)) t); marks = λ z. record { at = λ i h. l.invariant.4 i (omega arith) }; same = l.invariant.3 }

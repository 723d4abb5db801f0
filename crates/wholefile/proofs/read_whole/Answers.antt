use Prim.Native.Nat.{◌*◌}
use mathlib.Core.Path.{refl, sym, ◌∙◌}
use lib.ListN.{replicate}
use lib.Seq.{take_all}
use Rattle.molfile.specs.Molfile.{bytes_of}
use Rattle.molfile.specs.Work.{most}
use Rattle.molfile.proofs.Fronts.{Front, front, bytes_room, reads_refused, reads_kept, alike}
use Rattle.wholefile.specs.Whole.{molecule_reply}
use Rattle.wholefile.proofs.read_whole.Goals as goal
use Rattle.wholefile.proofs.read_whole.Goals.{In_ok-k}
use Rattle.std.proofs.lemmas.Result.{err_from_is_err_and}

-- what was kept stands at the front
kept-front : (c : In_ok-k) → Front c.args.text.now c.kept_bonds.new.out (2 * most) c.in_ok-k.k
kept-front c =
    front _ (replicate (2 * most) 0) refl (sym c.in_ok-k.ensures.reply) c.in_ok-k.ensures.numbers

pub slice_bounds-pairs-end : goal.slice_bounds-pairs-end
slice_bounds-pairs-end c = (kept-front (goal.at.slice_bounds-pairs-end c).In_ok-k).few.1

pub slice_bounds-answer-end : goal.slice_bounds-answer-end
slice_bounds-answer-end c = sym (kept-front (goal.at.slice_bounds-answer-end c).In_ok-k).taken

pub returns-in_err-k : goal.returns-in_err-k
returns-in_err-k c = let w = let a = c.args in
    reads_refused molecule_reply a.text.now a.out.now (2 * most) (sym c.in_err-k.ensures.reply) in
    let p = err_from_is_err_and c.from_residual.result c.from_residual.ensures.1 in
    record { reply = rw (p.1, p.2) w.0; numbers = w.1 }

pub returns : goal.returns
returns c = let w = let F = kept-front (goal.at.returns c).In_ok-k in
    let a = c.args in
    let d = a.text.now in
    let e = F.numbers_are ∙ take_all (2 * most) (bytes_of d) (bytes_room d F.fine) in
    reads_kept molecule_reply d a.out.now F.fine (alike molecule_reply a.out.now F.atoms_are e (c.answer.ensures.reply, c.answer.ensures.numbers)) in record { reply = w.0; numbers = w.1 }

use Prim.Native.Nat.{ℕ}
use mathlib.Core.Bool.{true}
use mathlib.Core.Path.{◌≡◌, sym, ap, ◌∙◌}
use lib.ListN.{drop}
use Rattle.reply.specs.Read.{read}
use Rattle.reply.specs.Chain.{not_read}
use Rattle.text.specs.Text.{line_starts}
use Rattle.molfile.specs.Molfile.{bond_line_place, bond_line_count, rest_place, end_word, in_turn, bond_reply_of}
use Rattle.molfile.specs.Work.{said_walk}
use Rattle.molfile.proofs.Turns.{walked, stopped}
use Rattle.molfile.proofs.Chains.{ends_learnt, rest_no_bond, rest_ended, rest_no_end}
use Rattle.molfile.proofs.rest.Goals as goal
use Rattle.molfile.proofs.rest.Goals.{In_ok-at}
use Rattle.std.specs.Prelude.{Ok, Err}
use Rattle.std.proofs.lemmas.Result.{err_from_is_err_and}

-- the bonds are there, and end at a place
there : (c : In_ok-at) → let d = c.args.d.now in (in_turn (bond_line_count d) (bond_reply_of d) ≡ read tt) × (rest_place d ≡ c.in_ok-at.at)
there c = let d = c.args.d.now in
    walked (bond_reply_of d) (bond_line_place d) c.args.m (bond_line_count d) c.requires.5 (sym c.in_ok-at.ensures.reply)

pub returns-then-line_starts : goal.returns-then-line_starts
returns-then-line_starts c =
    let d = c.args.d.now in
    let B = c.in_ok-at.ensures in
    let t = there (goal.at.returns-then-line_starts c).In_ok-at in
    let f = ap (λ (p : ℕ). line_starts end_word true (drop p d)) t.1 ∙ sym c.line_starts.ensures ∙ c.if-line_starts.true in
    record { reply = ap Ok (sym t.1) ∙ sym (ap (said_walk (rest_place d)) (rest_ended d t.0 f)); ends = λ z. ends_learnt d c.requires.5 B.ends t.0; same_one = B.same_one; same_two = B.same_two }

pub returns-in_err-at : goal.returns-in_err-at
returns-in_err-at c =
    let d = c.args.d.now in
    let B = c.in_err-at.ensures in
    let e = stopped (bond_reply_of d) (bond_line_place d) c.args.m (bond_line_count d) c.requires.5 (sym B.reply) in
    let f = rest_no_bond d _ e in
    let p = err_from_is_err_and c.from_residual.result c.from_residual.ensures.1 in
    rw (p.1, p.2) (record { reply = sym (ap (said_walk (rest_place d)) f); ends = λ z. absurd (not_read (sym f ∙ z)); same_one = B.same_one; same_two = B.same_two })

pub returns : goal.returns
returns c =
    let d = c.args.d.now in
    let B = c.in_ok-at.ensures in
    let t = there (goal.at.returns c).In_ok-at in
    let f = ap (λ (p : ℕ). line_starts end_word true (drop p d)) t.1 ∙ sym c.line_starts.ensures ∙ c.if-line_starts.false in
    let g = rest_no_end d t.0 f in
    record { reply = ap Err c.at.ensures ∙ sym (ap (said_walk (rest_place d)) g); ends = λ z. absurd (not_read (sym g ∙ z)); same_one = B.same_one; same_two = B.same_two }

use mathlib.Core.Path.{◌≡◌, refl, sym, ap, ◌∙◌}
use Rattle.reply.specs.Read.{read}
use Rattle.reply.specs.Chain.{not_read}
use Rattle.text.specs.Laws.{later_more}
use Rattle.molfile.specs.Molfile.{atom_line_place, atom_line_count, bond_line_count, rest_place, in_turn, atom_reply}
use Rattle.molfile.specs.Work.{said_walk}
use Rattle.molfile.specs.declared.Numbers.{Numbers}
use Rattle.molfile.proofs.Turns.{walked, stopped}
use Rattle.molfile.proofs.Filling.{bonds_begin}
use Rattle.molfile.proofs.Chains.{marks_learnt, lists_no_atom, lists_go_on}
use Rattle.molfile.proofs.lists.Goals as goal
use Rattle.molfile.proofs.lists.Goals.{In_ok-at, Start}
use Rattle.std.proofs.lemmas.Result.{err_from_is_err_and}

-- the counts
atoms_are : (s : Start) → s.args.x.one ≡ atom_line_count s.args.d.now
atoms_are s = ap (λ (x : Numbers). x.one) s.requires.0

atoms_are-in-In_ok-at : (s : In_ok-at) → s.args.x.one ≡ atom_line_count s.args.d.now
atoms_are-in-In_ok-at s = ap (λ (x : Numbers). x.one) s.requires.0

bonds-are : (s : Start) → s.args.x.two ≡ bond_line_count s.args.d.now
bonds-are s = ap (λ (x : Numbers). x.two) s.requires.0

-- the atoms are there, and end at a place
there : (c : In_ok-at) → let d = c.args.d.now in (in_turn (atom_line_count d) (atom_reply d) ≡ read tt) × (atom_line_place d (atom_line_count d) ≡ c.in_ok-at.at)
there c = let d = c.args.d.now in
    walked (atom_reply d) (atom_line_place d) c.args.x.one (atom_line_count d) (atoms_are-in-In_ok-at c) (sym c.in_ok-at.ensures.reply)

pub atoms-requires : goal.atoms-requires
atoms-requires c =
    let d = c.args.d.now in
    (ap (λ (x : Numbers). x.next) c.requires.0 ∙ sym (later_more d 0 3), c.requires.1)

pub rest-requires : goal.rest-requires
rest-requires c =
    (sym (bonds_begin c.args.d.now ∙ (there (goal.at.rest-requires c).In_ok-at).1), atoms_are (goal.at.rest-requires c).Start, c.requires.2, c.requires.3, c.requires.4, bonds-are (goal.at.rest-requires c).Start)

pub returns-in_err-at : goal.returns-in_err-at
returns-in_err-at c =
    let d = c.args.d.now in
    let A = c.in_err-at.ensures in
    let e = stopped (atom_reply d) (atom_line_place d) c.args.x.one (atom_line_count d) (atoms_are (goal.at.returns-in_err-at c).Start) (sym A.reply) in
    let f = lists_no_atom d _ e in
    let p = err_from_is_err_and c.from_residual.result c.from_residual.ensures.1 in
    rw (p.1, p.2) (record { reply = sym (ap (said_walk (rest_place d)) f); marks_are = λ z. absurd (not_read (sym f ∙ z)); ends_are = λ z. absurd (not_read (sym f ∙ z)); same_marks = A.same; same_one = refl; same_two = refl })

pub returns : goal.returns
returns c =
    let d = c.args.d.now in
    let A = c.in_ok-at.ensures in
    let R = c.rest.ensures in
    let t = there (goal.at.returns c).In_ok-at in
    let e = lists_go_on d t.0 in
    record { reply = R.reply ∙ sym (ap (said_walk (rest_place d)) e); marks_are = λ z. marks_learnt d (atoms_are (goal.at.returns c).Start) A.marks t.0; ends_are = λ z. R.ends (sym e ∙ z); same_marks = A.same; same_one = R.same_one; same_two = R.same_two }

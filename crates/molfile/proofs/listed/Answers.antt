use Prim.Native.Nat.{◌≤◌}
use mathlib.Core.Path.{◌≡◌, sym, ap, ◌∙◌}
use Rattle.reply.specs.Read.{read}
use Rattle.molfile.specs.Molfile.{atom_line_count, bond_line_count, bond_of_line, hydrogen_in}
use Rattle.molfile.specs.Work.{most, lists_reply}
use Rattle.molfile.specs.declared.Numbers.{Numbers}
use Rattle.molfile.proofs.Chains.{lines_go_on, counts_few}
use Rattle.molfile.proofs.Replies.{refused-kept, of_kept}
use Rattle.molfile.proofs.Files.{given_is, inside_is, keeps_at}
use native.Mathlib.Omega.{arith}
use Rattle.molfile.proofs.Turns.{walk-read, walk_refused}
use Rattle.molfile.proofs.listed.Goals as goal
use Rattle.molfile.proofs.listed.Goals.{In_ok-lists, Start}
use Rattle.std.proofs.lemmas.Result.{err_from_is_err_and}

-- the counts
atoms_are : (s : Start) → (s.args.x.one ≡ atom_line_count s.args.text.now) × (s.args.x.one ≤ most)
atoms_are s = let e = ap (λ (x : Numbers). x.one) s.requires.0 in (e, omega (arith, (counts_few s.args.text.now s.requires.1).0))

bonds-are : (s : Start) → (s.args.x.two ≡ bond_line_count s.args.text.now) × (s.args.x.two ≤ most)
bonds-are s = let e = ap (λ (x : Numbers). x.two) s.requires.0 in (e, omega (arith, (counts_few s.args.text.now s.requires.1).1))

fine : (c : In_ok-lists) → lists_reply c.args.text.now ≡ read tt
fine c = (walk-read _ _ (sym c.in_ok-lists.ensures.reply)).0

pub lists-requires : goal.lists-requires
lists-requires c =
    let n = (atoms_are (goal.at.lists-requires c).Start).1 in
    let m = (bonds-are (goal.at.lists-requires c).Start).1 in
    (c.requires.0, n, n, m, m)

pub kept-k-requires : goal.kept-k-requires
kept-k-requires c =
    let L = c.in_ok-lists.ensures in
    ((atoms_are (goal.at.kept-k-requires c).Start).1, (bonds-are (goal.at.kept-k-requires c).Start).1, inside_is c.args.text.now _ _ _ (fine (goal.at.kept-k-requires c).In_ok-lists) (L.marks_are (fine (goal.at.kept-k-requires c).In_ok-lists)) (L.ends_are (fine (goal.at.kept-k-requires c).In_ok-lists)) (atoms_are (goal.at.kept-k-requires c).Start).0 (bonds-are (goal.at.kept-k-requires c).Start).0)

pub returns-in_err-lists : goal.returns-in_err-lists
returns-in_err-lists c =
    let d = c.args.text.now in
    let w = refused-kept d c.args.out.now (lines_go_on d c.requires.1 ∙ walk_refused _ _ (sym c.in_err-lists.ensures.reply)) in
    let p = err_from_is_err_and c.from_residual.result c.from_residual.ensures.1 in
    record { reply = rw (p.1, p.2) w.0; numbers = w.1 }

pub returns : goal.returns
returns c = let w = let d = c.args.text.now in
    let L = c.in_ok-lists.ensures in
    let M = given_is d _ _ _ (fine (goal.at.returns c).In_ok-lists) (L.marks_are (fine (goal.at.returns c).In_ok-lists)) (L.ends_are (fine (goal.at.returns c).In_ok-lists)) in
    of_kept d (lines_go_on d c.requires.1 ∙ fine (goal.at.returns c).In_ok-lists) (keeps_at (hydrogen_in d) (bond_of_line d) (atoms_are (goal.at.returns c).Start).0 (bonds-are (goal.at.returns c).Start).0 c.kept-k.ensures M) in record { reply = w.0; numbers = w.1 }

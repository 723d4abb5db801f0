use Prim.Native.Nat.{ℕ, ◌+◌, ◌*◌, ◌/◌, ◌≤◌, ◌<◌}
use mathlib.Core.List.{◌++◌}
use mathlib.Core.Path.{◌≡◌, sym, ap, ◌∙◌}
use lib.ListN.{length}
use Rattle.block.specs.Block.{most_atoms, most_bytes, bonds_of}
use Rattle.block.specs.Numbered.{few_bytes}
use Rattle.block.specs.Told.{few_atoms}
use Rattle.text.specs.Text.{ascii}
use Rattle.molwriter.specs.Written.{molfile_text}
use Rattle.molwriter.specs.Pieces.{counts_text, pieces}
use Rattle.molwriter.specs.Listing.{text_pieces}
use Rattle.molwriter.specs.Length.{half_length, pieces-length}
use Rattle.text.proofs.Putting.{both, as_word, at_front}
use Rattle.molwriter.specs.Replies.{write_short, write_fine, stays, fills}
use native.Mathlib.Omega.{arith}
use Rattle.molwriter.proofs.written.Goals as goal
use Rattle.molwriter.proofs.written.Goals.{Start}
use Rattle.reply.specs.Read.{as_result}
use Rattle.std.specs.Prelude.{Ok, Err}

-- `molwriter::written` meets its contract: the parts of the text one after the other.
few : (s : Start) → (s.args.n ≤ most_atoms) × (length s.args.bonds.now ≤ most_bytes)
few s = ((few_atoms s.args.n s.args.bonds.now s.requires).high, few_bytes s.args.n s.args.bonds.now s.requires)

long : (s : Start) → length (molfile_text s.args.n (bonds_of s.args.bonds.now)) ≡ 50 + 70 * s.args.n + 22 * (length s.args.bonds.now / 2)
long s =
    let n = s.args.n in
    let bs = bonds_of s.args.bonds.now in
    ap length (sym (text_pieces n bs)) ∙ omega (arith, pieces-length n bs, half_length s.args.bonds.now)

-- the test says what the text takes, with nothing else for omega to weigh
room : (n m : ℕ) {k t : ℕ} → t ≡ 50 + 70 * n + 22 * m → 50 + 70 * n + 22 * m ≤ k → t ≤ k
room n m e l = omega arith

no_room : (n m : ℕ) {k t : ℕ} → t ≡ 50 + 70 * n + 22 * m → k < 50 + 70 * n + 22 * m → k < t
no_room n m e l = omega arith

pub overflow_mul-n : goal.overflow_mul-n
overflow_mul-n c = let f = few (goal.at.overflow_mul-n c).Start in omega arith

pub overflow_add-n : goal.overflow_add-n
overflow_add-n c = let f = few (goal.at.overflow_add-n c).Start in omega arith

pub overflow_mul-m : goal.overflow_mul-m
overflow_mul-m c = let f = few (goal.at.overflow_mul-m c).Start in omega arith

pub overflow_add-n-2 : goal.overflow_add-n-2
overflow_add-n-2 c = let f = few (goal.at.overflow_add-n-2 c).Start in omega arith

pub returns-then-out-n : goal.returns-then-out-n
returns-then-out-n c =
    let a = c.args in
    let e = write_short a.n a.bonds.now (length a.out.now) c.requires (no_room a.n (length a.bonds.now / 2) (long (goal.at.returns-then-out-n c).Start) c.if-out-n.true) in
    record { reply = ap Err c.at.ensures ∙ sym (ap as_result e); bytes = sym (stays (molfile_text a.n (bonds_of a.bonds.now)) a.out.now e) }

pub returns : goal.returns
unfolding pieces
returns c =
    let a = c.args in
    let n = a.n in
    let xs = a.bonds.now in
    let l : length (molfile_text n (bonds_of xs)) ≤ length a.out.now = room n (length xs / 2) (long (goal.at.returns c).Start) c.if-out-n.false in
    let first = as_word (ap (λ (m : ℕ). ascii "\n\n\n" ++ counts_text n m) (sym (half_length xs))) c.put_counts-a.ensures in
    let F = at_front (as_word (text_pieces n (bonds_of xs)) (both (both (both first c.put_atoms-b.ensures) c.put_bonds-c.ensures) c.put-end.ensures)) l in
    let e = write_fine n xs (length a.out.now) c.requires l in
    record { reply = ap Ok F.0 ∙ sym (ap as_result e); bytes = F.1 ∙ sym (fills (molfile_text n (bonds_of xs)) a.out.now e) }

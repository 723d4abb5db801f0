use Prim.Native.Nat.{◌≤◌}
use mathlib.Core.Path.{◌≡◌, sym, ◌∙◌, ap}
use native.Mathlib.Omega.{arith}
use lib.ListN.{length}
use Rattle.std.specs.Prelude.{ℕ, Ok, Err, Some}
use Rattle.std.proofs.lemmas.Result.{err_from_is_err_and}
use Rattle.reply.specs.Read.{read}
use Rattle.sheets.specs.Sheets.{sheet_bytes}
use Rattle.catalogue.specs.Library.{Library, library_reply}
use Rattle.catalogue.specs.Products.{products}
use Rattle.catalogue.specs.Said.{said_library}
use Rattle.catalogue.specs.declared.LibraryRead.{LibraryRead}
use Rattle.catalogue.proofs.Reading.{library_stops, library_ends}
use Rattle.library.specs.Steps.{Ran, said_step}
use Rattle.library.specs.Running.{step_long, step_short, step_product, product_stops, run_stops, run_ends, made_step, done_step}
use Rattle.library.proofs.run.Goals as goal
use Rattle.library.proofs.run.Goals.{In_ok-l}

-- `library::run` meets its contract. Assumes nothing.
-- the library that is read, and the room for a sheet
library : (c : In_ok-l) → let d = c.args.d.now in (l : Library) × (library_reply d ≡ read l) × (c.read_library-l.result ≡ said_library (read l))
library c = let r = c.read_library-l in library_ends _ r.result r.ensures.reply c.in_ok-l.was

room : (c : In_ok-l) → let a = c.args in sheet_bytes a.sheet ≤ length a.out.now
room c = omega (arith, c.if-out-bytes_of.false, c.bytes_of.ensures)

pub returns-then-d-gt-LONGEST : goal.returns-then-d-gt-LONGEST
returns-then-d-gt-LONGEST c =
    let a = c.args in
    let e = step_long a.sheet a.d.now a.position (length a.out.now) c.if-d-gt-LONGEST.true in
    record { reply = ap Err c.at.ensures ∙ sym (ap (said_step _) e); bytes = sym (ap (λ (x : Ran). x.out) (run_stops a.sheet a.d.now a.position a.out.now _ _ e)) }

pub returns-then-out-bytes_of : goal.returns-then-out-bytes_of
returns-then-out-bytes_of c =
    let a = c.args in
    let e = step_short a.sheet a.d.now a.position (length a.out.now) c.if-d-gt-LONGEST.false (omega (arith, c.if-out-bytes_of.true, c.bytes_of.ensures)) in
    record { reply = ap Err c.at-then-out-bytes_of.ensures ∙ sym (ap (said_step _) e); bytes = sym (ap (λ (x : Ran). x.out) (run_stops a.sheet a.d.now a.position a.out.now _ _ e)) }

pub returns-then-l-position : goal.returns-then-l-position
returns-then-l-position c = let a = c.args in let (l, r, f) = library (goal.at.returns-then-l-position c).In_ok-l in
    let e = done_step a.sheet a.d.now l r a.position (length a.out.now) (omega (arith, ap (λ (x : LibraryRead). x.products) f, c.if-l-position.true)) (room (goal.at.returns-then-l-position c).In_ok-l) in
    record { reply = sym (ap (said_step _) e); bytes = sym (ap (λ (x : Ran). x.out) (run_ends a.sheet a.d.now a.position a.out.now _ e)) }

pub run_read-next-requires : goal.run_read-next-requires
run_read-next-requires c = library (goal.at.run_read-next-requires c).In_ok-l

pub returns-in_err-l : goal.returns-in_err-l
returns-in_err-l c =
    let a = c.args in
    let r = c.read_library-l in
    let p = err_from_is_err_and c.from_residual.result c.from_residual.ensures.1 in
    let e = step_product a.sheet a.d.now a.position (length a.out.now) c.if-d-gt-LONGEST.false (omega (arith, c.if-out-bytes_of.false, c.bytes_of.ensures))
    ∙ product_stops a.d.now a.position _ (library_stops _ r.result _ r.ensures.reply c.in_err-l.was) in
    record { reply = rw (p.1, p.2) (sym (ap (said_step _) e)); bytes = sym (ap (λ (x : Ran). x.out) (run_stops a.sheet a.d.now a.position a.out.now _ _ e)) }

pub returns : goal.returns
returns c =
    let a = c.args in
    let (l, r, f) = library (goal.at.returns c).In_ok-l in
    let e = made_step a.sheet a.d.now l r a.position (length a.out.now) (omega (arith, ap (λ (x : LibraryRead). x.products) f, c.if-l-position.false)) (room (goal.at.returns c).In_ok-l) in
    record { reply = ap (λ (p : ℕ). Ok (Some p)) c.run_read-next.ensures.next ∙ sym (ap (said_step _) e); bytes = c.run_read-next.ensures.bytes }

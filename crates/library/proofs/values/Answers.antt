use Prim.Native.Nat.{◌-◌, min}
use mathlib.Core.Path.{◌≡◌, sym, ◌∙◌, ap}
use native.Mathlib.Omega.{arith}
use lib.ListN.{length}
use Rattle.std.specs.Prelude.{Err}
use Rattle.std.proofs.lemmas.Result.{err_from_is_err_and}
use Rattle.reply.specs.Read.{read}
use Rattle.block.specs.Faults.{inside}
use Rattle.catalogue.specs.Library.{Library, library_reply}
use Rattle.catalogue.specs.Products.{products}
use Rattle.catalogue.specs.Said.{said_library}
use Rattle.catalogue.specs.declared.LibraryRead.{LibraryRead}
use Rattle.catalogue.proofs.Reading.{library_stops, library_ends}
use Rattle.library.proofs.Filling.{values_refused, values_no_field, values_filled}
use Rattle.library.proofs.values.Goals as goal
use Rattle.library.proofs.values.Goals.{After-count_from-count, In_ok-l}

-- `library::values` meets its contract. Assumes nothing.
-- the library that is read
abbrev library : (c : In_ok-l) → let d = c.args.d.now in (l : Library) × (library_reply d ≡ read l) × (c.read_library-l.result ≡ said_library (read l))
library c = let r = c.read_library-l in library_ends _ r.result r.ensures.reply c.in_ok-l.was

abbrev library-in-After-count_from-count : (c : After-count_from-count) → let d = c.args.d.now in (l : Library) × (library_reply d ≡ read l) × (c.read_library-l.result ≡ said_library (read l))
library-in-After-count_from-count c = let r = c.read_library-l in library_ends _ r.result r.ensures.reply c.in_ok-l.was

-- how many values there are
counted : (c : After-count_from-count) → let a = c.args in let l = (library-in-After-count_from-count c).0 in c.count_from-count.result ≡ min (length a.row.now) (products l.sites - a.position)
counted c = let a = c.args in let (l, e, f) = library-in-After-count_from-count c in
    c.count_from-count.ensures ∙ ap (λ (x : LibraryRead). min (length a.row.now) (x.products - a.position)) f

pub returns-then-is_outside : goal.returns-then-is_outside
returns-then-is_outside c =
    let a = c.args in
    let (l, e, f) = library (goal.at.returns-then-is_outside c).In_ok-l in
    let w = values_no_field a.d.now a.field a.position a.row.now l e (sym c.is_outside.ensures ∙ c.if-is_outside.true) in
    record { reply = ap Err c.at.ensures ∙ w.0; numbers = w.1 }

pub values_read-requires : goal.values_read-requires
values_read-requires c = let a = c.args in let (l, e, f) = library (goal.at.values_read-requires c).In_ok-l in let n = counted (goal.at.values_read-requires c).After-count_from-count in
    let w = inside _ _ (sym c.is_outside.ensures ∙ c.if-is_outside.false) in
    record { d_value = (l, e, f, omega (arith, n)); count_in_bounds = (omega (arith, n), w.low, w.high) }

pub returns-in_err-l : goal.returns-in_err-l
returns-in_err-l c =
    let a = c.args in
    let r = c.read_library-l in
    let p = err_from_is_err_and c.from_residual.result c.from_residual.ensures.1 in
    let w = values_refused a.d.now a.field a.position a.row.now _ (library_stops _ r.result _ r.ensures.reply c.in_err-l.was) in
    record { reply = rw (p.1, p.2) w.0; numbers = w.1 }

pub returns : goal.returns
returns c =
    let a = c.args in
    let (l, e, f) = library (goal.at.returns c).In_ok-l in
    let n = counted (goal.at.returns c).After-count_from-count in
    let w = values_filled a.d.now a.field a.position a.row.now l e (sym c.is_outside.ensures ∙ c.if-is_outside.false) _ n _ (c.values_read.ensures l e f (omega (arith, n))) in
    record { reply = w.0; numbers = w.1 }

use Prim.Native.Nat.{◌<◌}
use mathlib.Core.Path.{◌≡◌, ap}
use native.Mathlib.Omega.{arith}
use Rattle.std.proofs.lemmas.Result.{err_from_is_err_and}
use Rattle.reply.specs.Read.{read}
use Rattle.catalogue.specs.Library.{Library, library_reply}
use Rattle.catalogue.specs.Products.{products}
use Rattle.catalogue.specs.Said.{said_library}
use Rattle.catalogue.specs.declared.LibraryRead.{LibraryRead}
use Rattle.catalogue.proofs.Reading.{library_stops, library_ends}
use Rattle.library.proofs.Making.{held_read, first_read, product-refused, product_done, product_made}
use Rattle.library.proofs.product.Goals as goal
use Rattle.library.proofs.product.Goals.{In_ok-l}

-- `library::product` meets its contract. Assumes nothing.
-- the library that is read
library : (c : In_ok-l) → let d = c.args.d.now in let r = c.read_library-l.result in
    (l : Library) × (library_reply d ≡ read l) × (r ≡ said_library (read l))
library c = let r = c.read_library-l in library_ends _ r.result r.ensures.reply c.in_ok-l.was

pub returns-then-l-position : goal.returns-then-l-position
returns-then-l-position c = let a = c.args in let (l, e, f) = library (goal.at.returns-then-l-position c).In_ok-l in product_done a.d.now a.position l e (omega (arith, ap (λ (x : LibraryRead). x.products) f, c.if-l-position.true))

pub fields_at-all-requires : goal.fields_at-all-requires
fields_at-all-requires c =
    let r = c.read_library-l in
    let a = c.args in
    let (l, e, f) = library (goal.at.fields_at-all-requires c).In_ok-l in
    record { held = (l, held_read a.d.now l _ e f, omega (arith, ap (λ (x : LibraryRead). x.products) f, c.if-l-position.false)); first_held = first_read a.d.now l _ e f _ r.ensures.bytes }

pub returns-in_err-l : goal.returns-in_err-l
returns-in_err-l c =
    let r = c.read_library-l in
    let p = err_from_is_err_and c.from_residual.result c.from_residual.ensures.1 in
    rw (p.1, p.2) (product-refused _ _ _ (library_stops _ r.result _ r.ensures.reply c.in_err-l.was))

pub returns : goal.returns
returns c =
    let a = c.args in
    let (l, e, f) = library (goal.at.returns c).In_ok-l in
    let h : a.position < products l.sites = omega (arith, ap (λ (x : LibraryRead). x.products) f, c.if-l-position.false) in
    product_made a.d.now a.position l e h _ (c.fields_at-all.ensures l (held_read a.d.now l _ e f) h)

use Rattle.std.proofs.lemmas.Result.{err_from_is_err_and}
use mathlib.Core.Path.{ap}
use Rattle.catalogue.specs.declared.LibraryRead.{LibraryRead}
use Rattle.catalogue.proofs.Reading.{library_stops, library_ends, count_refused, count_fine}
use Rattle.catalogue.proofs.count.Goals as goal

-- `catalogue::count` meets its contract. Assumes nothing.
pub returns-in_err-l : goal.returns-in_err-l
returns-in_err-l c =
    let r = c.read_library-l in
    let p = err_from_is_err_and c.from_residual.result c.from_residual.ensures.1 in
    rw (p.1, p.2) (count_refused _ _ (library_stops _ r.result _ r.ensures.reply c.in_err-l.was))

pub returns : goal.returns
returns c = let r = c.read_library-l in let (l, e, f) = library_ends _ r.result r.ensures.reply c.in_ok-l.was in count_fine _ l _ e (ap (λ (x : LibraryRead). x.products) f)

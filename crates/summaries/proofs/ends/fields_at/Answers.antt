use mathlib.Core.Path.{◌∙◌, ap}
use Rattle.summary.specs.Layout.{stored_fields}
use Rattle.shelf.specs.Shelf.{summary_at}
use Rattle.summaries.proofs.ends.fields_at.Goals as goal

-- `summaries::ends::fields_at` meets its contract. Assumes nothing.
pub returns : goal.returns
returns c =
    let a = c.args in
    c.fields.ensures ∙ ap stored_fields (c.summary_at.ensures.bytes ∙ ap (summary_at a.book.now) c.place_of.ensures)

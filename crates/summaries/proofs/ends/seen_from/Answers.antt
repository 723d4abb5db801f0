use Prim.Native.Nat.{ℕ, ◌%◌}
use mathlib.Core.List.{List}
use mathlib.Core.Path.{◌∙◌, ap}
use Rattle.summary.specs.Layout.{seen_at}
use Rattle.shelf.specs.Shelf.{summary_at}
use Rattle.summaries.proofs.ends.seen_from.Goals as goal

-- `summaries::ends::seen_from` meets its contract. Assumes nothing.
pub returns : goal.returns
returns c =
    let a = c.args in
    c.seen.ensures ∙ ap (λ (s : List ℕ). seen_at s (a.x % 256)) (c.summary_at.ensures.bytes ∙ ap (summary_at a.book.now) c.place_of.ensures)

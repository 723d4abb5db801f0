use Prim.Native.Nat.{ℕ}
use mathlib.Core.List.{List}
use mathlib.Core.Path.{◌≡◌, ◌∙◌, ap}
use native.Mathlib.Omega.{arith}
use Rattle.sighted.specs.Sighted.{steps_in}
use Rattle.sighted.specs.declared.Seen.{Seen}
use Rattle.summary.specs.Layout.{far_at}
use Rattle.shelf.specs.Shelf.{summary_at, place_of}
use Rattle.summaries.proofs.Small.{far_few}
use Rattle.climb.specs.Far.{far_of}
use Rattle.climb.proofs.inside.Goals as goal

-- `climb::inside` meets its contract. Assumes nothing.
pub returns : goal.returns
returns c =
    let a = c.args in
    let b = a.book.now in
    let e : (c.wide.result ≡ far_of b a.number a.i a.j) =
    c.wide.ensures.0
    ∙ c.steps.ensures
    ∙ ap (λ (s : Seen). steps_in s.row a.j) c.seen-all.ensures
    ∙ ap (λ (s : List ℕ). far_at s a.i a.j) c.summary_at.ensures.bytes
    ∙ ap (λ (x : ℕ). far_at (summary_at b x) a.i a.j) c.place_of.ensures in
    (e, omega (arith, e, far_few (summary_at b (place_of b a.number)) a.i a.j))

use Prim.Native.Nat.{ℕ}
use mathlib.Core.List.{List}
use mathlib.Core.Path.{◌≡◌, sym, ◌∙◌, ap}
use native.Mathlib.Omega.{arith}
use borrow.Author.Rules.{rules}
use lib.ListN.{length}
use lib.Seq.{length-take-le, take_at}
use Rattle.block.specs.Block.{graph_of}
use Rattle.deck.specs.Sound.{whole}
use Rattle.deck.specs.Placed.{deck_of}
use Rattle.matched.specs.Matched.{partners, match_place, answer_at}
use Rattle.matched.specs.Laws.{partners-length}
use Rattle.matched.proofs.answer_placed.Goals as goal

-- `matched::answer_placed` meets its contract. Assumes nothing.
pub slice_bounds-put_partners-end-2 : goal.slice_bounds-put_partners-end-2
slice_bounds-put_partners-end-2 c = sym (length-take-le _ _ (search rules))

pub put_partners-requires : goal.put_partners-requires
put_partners-requires c =
    let a = c.args in
    let n = length-take-le a.n a.to.now c.requires.2 in
    (c.requires.0, omega (arith, n, c.requires.3))

pub slice_bounds-match_place-end-2 : goal.slice_bounds-match_place-end-2
slice_bounds-match_place-end-2 c = sym (length-take-le _ _ (search rules))

pub returns : goal.returns
returns c =
    let a = c.args in
    let p = c.put_partners in
    let n = length-take-le a.n a.to.now c.requires.2 in
    let e : p.new.to ≡ partners a.d.now (deck_of a.deck) a.matching.now a.n = p.ensures ∙ ap (partners a.d.now (deck_of a.deck) a.matching.now) n in
    let m : length p.new.to ≡ a.n = ap length e ∙ partners-length a.d.now (deck_of a.deck) a.matching.now a.n in
    c.answer_at.ensures
    ∙ ap answer_at
    (c.match_place-place.ensures ∙ ap (λ (l : List ℕ). match_place (graph_of a.n a.bonds.now) (graph_of a.n a.whole.now) l) (take_at p.new.to _ a.n m ∙ e))

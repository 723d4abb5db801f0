use Prim.Native.Nat.{ℕ, ◌+◌}
use mathlib.Core.Path.{◌≡◌, sym, ◌∙◌, ap}
use native.Mathlib.Omega.{arith}
use Rattle.block.specs.Block.{bonds_of, graph_of}
use Rattle.block.specs.Numbered.{bonds_length}
use Rattle.matched.specs.Matched.{is_unlisted, first_bond}
use Rattle.matched.specs.Laws.{place_lost, place_loose, place_new}
use Rattle.matched.proofs.match_place.Goals as goal

-- `matched::match_place` meets its contract. Assumes nothing.
pub returns-then-lost-ne0 : goal.returns-then-lost-ne0
returns-then-lost-ne0 c = let a = c.args in place_lost (graph_of a.n a.bonds.now) (graph_of a.n a.whole.now) a.to.now c.first_lost-lost.result c.first_lost-lost.ensures (λ e. omega (arith, c.if-lost-ne0.true, e))

pub first_amiss-loose-requires : goal.first_amiss-loose-requires
first_amiss-loose-requires c = omega (arith, c.requires)

pub returns-then-loose-ne0 : goal.returns-then-loose-ne0
returns-then-loose-ne0 c =
    let a = c.args in
    let z : c.first_lost-lost.result ≡ 0 = omega (arith, c.if-lost-ne0.false) in
    place_loose (graph_of a.n a.bonds.now) (graph_of a.n a.whole.now) a.to.now c.first_amiss-loose.result (sym c.first_lost-lost.ensures ∙ z) c.first_amiss-loose.ensures (λ e. omega (arith, c.if-loose-ne0.true, e))

pub first_amiss-requires : goal.first_amiss-requires
first_amiss-requires c = omega (arith, c.requires)

pub returns : goal.returns
returns c =
    let a = c.args in
    let y : c.first_amiss-loose.result ≡ 0 = omega (arith, c.if-loose-ne0.false) in
    let z : c.first_lost-lost.result ≡ 0 = omega (arith, c.if-lost-ne0.false) in
    place_new (graph_of a.n a.bonds.now) (graph_of a.n a.whole.now) a.to.now c.first_amiss.result (sym c.first_lost-lost.ensures ∙ z) (sym c.first_amiss-loose.ensures ∙ y) (c.first_amiss.ensures ∙ ap (λ (m : ℕ). first_bond (a.n + m + 1) (is_unlisted (graph_of a.n a.bonds.now) a.to.now) (bonds_of a.whole.now)) (sym (bonds_length a.bonds.now)))

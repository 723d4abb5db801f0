use Prim.Native.Nat.{ℕ, ◌+◌, ◌-◌}
use mathlib.Core.Path.{◌≡◌, refl, ◌∙◌, ap₂}
use mathlib.Core.List.{[], ◌∷◌}
use native.Mathlib.Omega.{arith}
use lib.Seq.{sets}
use Rattle.graph.specs.Graph.{Within}
use Rattle.deck.specs.Placed.{deck_of}
use Rattle.whole.specs.Whole.{pair_numbers}
use Rattle.whole.specs.Joins.{start_few, parent_earlier, joining_is, joining_none}
use Rattle.whole.proofs.put_join.Goals as goal
use Rattle.whole.proofs.put_join.Goals.{After-placement-p}

-- `whole::put_join` meets its contract: the first placement brings no bond, a later one the bond to its parent.
pub returns-then-k-eq0 : goal.returns-then-k-eq0
unfolding pair_numbers
returns-then-k-eq0 c =
    let a = c.args in
    let k : a.k ≡ 0 = omega (arith, c.if-k-eq0.true) in
    record { numbers = rw (k, joining_none a.d.now (deck_of a.deck)) refl; end = rw (k, joining_none a.d.now (deck_of a.deck)) (omega arith) }

-- its parent is an earlier placement
earlier : (c : After-placement-p) → let a = c.args in Within a.k c.placement-p.result.parent
earlier c =
    parent_earlier c.requires.0 c.args.k (omega (arith, c.if-k-eq0.false)) c.requires.1 c.placement-p.result c.placement-p.ensures

pub overflow_sub-p : goal.overflow_sub-p
overflow_sub-p c = omega (arith, (earlier (goal.at.overflow_sub-p c).After-placement-p).low)

pub overflow_cast-k : goal.overflow_cast-k
overflow_cast-k c = omega (arith, c.requires.1, c.requires.0.count.high)

pub put_bond-requires : goal.put_bond-requires
put_bond-requires c =
    let e = earlier (goal.at.put_bond-requires c).After-placement-p in
    let x = start_few c.requires.0 (c.placement-p.result.parent - 1) (omega (arith, e.high, c.requires.1)) in
    let y = start_few c.requires.0 c.args.k (omega (arith, c.requires.1)) in
    let n = c.requires.0.count.high in
    (c.requires.2, omega (arith, c.wide.ensures, c.start_of-there.ensures, x, n, e.high, c.requires.1), omega (arith, c.wide-2.ensures, c.start_of-here.ensures, y, n, c.requires.1))

pub returns : goal.returns
unfolding pair_numbers
returns c =
    let a = c.args in
    let j = joining_is c.requires.0 a.k (omega (arith, c.if-k-eq0.false)) c.requires.1 c.placement-p.result c.placement-p.ensures in
    let one = ap₂ ◌+◌ c.start_of-there.ensures.0 c.wide.ensures.0 in
    let two = ap₂ ◌+◌ c.start_of-here.ensures.0 c.wide-2.ensures.0 in
    record { numbers = rw j (c.put_bond.ensures ∙ ap₂ (λ (x y : ℕ). sets a.out.now a.at (x ∷ (y ∷ []))) one two); end = rw j (omega arith) }

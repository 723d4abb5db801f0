use Prim.Native.Nat.{◌+◌, ◌*◌, ◌-◌, ◌<◌}
use mathlib.Core.Path.{◌≡◌, refl, sym, ◌∙◌, ap}
use native.Mathlib.Omega.{arith}
use lib.ListN.{length, get_or, length-set}
use lib.Seq.{take_all}
use Rattle.deck.specs.Placed.{deck_of}
use Rattle.matched.specs.Matched.{partners}
use Rattle.matched.specs.Laws.{number_few, partners_next}
use Rattle.matched.proofs.put_partners.Goals as goal

pub loop-i-init : goal.loop-i-init
unfolding partners
loop-i-init c = (omega arith, refl, refl)

pub overflow_cast-to : goal.overflow_cast-to
overflow_cast-to c =
    let m = c.args.matching.now in
    let i = c.loop-i.i in
    omega (arith, c.number_in-x.ensures, number_few c.requires.0 (get_or m (2 * i) 0) (get_or m (2 * i + 1) 0))

pub loop-i-preserved : goal.loop-i-preserved
loop-i-preserved c =
    let a = c.args in
    let l = c.loop-i in
    let h : l.i < length l.to = omega (arith, c.loop-i-test.true) in
    let n = length-set l.to l.i c.number_in-x.result in (
      omega (arith, n),
      n ∙ l.invariant.1,
      partners_next a.d.now (deck_of a.deck) a.matching.now l.to l.i c.number_in-x.result h l.invariant.2 c.number_in-x.ensures,
    )

pub shape_of-to : goal.shape_of-to
shape_of-to c = c.loop-i.invariant.1

pub returns : goal.returns
returns c =
    let a = c.args in
    let l = c.loop-i in
    let e : l.i ≡ length a.to.now = omega (arith, c.loop-i-test.false, l.invariant.0, l.invariant.1) in
    sym (take_all l.i l.to (omega (arith, c.loop-i-test.false))) ∙ l.invariant.2 ∙ ap (partners a.d.now (deck_of a.deck) a.matching.now) e

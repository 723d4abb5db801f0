use Prim.Native.Nat.{ℕ, suc, ◌+◌, ◌-◌, ◌≤◌}
use mathlib.Core.Bool.{Bool, cond}
use mathlib.Core.Path.{◌≡◌, refl, sym, ap, ◌∙◌}
use native.Mathlib.Numerals.{add-one}
use lib.ListN.{get_or, length-set}
use lib.Seq.{get_or-set_other}
use Rattle.molfile.specs.Molfile.{new_number}
use Rattle.molfile.specs.Work.{most, goes, dropped_by, number_by}
use Rattle.molfile.proofs.Filling.{holds_none, holds_more}
use Rattle.molfile.proofs.Numbering.{number_none, number_more, number_few}
use native.Mathlib.Omega.{arith}
use Rattle.molfile.proofs.dropping.renumber.Goals as goal
use Rattle.molfile.proofs.dropping.renumber.Goals.{After-goes-gone, After-grown-next, At-loop-i}

abbrev dropped : At-loop-i → ℕ → Bool
dropped l = dropped_by l.args.marks.now l.args.weights.now

abbrev dropped-in-After-goes-gone : After-goes-gone → ℕ → Bool
dropped-in-After-goes-gone l = dropped_by l.args.marks.now l.args.weights.now

abbrev dropped-in-After-grown-next : After-grown-next → ℕ → Bool
dropped-in-After-grown-next l = dropped_by l.args.marks.now l.args.weights.now

few : (l : At-loop-i) → l.loop-i.count ≤ l.loop-i.i
few l = omega (arith, l.loop-i.invariant.1.count, number_few (dropped l) l.loop-i.i)

-- whether atom i goes
gone : (c : After-goes-gone) → c.goes-gone.result ≡ dropped-in-After-goes-gone c (suc c.loop-i.i)
gone c = c.goes-gone.ensures ∙ ap (goes (get_or c.args.marks.now c.loop-i.i 0)) (c.loop-i.invariant.2 c.loop-i.i (omega arith))

gone-in-After-grown-next : (c : After-grown-next) → c.goes-gone.result ≡ dropped-in-After-grown-next c (suc c.loop-i.i)
gone-in-After-grown-next c = c.goes-gone.ensures ∙ ap (goes (get_or c.args.marks.now c.loop-i.i 0)) (c.loop-i.invariant.2 c.loop-i.i (omega arith))

-- the count after atom i
next : (c : After-grown-next) → (c.grown-next.result ≡ new_number (dropped-in-After-grown-next c) (c.loop-i.i + 1)) × (c.grown-next.result ≤ most)
next c = let e = c.grown-next.ensures ∙ ap (λ (t : Bool). c.loop-i.count + cond t 0 1) (gone-in-After-grown-next c) ∙ ap (λ (n : ℕ). n + cond (dropped-in-After-grown-next c (suc c.loop-i.i)) 0 1) c.loop-i.invariant.1.count ∙ sym (number_more (dropped-in-After-grown-next c) c.loop-i.i) in
    (e, omega (arith, number_few (dropped-in-After-grown-next c) (c.loop-i.i + 1), c.requires.0))

pub loop-i-init : goal.loop-i-init
loop-i-init c =
    let gone = dropped_by c.args.marks.now c.args.weights.now in
    (omega arith, record { size = c.requires.1; count = number_none gone; at = holds_none (number_by gone) c.args.weights.now }, λ j h. refl)

pub grown-next-requires : goal.grown-next-requires
grown-next-requires c = omega (arith, few (goal.at.grown-next-requires c).At-loop-i, c.requires.0)

pub given-requires : goal.given-requires
given-requires c = (next (goal.at.given-requires c).After-grown-next).1

pub loop-i-preserved : goal.loop-i-preserved
loop-i-preserved c =
    let i = c.loop-i.i in
    let e = next (goal.at.loop-i-preserved c).After-grown-next in
    let w = c.loop-i.weights in
    let inv = c.loop-i.invariant.1 in
    let v = c.given.ensures ∙ ap (λ (t : Bool). cond t 0 c.grown-next.result) (gone (goal.at.loop-i-preserved c).After-goes-gone) ∙ ap (λ (x : ℕ). cond (dropped (goal.at.loop-i-preserved c).At-loop-i (suc i)) 0 x) (e.0 ∙ ap (new_number (dropped (goal.at.loop-i-preserved c).At-loop-i)) (add-one i)) in (
      omega arith,
      record { size = length-set w i c.given.result ∙ inv.size; count = e.0; at = holds_more (number_by (dropped (goal.at.loop-i-preserved c).At-loop-i)) w i c.given.result (omega (arith, inv.size, c.requires.0)) inv.at v },
      λ j h. get_or-set_other w i j c.given.result 0 (λ q. omega arith) ∙ c.loop-i.invariant.2 j (omega arith),
    )

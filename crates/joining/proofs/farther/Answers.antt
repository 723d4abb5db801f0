use Prim.Native.Nat.{ℕ, ◌+◌, ◌*◌}
use mathlib.Core.Bool.{Bool, true, false, cond}
use mathlib.Core.Path.{◌≡◌, refl}
use native.Mathlib.Omega.{arith}
use Rattle.graph.specs.Graph.{is_even}
use Rattle.joining.specs.Parts.{beyond, even_beyond, odd_beyond}
use Rattle.joining.proofs.farther.Goals as goal

-- `joining::farther` meets its contract. Assumes nothing.
-- what is chosen twice by one test is chosen once
chosen : (t : Bool) (by a b c d : ℕ) → by * cond t a b + cond t c d ≡ cond t (by * a + c) (by * b + d)
chosen true by a b c d = refl
chosen false by a b c d = refl

pub returns : goal.returns
unfolding beyond even_beyond odd_beyond
returns c =
    let o = c.args.o in
    let t = is_even c.args.d in
    let evens = c.either-evens.ensures in
    let odds = c.either-odds.ensures in
    let x = c.times.ensures in
    let y = c.times-2.ensures in
    let even = c.either.ensures in
    let odd = c.either-2.ensures in
    let ones = c.is_at-ones.ensures in
    let twos = c.times-3.ensures in
    let h = c.requires in (
      rw (
        x.0,
        y.0,
        twos.0,
        evens.0,
        odds.0,
        even.0,
        odd.0,
        ones.0,
        c.is_at.ensures.0,
        chosen t (c.args.d + 1) o.odds o.evens o.odd o.even,
        chosen t (c.args.d + 1) o.evens o.odds o.even o.odd,
      ) refl,
      record { sum = omega arith; even = omega arith; odd = omega arith; evens = omega arith; odds = omega arith; ones = omega arith; twos = omega arith; farthest = omega arith },
    )

use mathlib.Core.Path.{◌∙◌}
use native.Mathlib.Omega.{arith}
use Rattle.adjacency.specs.Scanning.{numbers_past}
use Rattle.neighbours.proofs.scan.number.Goals as goal

-- `number` meets its contract: the bytes that are no digits, then the digits. Assumes nothing.
pub returns-then-text-place : goal.returns-then-text-place
returns-then-text-place c =
    let s = c.skip-place.ensures in
    record { past = λ h. s.same ∙ numbers_past c.args.text.now c.skip-place.result c.if-text-place.true; here = λ h. absurd (omega arith) }

pub digits-seen-requires : goal.digits-seen-requires
digits-seen-requires c = (c.if-text-place.false, c.skip-place.ensures.digit c.if-text-place.false)

pub returns : goal.returns
returns c =
    let s = c.skip-place.ensures in
    let d = c.digits-seen.ensures in
    record { past = λ h. absurd (omega arith); here = λ h. record { same = s.same ∙ d.same; later = omega arith; within = d.within } }

use Prim.Native.Nat.{ℕ}
use mathlib.Core.Path.{sym, ap, ◌∙◌}
use native.Mathlib.Omega.{arith}
use borrow.Author.Tests.{ne_eqb}
use Rattle.reply.specs.Read.{is_outside}
use Rattle.block.specs.Faults.{none}
use Rattle.block.proofs.Reading.{roomy}
use Rattle.wholefile.specs.declared.Seen.{Seen}
use Rattle.wholefile.proofs.fault.Goals as goal

-- no test holds: each end is an atom, they differ, the bond is new, and both ends have room
pub returns : goal.returns
returns c =
    let one = ap (λ (v : ℕ). is_outside c.args.n v) (sym c.wide_two.ensures.0) ∙ sym c.is_outside.ensures ∙ c.if-is_outside.false in
    let two = ap (λ (v : ℕ). is_outside c.args.n v) (sym c.wide_two-else-is_outside.ensures.0) ∙ sym c.is_outside-else-is_outside.ensures ∙ c.if-is_outside-2.false in
    let seen = c.look_back-seen.ensures in
    none _ _ _ _ one two (ne_eqb _ _ c.if-a-b.false) (sym (ap (λ (s : Seen). s.joined) seen) ∙ c.if-seen.false)
    (roomy (ap (λ (s : Seen). s.one) seen) (omega (arith, c.if-seen-ge-LIMIT.false)))
    (roomy (ap (λ (s : Seen). s.two) seen) (omega (arith, c.if-seen-ge-LIMIT-2.false)))

use Prim.Native.Nat.{◌-◌}
use mathlib.Core.Path.{refl, sym, ◌∙◌}
use borrow.Author.Tests.{not-true, not-false}
use Rattle.printed.proofs.Reading.{past_here, past_later, past_end}
use Rattle.printed.proofs.past.Reads as reads
use Rattle.printed.proofs.past.Lts as lts
use Rattle.printed.proofs.is_of.Reads as is-of-reads
use Rattle.printed.proofs.past.Goals as goal

pub loop-i-init : goal.loop-i-init
loop-i-init c = refl

pub returns-then-not-is_of : goal.returns-then-not-is_of
returns-then-not-is_of c = let l = c.loop-i in sym (l.invariant ∙ past_here _ _ l.i c.loop-i-test.true (sym c.is_of.ensures ∙ not-true _ c.if-not-is_of.true-raw))

pub loop-i-preserved : goal.loop-i-preserved
loop-i-preserved c = let l = c.loop-i in l.invariant ∙ past_later _ _ l.i c.loop-i-test.true (sym c.is_of.ensures ∙ not-false _ c.if-not-is_of.false-raw)

pub returns : goal.returns
returns c = let l = c.loop-i in sym (l.invariant ∙ past_end _ _ l.i c.loop-i-test.false)

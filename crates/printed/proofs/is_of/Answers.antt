use mathlib.Core.Path.{sym, ◌∙◌, ap}
use Rattle.printed.proofs.Reading.{is_blank, is_tab}
use Rattle.printed.specs.Printed.{is_of}
use Rattle.printed.specs.declared.Class.{Class}
use Rattle.printed.proofs.is_of.Reads as reads
use Rattle.printed.proofs.is_of.Lts as lts
use Rattle.text.proofs.is_digit.Reads as is-digit-reads
use Rattle.printed.proofs.is_of.Goals as goal

-- `printed::is_of` meets its contract. Assumes nothing.
pub returns-then-b-eq32 : goal.returns-then-b-eq32
returns-then-b-eq32 c = is_blank _ _ c.in-Blank.is c.if-b-eq32.true

pub returns-else-b-eq32 : goal.returns-else-b-eq32
returns-else-b-eq32 c = is_tab _ _ c.in-Blank.is c.if-b-eq32.false

pub returns-in-Digit : goal.returns-in-Digit
returns-in-Digit c = let a = c.args in c.is_digit.ensures ∙ sym (ap (λ (k : Class). is_of k a.b) c.in-Digit.is)

pub returns-in-Zero : goal.returns-in-Zero
returns-in-Zero c = let a = c.args in sym (ap (λ (k : Class). is_of k a.b) c.in-Zero.is)

use mathlib.Core.Path.{sym}
use native.Mathlib.Omega.{arith}
use Rattle.gathered.proofs.Answers.{too_long, too_short, both_fit}
use Rattle.gathered.proofs.fault.Goals as goal

-- `gathered::fault` meets its contract. Assumes nothing.
pub returns-then-long-gt-LONGEST : goal.returns-then-long-gt-LONGEST
returns-then-long-gt-LONGEST c = let a = c.args in sym (too_long a.sheet a.long a.output c.if-long-gt-LONGEST.true)

pub returns-then-output-bytes : goal.returns-then-output-bytes
returns-then-output-bytes c =
    let a = c.args in
    sym (too_short a.sheet a.long a.output c.if-long-gt-LONGEST.false (omega (arith, c.if-output-bytes.true, c.bytes_of-bytes.ensures)))

pub returns : goal.returns
returns c =
    let a = c.args in
    sym (both_fit a.sheet a.long a.output c.if-long-gt-LONGEST.false (omega (arith, c.if-output-bytes.false, c.bytes_of-bytes.ensures)))

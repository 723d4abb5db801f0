use Prim.Native.Nat.{ℕ, ◌+◌, ◌*◌}
use mathlib.Core.Path.{◌∙◌, ap}
use native.Mathlib.Omega.{arith}
use Rattle.text.specs.Text.{digit}
use Rattle.printed.specs.Printed.{said_value}
use Rattle.printed.proofs.Reading.{said_of, said_large}
use Rattle.printed.proofs.more.Reads as reads
use Rattle.printed.proofs.more.Lts as lts
use Rattle.text.proofs.digit.Reads as digit-reads
use Rattle.printed.proofs.more.Goals as goal

-- `printed::more` meets its contract. Assumes nothing.
pub returns-then-v-d : goal.returns-then-v-d
returns-then-v-d c = let a = c.args in said_large (10 * a.v + digit a.b) (omega (arith, c.digit-d.ensures))

pub returns : goal.returns
returns c = let a = c.args in said_of (10 * a.v + c.digit-d.result) (omega (arith, c.digit-d.ensures)) ∙ ap (λ (d : ℕ). said_value (10 * a.v + d)) c.digit-d.ensures

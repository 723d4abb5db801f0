use mathlib.Core.Path.{refl}
use native.Mathlib.Omega.{arith}
use Rattle.records.specs.Words.{little_small}
use Rattle.summary.specs.Layout.{stored_fields}
use Rattle.summary.proofs.fields.Goals as goal

-- `summary::fields` meets its contract. Assumes nothing.
pub overflow_add-result : goal.overflow_add-result
overflow_add-result c =
    let small = little_small c.args.s.now (λ i. omega (arith, c.type_inv.s i)) 4 in
    omega (arith, c.little_at-even.ensures, small 4, c.little_at-odd.ensures, small 8)

pub returns : goal.returns
unfolding stored_fields
returns c = rw (c.byte.ensures, c.little_at.ensures, c.atoms.ensures, c.little_at-odd.ensures, c.little_at-even.ensures) refl

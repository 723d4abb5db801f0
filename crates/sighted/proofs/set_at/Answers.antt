use Prim.Native.Nat.{◌*◌}
use mathlib.Core.Path.{sym, ◌∙◌}
use native.Mathlib.Nat.{zero-add}
use native.Mathlib.Omega.{arith}
use lib.ListN.{length-take}
use Rattle.records.specs.Stored.{little-part}
use Rattle.block.specs.Block.{most_atoms}
use Rattle.sighted.proofs.Looking.{set_here}
use Rattle.sighted.proofs.set_at.Goals as goal

pub returns-then-s-lt-SETS : goal.returns-then-s-lt-SETS
returns-then-s-lt-SETS c = c.little_at.ensures ∙ sym (set_here _ _ c.requires)

pub slice_bounds-little_at-end : goal.slice_bounds-little_at-end
slice_bounds-little_at-end c = omega (arith, length-take (8 * most_atoms) c.args.s.now)

pub returns : goal.returns
returns c =
    c.little_at-2.ensures ∙ rw zero-add at (little-part 8 c.args.s.now 0 (8 * most_atoms) (8 * c.args.p) (omega (arith, c.requires))) ∙ sym (set_here _ _ c.requires)

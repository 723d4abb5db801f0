use Prim.Native.Nat.{◌+◌, ◌*◌}
use mathlib.Core.Path.{sym}
use native.Mathlib.Omega.{arith}
use lib.ListN.{get_or-eq_default}
use Rattle.records.proofs.Numbers.{past}
use Rattle.records.specs.Records.{assembly_kind}
use Rattle.assembly.specs.Placements.{placement_at}
use Rattle.assembly.proofs.placement_at.Goals as goal

-- `assembly::placement_at` meets its contract. Assumes nothing.
pub returns-then-xs-k : goal.returns-then-xs-k
unfolding placement_at
returns-then-xs-k c = let a = c.args in
    let d = a.xs.now in
    let at = assembly_kind.fixed + assembly_kind.item * a.k in
    sym (
    rw (
      past 2 d at (omega arith),
      past 2 d (at + 2) (omega arith),
      get_or-eq_default d 0 {n = at + 4} (omega arith),
      get_or-eq_default d 0 {n = at + 5} (omega arith),
    )
    )

pub returns-then-at-xs : goal.returns-then-at-xs
unfolding placement_at
returns-then-at-xs c = rw (c.two_at.ensures, c.two_at-then-at-xs.ensures)

pub returns : goal.returns
unfolding placement_at
returns c = rw (c.le16_at.ensures, c.le16_at-2.ensures, c.byte_at.ensures, c.byte_at-2.ensures)

use Prim.Native.Nat.{suc, ◌≤◌}
use mathlib.Core.Bool.{Bool, true, false, cond}
use native.Mathlib.Omega.{arith}
use borrow.Author.Rules.{rules}
use lib.Dec.{eqb}
use Rattle.block.specs.Block.{most_atoms}
use Rattle.shares.specs.Work.{cap}
use Rattle.shares.proofs.Rows.{unit_at}
use Rattle.shares.proofs.Counting.{rule_counts}
use Rattle.shares.proofs.sweeps.counts.Goals as goal

-- `counts` meets its contract: the levels and the start's own path give the rule of the counts.
one-low : (t : Bool) → cond t 1 0 ≤ cap
one-low true = omega arith
one-low false = omega arith

pub offset_bounds-row-start : goal.offset_bounds-row-start
offset_bounds-row-start c = let p = c.requires in omega (arith, p.3.small, p.3.start)

pub bounds-row-start : goal.bounds-row-start
bounds-row-start c = let p = c.requires in omega (arith, p.3.small, p.3.start)

pub sweep-requires : goal.sweep-requires
sweep-requires c =
    let p = c.requires in
    let s = c.args.start in (
      (_, _, _, p.3.beside, p.3.levels, omega arith),
      search rules,
      λ w. omega (arith, unit_at (suc most_atoms) s w (omega (arith, p.3.small, p.3.start)), one-low (eqb s w)),
    )

pub returns : goal.returns
returns c n bs row S =
    c.sweep.ensures _ _ _ _ S.beside S.levels (rule_counts S (λ v w. unit_at (suc most_atoms) _ v (omega (arith, S.small, S.start))))

use Prim.Native.Nat.{◌<◌}
use mathlib.Core.Path.{◌≡◌, sym, ◌∙◌}
use native.Mathlib.Omega.{arith}
use lib.ListN.{length, take, length-take}
use borrow.Author.Rules.{rules}
use Rattle.assembly.specs.Book.{most_blocks}
use Rattle.assembly.proofs.Walks.{find_over, find_here, find_next}
use Rattle.assembly.proofs.find_block.Goals as goal
use Rattle.assembly.proofs.find_block.Goals.{Else-count-i, Start}

table : (s : Start) → length s.args.blocks ≡ most_blocks
table s = search rules

table-in-Else-count-i : (s : Else-count-i) → length s.args.blocks ≡ most_blocks
table-in-Else-count-i s = search rules

more : (c : Else-count-i) → let a = c.args in c.loop-i.i < length (take a.count a.blocks)
more c = let a = c.args in omega (arith, length-take a.count a.blocks, table-in-Else-count-i c)

pub returns-then-count-i : goal.returns-then-count-i
returns-then-count-i c = let a = c.args in
    sym (c.loop-i.invariant ∙ find_over a.blocks a.count a.number c.loop-i.i (omega (arith, length-take a.count a.blocks)))

pub returns-then-same_number : goal.returns-then-same_number
returns-then-same_number c = let a = c.args in
    sym (c.loop-i.invariant ∙ find_here a.blocks a.count a.number c.loop-i.i (more (goal.at.returns-then-same_number c).Else-count-i) (sym c.same_number.ensures ∙ c.if-same_number.true))

pub loop-i-preserved : goal.loop-i-preserved
loop-i-preserved c = let a = c.args in
    c.loop-i.invariant ∙ find_next a.blocks a.count a.number c.loop-i.i (more (goal.at.loop-i-preserved c).Else-count-i) (sym c.same_number.ensures ∙ c.if-same_number.false)

pub returns : goal.returns
returns c = let a = c.args in
    sym (c.loop-i.invariant ∙ find_over a.blocks a.count a.number c.loop-i.i (omega (arith, length-take a.count a.blocks, table (goal.at.returns c).Start)))

use Prim.Native.Nat.{min, ◌≤◌}
use mathlib.Core.Path.{◌≡◌}
use lib.ListN.{length}
use Rattle.graph.specs.Paths.{path_count}
use Rattle.graph.specs.Notions.{lcm_starts}
use Rattle.block.specs.Block.{graph_of}
use Rattle.shares.specs.Reply.{most_denominator}
use Rattle.shares.specs.Work.{cap, Sofar}
use Rattle.shares.proofs.flows.fill.Given as goal

-- `fill` meets its contract: D and the entries have what the starts passed give, and what is above the most stays above.
abbrev pub invariant-loop-i : goal.invariant-loop-i
invariant-loop-i l =
    (l.i ≤ l.n) × (length l.out ≡ length l.initial.out) × (l.d ≡ min cap (lcm_starts l.n (path_count (graph_of l.n l.bonds)) l.i)) × (l.d ≤ most_denominator → Sofar l.n l.bonds l.i l.d l.out)

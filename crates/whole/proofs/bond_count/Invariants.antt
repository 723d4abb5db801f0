use Prim.Native.Nat.{◌*◌, ◌≤◌}
use mathlib.Core.Path.{◌≡◌}
use lib.ListN.{length}
use Rattle.deck.specs.Molecule.{graph_at, join_at}
use Rattle.deck.specs.Placed.{deck_of}
use Rattle.whole.specs.Work.{most_brought, bonds_before}
use Rattle.whole.proofs.bond_count.Given as goal

-- `whole::bond_count` meets its contract. The loop's invariant: the bonds of the placements before k are counted, at most half of `most_brought` each.
abbrev pub invariant-loop-k : goal.invariant-loop-k
invariant-loop-k l = (l.k ≤ l.deck.placements) × (l.m ≡ length (bonds_before (graph_at l.d (deck_of l.deck)) (join_at l.d (deck_of l.deck)) l.k)) × (2 * l.m ≤ most_brought * l.k)

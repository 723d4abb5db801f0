use Prim.Native.Nat.{◌*◌, ◌≤◌}
use mathlib.Core.Path.{◌≡◌}
use Rattle.graph.specs.Assembly.{start_at}
use Rattle.deck.specs.Molecule.{graph_at}
use Rattle.deck.specs.Placed.{deck_of}
use Rattle.whole.proofs.start_of.Given as goal

-- `whole::start_of` meets its contract. The loop's invariant: the atoms of the placements before i are added up.
abbrev pub invariant-loop-i : goal.invariant-loop-i
invariant-loop-i l = (l.i ≤ l.k) × (l.start ≡ start_at (graph_at l.d (deck_of l.deck)) l.i) × (l.start ≤ 65535 * l.i)

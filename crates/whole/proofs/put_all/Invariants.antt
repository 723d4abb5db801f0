use Prim.Native.Nat.{◌*◌, ◌≤◌}
use mathlib.Core.Path.{◌≡◌}
use lib.ListN.{length}
use lib.Seq.{sets}
use Rattle.deck.specs.Molecule.{graph_at, join_at}
use Rattle.deck.specs.Placed.{deck_of}
use Rattle.whole.specs.Whole.{pair_numbers}
use Rattle.whole.specs.Work.{most_brought, bonds_before}
use Rattle.whole.proofs.put_all.Given as goal

-- `whole::put_all` meets its contract. The loop's invariant: what the placements before k bring is put, and `at` is the place past it.
abbrev pub invariant-loop-k : goal.invariant-loop-k
invariant-loop-k l =
    (l.k ≤ l.deck.placements)
    × (l.at ≡ 2 * length (bonds_before (graph_at l.d (deck_of l.deck)) (join_at l.d (deck_of l.deck)) l.k))
    × (l.at ≤ most_brought * l.k)
    × (length l.out ≡ length l.initial.out)
    × (l.out ≡ sets l.initial.out 0 (pair_numbers (bonds_before (graph_at l.d (deck_of l.deck)) (join_at l.d (deck_of l.deck)) l.k)))

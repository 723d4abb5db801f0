use Prim.Native.Nat.{ℕ, ◌/◌, ◌%◌}
use mathlib.Core.List.{List, []}
use lib.ListN.{take, get_or}
use Rattle.arms.specs.Arms.{arm_row}
use Rattle.arms.proofs.Keeping.{FilledTo}
use Rattle.assembly.specs.declared.BlockAt.{BlockAt}
use Rattle.catalogue.specs.Library.{most_candidates}
use Rattle.catalogue.specs.Said.{no_site}
use Rattle.catalogue.specs.declared.Site.{Site}
use Rattle.stock.specs.Stock.{Holds, arm_at, all_places}
use Rattle.stock.proofs.all_arms.Given as goal

-- `stock::all_arms` meets its contract. The loop's invariant: the first i rows are kept, and the place holds what it says. Assumes nothing.
abbrev pub row : List ℕ → List BlockAt → List ℕ → List Site → ℕ → List ℕ
row d bs xs sites i = arm_row (arm_at d bs xs (get_or sites (i / most_candidates) no_site) (i % most_candidates))

abbrev pub invariant-loop-i : goal.invariant-loop-i
invariant-loop-i l = FilledTo [] (row l.d (take l.count l.blocks) l.xs l.sites) all_places l.all l.i × Holds l.d (take l.count l.blocks) l.held l.place

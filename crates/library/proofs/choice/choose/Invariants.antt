use Prim.Native.Nat.{◌-◌, ◌≤◌}
use mathlib.Core.Path.{◌≡◌}
use lib.ListN.{length}
use Rattle.catalogue.specs.Library.{most_sites}
use Rattle.library.proofs.Choosing.{Chosen}
use Rattle.library.proofs.choice.choose.Given as goal

-- `library::choice::choose` meets its contract. Assumes nothing.
abbrev pub invariant-loop-k : goal.invariant-loop-k
invariant-loop-k l = (l.k ≤ l.n) × (length l.digits ≡ most_sites) × Chosen l.sites l.n l.position l.digits l.k l.p

abbrev pub decreases-loop-k : goal.decreases-loop-k
decreases-loop-k l = l.k

use mathlib.Core.List.{List}
use mathlib.Core.Path.{◌≡◌}
use Rattle.block.specs.declared.Indices.{Indices}
use Rattle.arms.specs.declared.Core.{Core}
use Rattle.arms.specs.declared.Port.{Port}
use Rattle.arms.specs.Arms.{six_of, sight_at}
use Rattle.arms.proofs.stem_of.Given as goal

-- `arms::stem_of` meets its contract. The loop's invariant: the fields are those with the first k arms, and what is counted from the next one's atom. Assumes nothing.
abbrev pub whole : Indices → List Port → Core
whole x ends = record { six = x; ends = ends }

abbrev pub invariant-loop-k : goal.invariant-loop-k
invariant-loop-k l = (l.six ≡ six_of (whole l.initial.six l.ends) l.arms l.k) × (l.from ≡ sight_at l.ends l.arms l.k l.k)

use mathlib.Core.Path.{◌≡◌}
use Rattle.arms.specs.Arms.{sight_from}
use Rattle.arms.proofs.sight.Given as goal

-- `arms::sight` meets its contract. The loop's invariant: v is counted once the first m arms are joined. Assumes nothing.
abbrev pub invariant-loop-m : goal.invariant-loop-m
invariant-loop-m l = l.v ≡ sight_from l.ends l.arms l.k l.initial.v l.m

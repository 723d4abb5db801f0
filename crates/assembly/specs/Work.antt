-- Work. How the ends of joins at an atom are counted: those of the own side at once, those of the parent's side join by join.
use Rattle.std.specs.Prelude.{ℕ, ◌-◌, cond, eqb}
use Rattle.graph.specs.Assembly.{Join}
use Rattle.reply.specs.Read.{is_outside}

-- of the ends that `joins_on` counts those of a join's own side: only p's own join has one there, at index p - 1, if it is one of them
unfoldable pub own_on : (ℕ → Join) → ℕ → ℕ → ℕ → ℕ
own_on joins last p a = cond (is_outside last (p - 1)) 0 (cond (eqb (joins (p - 1)).own a) 1 0)

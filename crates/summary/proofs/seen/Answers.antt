use Prim.Native.Nat.{ℕ}
use mathlib.Core.List.{List}
use mathlib.Core.Path.{ap₂, ◌∙◌}
use Rattle.sighted.specs.Sighted.{sets_in, seen_of}
use Rattle.summary.specs.Layout.{seen_at}
use Rattle.summary.proofs.seen.Goals as goal

-- `summary::seen` meets its contract. Assumes nothing.
pub returns : goal.returns
unfolding seen_at
returns c = c.see.ensures ∙ ap₂ (λ (l : List ℕ) (n : ℕ). seen_of (sets_in l) n c.args.i) c.near.ensures.bytes c.atoms.ensures

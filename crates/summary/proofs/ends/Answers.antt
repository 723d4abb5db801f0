use Prim.Native.Nat.{ℕ}
use mathlib.Core.Bool.{Bool, true, false, cond}
use mathlib.Core.List.{List}
use mathlib.Core.Path.{◌≡◌, refl, ap, ◌∙◌}
use lib.Count.{ones}
use Rattle.half.specs.Half.{most_atoms}
use Rattle.reply.specs.Read.{is_outside}
use Rattle.sighted.specs.Sighted.{set_at}
use Rattle.summary.specs.Layout.{stored_degree}
use Rattle.summary.proofs.ends.Goals as goal

-- `summary::ends` meets its contract. Assumes nothing.
pub returns : goal.returns
unfolding stored_degree ones
returns c =
    let i = c.args.i in
    c.size.ensures.0 ∙ ap ones c.set.ensures ∙ go i (is_outside most_atoms i) _ _ c.near.ensures.bytes
  where
    go : (i : ℕ) (t : Bool) (l m : List ℕ) → l ≡ m → ones (cond t 0 (set_at l i)) ≡ cond t 0 (ones (set_at m i))
    go i true l m e = refl
    go i false l m e = ap (λ (l : List ℕ). ones (set_at l i)) e

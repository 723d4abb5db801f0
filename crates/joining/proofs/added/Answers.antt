use native.Mathlib.Omega.{arith}
use mathlib.Core.Path.{refl}
use Rattle.joining.specs.Parts.{even_across, odd_across, join_six}
use Rattle.joining.proofs.added.Goals as goal

-- `joining::added` meets its contract. Assumes nothing.
pub overflow_add-result : goal.overflow_add-result
overflow_add-result c = let p = c.requires in omega arith

pub overflow_add-result-2 : goal.overflow_add-result-2
overflow_add-result-2 c = let p = c.requires in omega arith

pub overflow_add-c : goal.overflow_add-c
overflow_add-c c = let p = c.requires in omega arith

pub overflow_add-c-2 : goal.overflow_add-c-2
overflow_add-c-2 c = let p = c.requires in omega arith

pub returns : goal.returns
unfolding even_across odd_across join_six
returns c =
    rw (c.larger-2.ensures, c.larger.ensures, c.threes_across.ensures.0, c.across-2.ensures.0, c.across.ensures.0) refl

use Prim.Native.Nat.{ℕ, ◌*◌}
use mathlib.Core.Path.{ap₂, ◌∙◌}
use native.Mathlib.Nat.{mul-le-mul}
use native.Mathlib.Omega.{arith}
use Rattle.balaban.specs.Balaban.{bound, largest_root}
use Rattle.balaban.proofs.brings.Goals as goal

-- `brings` meets its contract: the product of two sums fits. Assumes nothing.
pub sum_of-s-requires : goal.sum_of-s-requires
sum_of-s-requires c = let p = c.requires in (p.0, p.1)

pub sum_of-t-requires : goal.sum_of-t-requires
sum_of-t-requires c = let p = c.requires in (p.2, p.3)

pub overflow_mul-s : goal.overflow_mul-s
overflow_mul-s c = let l = mul-le-mul c.sum_of-s.ensures.1 c.sum_of-t.ensures.1 in omega arith

pub returns : goal.returns
returns c =
    let r = c.largest.ensures in
    (r.0 ∙ ap₂ (λ (x y : ℕ). largest_root (bound 1) (x * y)) c.sum_of-s.ensures.0 c.sum_of-t.ensures.0, r.1)

use native.Mathlib.Omega.{arith}
use Rattle.reach.proofs.Counting.{fit_low}
use Rattle.reach.proofs.together.Goals as goal

pub fours-q-requires : goal.fours-q-requires
fours-q-requires c = tt

pub by_fours-requires : goal.by_fours-requires
by_fours-requires c = let q = c.fours-q.ensures.0 in (omega (arith, q, c.requires), omega (arith, q, c.requires))

pub overflow_mul-q : goal.overflow_mul-q
overflow_mul-q c = omega (arith, c.fours-q.ensures.0)

pub one_by_one-requires : goal.one_by_one-requires
one_by_one-requires c = let p = c.requires in (c.fours-q.ensures.0, p.0, p.1)

pub overflow_add-result : goal.overflow_add-result
overflow_add-result c = omega (arith, c.by_fours.ensures.1, c.one_by_one.ensures.1)

pub returns : goal.returns
returns c =
    let q = c.fours-q.ensures in
    let a = c.args in
    λ F. omega (arith, c.by_fours.ensures.0 (fit_low a.sets.now a.n _ q.0 q.1 F), c.one_by_one.ensures.0)

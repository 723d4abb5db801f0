use Prim.Native.Nat.{ℕ, suc, ◌+◌, ◌/◌, ◌<◌}
use mathlib.Core.Bool.{Bool, cond}
use mathlib.Core.List.{List}
use mathlib.Core.Path.{◌≡◌, refl, sym, ◌∙◌, ap}
use lib.ListN.{length, set}
use native.Mathlib.Nat.{div-le_self}
use native.Mathlib.Omega.{arith}
use borrow.Author.Rules.{rules}
use borrow.Author.Tests.{lt-ltb, le-ltb}
use lib.Dec.{ltb}
use Rattle.block.specs.Block.{most_atoms}
use Rattle.shares.specs.Work.{at}
use Rattle.block.specs.Lent.{zeros}
use Rattle.shares.proofs.Rows.{store_low, seated_next}
use Rattle.shares.proofs.flows.weights.Goals as goal

pub loop-v-init : goal.loop-v-init
loop-v-init c = (
  omega arith,
  omega arith,
  refl,
  λ u p l. zeros (suc most_atoms) u ∙ sym (ap (λ (t : Bool). cond t (c.args.d / at c.args.c.now u) 0) (le-ltb c.args.start u (omega arith))),
  λ w. omega (arith, zeros (suc most_atoms) w),
)

pub nonzero_div-row : goal.nonzero_div-row
nonzero_div-row c = c.requires.2 c.loop-v.v (record { low = omega arith; high = omega arith })

-- a part stored
part : (c row : List ℕ) (start d v : ℕ) → v < length row → start < v → ((u : ℕ) → 0 < u → u < v → at row u ≡ cond (ltb start u) (d / at c u) 0)
    → (u : ℕ) → 0 < u → u < v + 1 → at (set row v (d / at c v)) u ≡ cond (ltb start u) (d / at c u) 0
part c row start d v i s h =
    seated_next row v (d / at c v) (λ u. cond (ltb start u) (d / at c u) 0) i h (sym (ap (λ (t : Bool). cond t (d / at c v) 0) (lt-ltb start v s)))

pub loop-v-preserved : goal.loop-v-preserved
loop-v-preserved c =
    let a = c.args in
    let l = c.loop-v in (
      omega arith,
      omega arith,
      search rules,
      part a.c.now l.row a.start a.d l.v (omega arith) l.invariant.0 l.invariant.3,
      store_low l.row l.v (a.d / at a.c.now l.v) (omega arith) l.invariant.4 (div-le_self a.d (at a.c.now l.v)),
    )

pub returns : goal.returns
returns c = (λ u w. c.loop-v.invariant.3 u w.low (omega arith), c.loop-v.invariant.4)

pub returns-2 : goal.returns-2
returns-2 c =
    let a = c.args in
    let l = c.loop-v in
    let e : l.v ≡ a.n = omega arith in (
      λ u w. part a.c.now l.row a.start a.d l.v (omega arith) l.invariant.0 l.invariant.3 u w.low (omega (arith, w.high)),
      store_low l.row l.v (a.d / at a.c.now l.v) (omega arith) l.invariant.4 (div-le_self a.d (at a.c.now l.v)),
    )

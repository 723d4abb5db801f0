use Prim.Native.Nat.{ℕ}
use mathlib.Core.List.{List}
use mathlib.Core.Path.{◌∙◌, ap}
use native.Mathlib.Omega.{arith}
use lib.ListN.{take, get_or}
use Rattle.records.specs.Records.{payload_at}
use Rattle.arms.specs.Arms.{no_arm}
use Rattle.arms.specs.declared.Arm.{Arm}
use Rattle.stock.specs.Stock.{core_at, arms_at}
use Rattle.stock.specs.Stands.{arms_there}
use Rattle.library.specs.Held.{few, one, many, product_joined}
use Rattle.library.proofs.Making.{made_said}
use Rattle.library.proofs.fields_at.Goals as goal

-- `library::fields_at` meets its contract. Assumes nothing.
pub choose-digits-requires : goal.choose-digits-requires
choose-digits-requires c = let h = c.requires.held.1 in (few h, λ k i. (many h k i).low)

pub overflow_sub-k : goal.overflow_sub-k
overflow_sub-k c = one c.requires.held.1

pub offset_bounds-arms-k : goal.offset_bounds-arms-k
offset_bounds-arms-k c = let h = c.requires.held.1 in omega (arith, few h, one h)

pub bounds-arms-k : goal.bounds-arms-k
bounds-arms-k c = let h = c.requires.held.1 in omega (arith, few h, one h)

pub returns : goal.returns
returns c l h q =
    let a = c.args in
    let xs = c.payload_at-xs.ensures.bytes in
    let chosen = c.choose-digits in
    let arms = c.arms_at-arms in
    let core = c.core_by-core in
    let bs = take a.count a.blocks in
    made_said core.result arms.result a.n c.stem_of-stem.result _ (one h) (few h) c.stem_of-stem.ensures c.joined.ensures
    ∙ product_joined h a.position q chosen.result chosen.ensures core.result arms.result
    (core.ensures ∙ ap (λ (ys : List ℕ). core_at a.d.now bs ys a.sites) xs)
    (λ k i. ap (λ (all : List Arm). get_or all k no_arm) (arms.ensures ∙ ap (λ (ys : List ℕ). arms_at a.d.now bs ys a.sites chosen.result) xs)
    ∙ arms_there a.d.now bs (payload_at a.d.now a.at) a.sites chosen.result k (omega (arith, i, few h)))

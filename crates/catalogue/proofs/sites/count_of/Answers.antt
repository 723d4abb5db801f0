use Prim.Native.Nat.{ℕ, ◌+◌, ◌*◌}
use mathlib.Core.Path.{◌≡◌, sym, ◌∙◌, ap, ap₂}
use native.Mathlib.Numerals.{add-one}
use native.Mathlib.Omega.{arith}
use Rattle.catalogue.specs.Products.{products}
use Rattle.catalogue.specs.Table.{sites_in}
use Rattle.catalogue.proofs.Turns.{products_grow, one_product, byte_more, few_bytes}
use Rattle.catalogue.proofs.sites.count_of.Goals as goal

pub loop-k-init : goal.loop-k-init
loop-k-init c = (omega arith, sym (one_product _), omega arith)

pub overflow_mul-total : goal.overflow_mul-total
overflow_mul-total c = let l = c.loop-k in omega (arith, few_bytes _ (l.k + 1) (byte_more l.total l.k c.wide_byte-total.result l.invariant.2 c.wide_byte-total.ensures.1) (omega arith))

pub loop-k-preserved : goal.loop-k-preserved
loop-k-preserved c = let a = c.args in let l = c.loop-k in
    let m = c.wide_byte-total.ensures in
    (omega arith, ap₂ ◌*◌ l.invariant.1 m.0 ∙ sym (products_grow a.sites l.k) ∙ ap (λ (n : ℕ). products (sites_in a.sites n)) (sym (add-one l.k)), byte_more l.total l.k c.wide_byte-total.result l.invariant.2 m.1)

pub returns : goal.returns
returns c = let a = c.args in let l = c.loop-k in let e : l.k ≡ a.n = omega arith in l.invariant.1 ∙ ap (λ (n : ℕ). products (sites_in a.sites n)) e

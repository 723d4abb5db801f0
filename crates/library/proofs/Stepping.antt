-- A step, by what is said of its product. Assumes nothing.
use Prim.Native.Nat.{ℕ, ◌≤◌, ◌<◌}
use mathlib.Core.Bool.{Bool, true, false}
use mathlib.Core.List.{List}
use mathlib.Core.Path.{◌≡◌, refl, ap}
use native.Mathlib.Omega.{arith}
use borrow.Author.Tests.{ltb-true}
use lib.Dec.{ltb}
use Rattle.reply.specs.Read.{Read, refused, read, if_else}
use Rattle.reply.specs.Chain.{then-read}
use Rattle.block.specs.declared.Indices.{Indices}
use Rattle.catalogue.specs.Library.{Library, library_reply}
use Rattle.catalogue.specs.Products.{products, product_at, Product, done, made, product_reply}
use Rattle.catalogue.proofs.Fine.{few_products}
use Rattle.library.specs.Said.{said_product}
use Rattle.std.specs.Prelude.{Result, Ok, Err, Option, Some, None}
use Rattle.reply.specs.declared.Refusal.{Refusal}

-- what is said of a product
abbrev pub told_product : Result (Option Indices) Refusal → Read Product
told_product (Err r) = refused r
told_product (Ok None) = read done
told_product (Ok (Some x)) = read (made x)

pub product_told : (a : Result (Option Indices) Refusal) (y : Read Product) → a ≡ said_product y → told_product a ≡ y
product_told a (refused r) e = ap told_product e
product_told a (read done) e = ap told_product e
product_told a (read (made x)) e = ap told_product e

-- a position that has a product is small
pub made_low : (d : List ℕ) (position : ℕ) (x : Indices) → product_reply d position ≡ read (made x) → position < 4096
unfolding product_reply
made_low d position x e =
    let (l, f, g) = then-read (library_reply d) (λ l. if_else (ltb position (products l.sites)) (λ _. read (made (product_at d l position))) (λ _. read done)) e in
    go l (few_products d l f).1 (ltb position (products l.sites)) refl g
  where
    go : (l : Library) → products l.sites ≤ 4096 → (t : Bool) → ltb position (products l.sites) ≡ t → if_else t (λ _. read (made (product_at d l position))) (λ _. read done) ≡ read (made x) → position < 4096
    go l few true t f = omega (arith, ltb-true position (products l.sites) t)
    go l few false t f = absurd (let z : ◌≡◌ {A = ℕ} 0 1 = cc in omega arith)

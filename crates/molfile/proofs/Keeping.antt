-- Laws. The numbers of the kept bonds, bond by bond. Assumes nothing.
use Prim.Native.Nat.{ℕ, suc, ◌+◌}
use mathlib.Core.Bool.{Bool, true, false, ◌||◌, cond}
use mathlib.Core.List.{List, [], ◌∷◌, ◌++◌}
use mathlib.Core.Path.{◌≡◌, refl, sym, ◌∙◌, ap}
use native.Mathlib.Omega.{arith}
use native.Mathlib.Numerals.{add-one}
use borrow.Author.Tests.{ltb-true, ltb-false}
use lib.Dec.{eqb, ltb}
use lib.ListN.{length, get_or, take, drop, length-take}
use lib.Seq.{sets, take_all}
use Rattle.graph.specs.Graph.{Bond}
use Rattle.text.specs.Put.{Puts}
use Rattle.text.proofs.Putting.{at_front, no_room}
use Rattle.molfile.specs.Work.{kept_by}

pub kept_none : (numbers : List ℕ) (f : ℕ → Bond) → kept_by numbers f 0 ≡ []
unfolding kept_by
kept_none numbers f = refl

pub kept_more : (numbers : List ℕ) (f : ℕ → Bond) (k x y a b : ℕ) → (f k).one ≡ suc x → (f k).two ≡ suc y → a ≡ get_or numbers x 0 → b ≡ get_or numbers y 0
    → kept_by numbers f (k + 1) ≡ kept_by numbers f k ++ cond (eqb a 0 || eqb b 0) [] (a ∷ b ∷ [])
unfolding kept_by
kept_more numbers f k x y a b e g p q = rw (add-one k, e, g, p, q)

-- as much as there is room for stands at the front
pub front_is : {xs ys out after : List ℕ} {r : ℕ} → xs ≡ ys → Puts out 0 xs after r → let zs = take (length out) ys in (r ≡ length zs) × (after ≡ zs ++ drop (length zs) out)
front_is {xs} {ys} {out} {after} {r} e p =
    let zs = take (length out) ys in
    let n = length-take (length out) ys in
    let q : Puts out 0 zs after r = record { bytes = p.bytes ∙ ap (sets out 0) e ∙ go (ltb (length out) (length ys)) refl; end = omega (arith, p.end, ap length e) } in
    at_front q (omega arith)
  where
    go : (t : Bool) → ltb (length out) (length ys) ≡ t → sets out 0 ys ≡ sets out 0 (take (length out) ys)
    go true l = sym (no_room out 0 ys (sets out 0 (take (length out) ys)) (length out) (length out) (omega (arith, ltb-true (length out) (length ys) l)) (omega arith) refl (omega arith) (omega arith)).bytes
    go false l = ap (sets out 0) (sym (take_all (length out) ys (ltb-false (length out) (length ys) l)))

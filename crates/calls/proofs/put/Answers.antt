use Prim.Native.Nat.{ℕ, ◌+◌, ◌<◌}
use mathlib.Core.Path.{◌≡◌, refl, sym, ◌∙◌, ap, ap₂}
use mathlib.Core.List.{List, ◌++◌}
use native.Mathlib.Nat.{zero-add}
use native.Mathlib.Numerals.{add-one}
use native.Mathlib.Omega.{arith}
use lib.ListN.{length, drop, set, get_or, length-set}
use lib.Seq.{paste, paste-zero, paste-suc, take-length}
use Rattle.calls.specs.Convention.{over}
use Rattle.calls.proofs.put.Goals as goal

turned : (old new out : List ℕ) (i : ℕ) → i < length old → i < length new → out ≡ paste old 0 new i → set out i (get_or new i 0) ≡ paste old 0 new (i + 1)
turned old new out i h l e =
    ap (λ (x : List ℕ). set x i (get_or new i 0)) e
    ∙ ap (λ (k : ℕ). set (paste old 0 new i) k (get_or new i 0)) (sym (zero-add i))
    ∙ paste-suc old 0 new i 0 (omega arith) l
    ∙ ap (paste old 0 new) (sym (add-one i))

ended : (old new out : List ℕ) (i : ℕ) → i ≡ length new → out ≡ paste old 0 new i → out ≡ over new old
ended old new out i h e = e ∙ ap (paste old 0 new) h ∙ ap₂ ◌++◌ (take-length new) (ap (λ (k : ℕ). drop k old) (zero-add (length new)))

pub loop-i-init : goal.loop-i-init
loop-i-init c = (omega arith, refl, paste-zero c.args.out.now 0 c.args.numbers.now)

pub loop-i-preserved : goal.loop-i-preserved
loop-i-preserved c =
    let out = c.loop-i.out in
    let i = c.loop-i.i in
    let numbers = c.args.numbers.now in (
      omega arith,
      length-set out i (get_or numbers i 0) ∙ c.loop-i.invariant.1,
      turned c.args.out.now numbers out i (omega arith) (omega arith) c.loop-i.invariant.2,
    )

pub shape_of-out : goal.shape_of-out
shape_of-out c = c.loop-i.invariant.1

pub returns : goal.returns
returns c =
    ended c.args.out.now c.args.numbers.now c.loop-i.out c.loop-i.i (omega arith) c.loop-i.invariant.2

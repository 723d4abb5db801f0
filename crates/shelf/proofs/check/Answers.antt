use Prim.Native.Nat.{ℕ, suc, ◌+◌, ◌-◌}
use mathlib.Core.Path.{◌≡◌, sym, ap, ap₂, ◌∙◌}
use native.Mathlib.Numerals.{add-one}
use native.Mathlib.Omega.{arith}
use mathlib.Core.Bool.{true, false}
use mathlib.Core.List.{List}
use Rattle.std.specs.Prelude.{Err}
use Rattle.reply.specs.Read.{refused, refusal, is_outside, as_result}
use Rattle.shelf.specs.Shelf.{shelf_in}
use Rattle.assembly.specs.Placements.{most_placements, placement_count, placement_at, Shelf, fault, placements_reply, shelf_reply}
use Rattle.assembly.proofs.Faults.{faulty, faultless, none_left}
use Rattle.shelf.proofs.check.Goals as goal
use Rattle.shelf.proofs.check.Goals.{After-is_outside, In-loop-k, Start}

abbrev shelf : Start → Shelf
shelf s = shelf_in s.args.book.now

abbrev shelf-in-In-loop-k : In-loop-k → Shelf
shelf-in-In-loop-k s = shelf_in s.args.book.now

module _ (shelf : Shelf) (xs : List ℕ) where
  count-outside : is_outside most_placements (placement_count xs) ≡ true → shelf_reply shelf xs ≡ refused (refusal 15 0)
  count-outside e = rw e

  count-within : is_outside most_placements (placement_count xs) ≡ false → shelf_reply shelf xs ≡ placements_reply (fault shelf (placement_at xs)) 0 (placement_count xs)
  count-within e = rw e

outside-is : (c : After-is_outside) → c.is_outside.result ≡ is_outside most_placements (placement_count c.args.xs.now)
outside-is c = c.is_outside.ensures ∙ ap (is_outside most_placements) c.le16_at-p.ensures

-- what is left to do, one placement at least
left : (c : In-loop-k) → let k = c.loop-k.k in
    shelf_reply (shelf-in-In-loop-k c) c.args.xs.now ≡ placements_reply (fault (shelf-in-In-loop-k c) (placement_at c.args.xs.now)) k (suc (c.le16_at-p.result - (k + 1)))
left c = let k = c.loop-k.k in let p = c.le16_at-p.result in
    let e : p - k ≡ suc (p - (k + 1)) = omega arith in
    c.loop-k.invariant ∙ ap (placements_reply (fault (shelf-in-In-loop-k c) (placement_at c.args.xs.now)) k) e

pub returns-then-is_outside : goal.returns-then-is_outside
returns-then-is_outside c = ap Err c.at.ensures ∙ ap as_result (sym (count-outside (shelf (goal.at.returns-then-is_outside c).Start) c.args.xs.now (sym (outside-is (goal.at.returns-then-is_outside c).After-is_outside) ∙ c.if-is_outside.true)))

pub loop-k-init : goal.loop-k-init
loop-k-init c = let e : c.le16_at-p.result - 0 ≡ c.le16_at-p.result = omega arith in
    count-within (shelf (goal.at.loop-k-init c).Start) c.args.xs.now (sym (outside-is (goal.at.loop-k-init c).After-is_outside) ∙ c.if-is_outside.false) ∙ ap (placements_reply (fault (shelf (goal.at.loop-k-init c).Start) (placement_at c.args.xs.now)) 0) (sym (e ∙ c.le16_at-p.ensures))

pub returns-then-f-ne0 : goal.returns-then-f-ne0
returns-then-f-ne0 c = let k = c.loop-k.k in
    let placed = placement_at c.args.xs.now in
    let f = c.fault_of-f.ensures in
    ap₂ (λ (n p : ℕ). Err (refusal n p)) f (add-one k)
    ∙ ap as_result (sym (left (goal.at.returns-then-f-ne0 c).In-loop-k ∙ faulty (fault (shelf (goal.at.returns-then-f-ne0 c).Start) placed) k (c.le16_at-p.result - (k + 1)) (λ e. c.if-f-ne0.true (f ∙ e))))

pub loop-k-preserved : goal.loop-k-preserved
loop-k-preserved c = let k = c.loop-k.k in
    let placed = placement_at c.args.xs.now in
    let n = c.le16_at-p.result - (k + 1) in
    left (goal.at.loop-k-preserved c).In-loop-k ∙ faultless (fault (shelf (goal.at.loop-k-preserved c).Start) placed) k n (sym c.fault_of-f.ensures ∙ c.if-f-ne0.false) ∙ ap (λ (j : ℕ). placements_reply (fault (shelf (goal.at.loop-k-preserved c).Start) placed) j n) (sym (add-one k))

pub returns : goal.returns
returns c = let k = c.loop-k.k in
    let e : c.le16_at-p.result - k ≡ 0 = omega arith in
    ap as_result (sym (c.loop-k.invariant ∙ ap (placements_reply (fault (shelf (goal.at.returns c).Start) (placement_at c.args.xs.now)) k) e ∙ none_left (fault (shelf (goal.at.returns c).Start) (placement_at c.args.xs.now)) k))

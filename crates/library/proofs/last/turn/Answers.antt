use Prim.Native.Nat.{ℕ, zero, suc, ◌+◌, ◌-◌, ◌^◌, ◌≤◌, ◌<◌}
use mathlib.Core.List.{◌++◌}
use mathlib.Core.Path.{◌≡◌, refl, sym, ◌∙◌, ap, subst}
use native.Mathlib.Omega.{arith}
use lib.ListN.{length, take, drop}
use borrow.Author.Rules.{rules}
use Rattle.arms.specs.Arms.{joined_to}
use Rattle.sheets.specs.Sheets.{sheet_bytes}
use Rattle.catalogue.specs.Products.{products, product_at}
use Rattle.catalogue.proofs.Fine.{few_products}
use Rattle.library.specs.Turning.{Going}
use Rattle.arms.specs.declared.Arm.{Arm}
use Rattle.library.proofs.Spreading.{going_next, lent_whole, lent_long, some_bytes}
use Rattle.library.proofs.last.turn.Goals as goal
use Rattle.library.proofs.last.turn.Goals.{Else-out-at}

-- a buffer that had room has lost it through a sheet
ahead : (k at start n bytes : ℕ) → (k ≡ 0 → at ≡ start) → n - at < bytes → bytes ≤ n - start → 0 < k
ahead zero at start n bytes e h r = absurd (omega (arith, e refl))
ahead (suc k) at start n bytes e h r = omega arith

pub loop-k-init : goal.loop-k-init
loop-k-init c = let a = c.args in let p = c.requires in
    let z : a.position ≡ a.position + 0 = omega arith in
    (refl, p.start_in_bounds, omega arith, (λ e. refl), λ d l whole t g. subst (λ (q : ℕ). Going a.sheet d whole a.out.now q a.start) z g)

pub overflow_sub-out : goal.overflow_sub-out
overflow_sub-out c = c.loop-k.invariant.1

pub overflow_add-next : goal.overflow_add-next
overflow_add-next c = let (d, l, t) = c.requires.by_index in omega (arith, t.last, (few_products d l t.reads).1, c.loop-k-test.true)

pub shape_of-out-then-out-at : goal.shape_of-out-then-out-at
shape_of-out-then-out-at c = c.loop-k.invariant.0

pub returns-then-out-at : goal.returns-then-out-at
returns-then-out-at c = let a = c.args in let r = c.loop-k in
    let full : length r.out - r.at < sheet_bytes a.sheet = omega (arith, c.if-out-at.true, c.bytes_of-bytes.ensures) in
    record { within = r.invariant.1; on = (λ h. omega (arith, ahead r.k r.at a.start (length r.out) (sheet_bytes a.sheet) r.invariant.3 full (omega (arith, h, r.invariant.0)))); goes = r.invariant.4 }

pub overflow_add-place : goal.overflow_add-place
overflow_add-place c = let (d, l, t) = c.requires.by_index in omega (arith, t.stands, c.loop-k-test.true)

pub offset_bounds-all-place : goal.offset_bounds-all-place
offset_bounds-all-place c = let (d, l, t) = c.requires.by_index in omega (arith, t.stands, c.loop-k-test.true)

pub bounds-all-place : goal.bounds-all-place
bounds-all-place c = let (d, l, t) = c.requires.by_index in omega (arith, t.stands, c.loop-k-test.true)

pub slice_bounds-put_sheet-count : goal.slice_bounds-put_sheet-count
slice_bounds-put_sheet-count c = c.loop-k.invariant.1

-- the buffer's bytes can be counted
short : (c : Else-out-at) → length c.loop-k.out < 2 ^ 64
short c = search rules

pub overflow_add-at : goal.overflow_add-at
overflow_add-at c = omega (arith, c.if-out-at.false, c.loop-k.invariant.1, short (goal.at.overflow_add-at c).Else-out-at)

pub overflow_add-k : goal.overflow_add-k
overflow_add-k c = let (d, l, t) = c.requires.by_index in
    omega (arith, t.stands, c.loop-k-test.true)

pub loop-k-preserved : goal.loop-k-preserved
loop-k-preserved c = let a = c.args in
    let r = c.loop-k in
    let test = c.loop-k-test.true in
    let b = c.bytes_of-bytes.ensures in
    let fits : sheet_bytes a.sheet ≤ length r.out - r.at = omega (arith, b, c.if-out-at.false) in
    let made = c.joined-x.result in
    let ys = c.put_sheet.new.out in
    let lent = lent_whole a.sheet r.out made r.at ys c.put_sheet.ensures in
    let new = take r.at r.out ++ (ys ++ drop (length r.out - r.at) (drop r.at r.out)) in
    let long : length new ≡ length r.out = ap length lent ∙ lent_long a.sheet r.out made r.at r.invariant.1 in
    let z : a.position + r.k + 1 ≡ a.position + (r.k + 1) = omega arith in (
      long ∙ r.invariant.0,
      omega (arith, long, fits, b, r.invariant.1),
      omega (arith, test),
      (λ e. absurd (omega (arith, e))),
      λ d l whole t g.
          let low : a.position + r.k < products l.sites = omega (arith, t.last, test) in
          let same : made ≡ product_at d l (a.position + r.k) =
          c.joined-x.ensures
          ∙ ap (λ (arm : Arm). joined_to a.stay.stem arm) c.row_arm-arm.ensures
          ∙ t.same r.k test in
          let goes : Going a.sheet d whole new (a.position + r.k + 1) (r.at + sheet_bytes a.sheet) =
          going_next a.sheet d l t.reads (r.invariant.4 d l whole t g) low fits (some_bytes a.sheet) made same new lent in
          subst (λ (m : ℕ). Going a.sheet d whole new (a.position + (r.k + 1)) (r.at + m)) (sym b) (subst (λ (q : ℕ). Going a.sheet d whole new q (r.at + sheet_bytes a.sheet)) z goes),
    )

pub overflow_add-next-2 : goal.overflow_add-next-2
overflow_add-next-2 c = let (d, l, t) = c.requires.by_index in omega (arith, t.last, (few_products d l t.reads).1, c.loop-k.invariant.2)

pub shape_of-out : goal.shape_of-out
shape_of-out c = c.loop-k.invariant.0

pub returns : goal.returns
returns c = let (d, l, t) = c.requires.by_index in let r = c.loop-k in
    record { within = r.invariant.1; on = (λ h. omega (arith, t.some, c.loop-k-test.false)); goes = r.invariant.4 }

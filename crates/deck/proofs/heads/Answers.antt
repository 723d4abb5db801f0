use Prim.Native.Nat.{ℕ, suc, ◌+◌, ◌-◌}
use mathlib.Core.Path.{◌≡◌, sym, ◌∙◌, ap}
use native.Mathlib.Omega.{arith}
use Rattle.records.specs.Records.{kind_at}
use Rattle.assembly.specs.Book.{most_blocks}
use Rattle.deck.specs.Unfilled.{heads_from}
use Rattle.deck.proofs.Few.{head_more, head_none, heads_end}
use Rattle.deck.proofs.heads.Goals as goal
use Rattle.deck.proofs.heads.Goals.{In-loop-i}

pub loop-i-init : goal.loop-i-init
loop-i-init c = (omega arith, omega arith, omega arith)

-- what is left, one at least
left : (t : In-loop-i) → let d = t.args.d.now in
    heads_from most_blocks d 0 ≡ t.loop-i.i + heads_from (suc (most_blocks - (t.loop-i.i + 1))) d t.loop-i.at
left t =
    let l = t.loop-i in
    let e : most_blocks - l.i ≡ suc (most_blocks - (l.i + 1)) = omega (arith, t.loop-i-test.true) in
    l.invariant.2 ∙ ap (λ (n : ℕ). l.i + heads_from n t.args.d.now l.at) e

pub overflow_add-at : goal.overflow_add-at
overflow_add-at c = omega (arith, c.loop-i.invariant)

pub returns-then-le16_at : goal.returns-then-le16_at
returns-then-le16_at c =
    let l = c.loop-i in
    let d = c.args.d.now in
    let k : (kind_at d l.at ≡ 1 → ⊥) = λ e. c.if-le16_at.true (c.le16_at.ensures ∙ e) in
    (omega (arith, left (goal.at.returns-then-le16_at c).In-loop-i, head_none (most_blocks - (l.i + 1)) d l.at k), l.invariant.0)

pub overflow_add-at-in-loop-i : goal.overflow_add-at-in-loop-i
overflow_add-at-in-loop-i c = omega (arith, c.loop-i.invariant)

pub overflow_add-at-in-loop-i-2 : goal.overflow_add-at-in-loop-i-2
overflow_add-at-in-loop-i-2 c = omega (arith, c.loop-i.invariant)

pub loop-i-preserved : goal.loop-i-preserved
loop-i-preserved c =
    let l = c.loop-i in
    let d = c.args.d.now in
    let k : kind_at d l.at ≡ 1 = sym c.le16_at.ensures ∙ c.if-le16_at.false in (
      omega (arith, c.loop-i-test.true),
      omega (arith, l.invariant.1),
      rw c.le16_at-in-loop-i.ensures (omega (arith, left (goal.at.loop-i-preserved c).In-loop-i, head_more (most_blocks - (l.i + 1)) d l.at k)),
    )

pub returns : goal.returns
returns c =
    let l = c.loop-i in
    let e : most_blocks - l.i ≡ 0 = omega (arith, c.loop-i-test.false) in
    (omega (arith, l.invariant.2, heads_end (most_blocks - l.i) c.args.d.now l.at e), omega arith)

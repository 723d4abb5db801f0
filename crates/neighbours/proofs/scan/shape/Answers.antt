use Prim.Native.Nat.{◌-◌}
use mathlib.Core.Path.{refl, sym, ◌∙◌, ap}
use lib.ListN.{length}
use native.Mathlib.Omega.{arith}
use Rattle.adjacency.specs.Work.{is_bond}
use Rattle.adjacency.specs.Turns.{one_at_most, shaped_none, shaped_last, shaped_more}
use Rattle.neighbours.proofs.scan.shape.Goals as goal
use Rattle.std.specs.Prelude.{Err}
use Rattle.reply.specs.Read.{as_result}

pub loop-x-init : goal.loop-x-init
loop-x-init c = (refl, c.requires, omega arith)

pub returns-then-text-x : goal.returns-then-text-x
returns-then-text-x c =
    let l = c.loop-x in
    let t = c.args.text.now in
    ap Err c.at.ensures ∙ ap as_result (sym (l.invariant.0 ∙ shaped_none (length t) l.k l.label (c.number-x.ensures.past c.if-text-x.true)))

pub last-requires : goal.last-requires
last-requires c = (c.number-x.ensures.here c.if-text-x.false).within

pub returns-then-is_last : goal.returns-then-is_last
returns-then-is_last c =
    let l = c.loop-x in
    let t = c.args.text.now in
    let x = c.number-x.ensures.here c.if-text-x.false in
    c.last.ensures ∙ ap as_result (sym (l.invariant.0 ∙ shaped_last (length t) l.k l.label x.same (sym c.is_last.ensures ∙ c.if-is_last.true)))

pub overflow_add-k : goal.overflow_add-k
overflow_add-k c = record { fits = let l = c.loop-x in omega (arith, l.invariant.1, l.invariant.2, c.one_if_bond-k.ensures, one_at_most (is_bond l.label c.number-x.result.value)) }

pub loop-x-smaller : goal.loop-x-smaller
loop-x-smaller c = let x = c.number-x.ensures.here c.if-text-x.false in omega arith

pub loop-x-preserved : goal.loop-x-preserved
loop-x-preserved c =
    let l = c.loop-x in
    let t = c.args.text.now in
    let x = c.number-x.ensures.here c.if-text-x.false in
    let o = one_at_most (is_bond l.label c.number-x.result.value) in (
      l.invariant.0 ∙ shaped_more (length t) l.k l.label x.same (sym c.is_last.ensures ∙ c.if-is_last.false) ∙ rw (c.label_after-label.ensures, c.one_if_bond-k.ensures),
      x.within,
      omega (arith, l.invariant.2, x.later, c.one_if_bond-k.ensures),
    )

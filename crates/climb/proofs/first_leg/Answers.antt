use Prim.Native.Nat.{ℕ}
use mathlib.Core.Path.{ap}
use native.Mathlib.Omega.{arith}
use Rattle.climb.specs.Far.{far_by}
use Rattle.climb.specs.Steps.{earlier_low, within_one, from_later}
use Rattle.climb.proofs.first_leg.Goals as goal

-- `climb::first_leg` meets its contract. Assumes nothing.
pub returns-then-k-l : goal.returns-then-k-l
returns-then-k-l c =
    let a = c.args in
    let q = c.placement_at-q in
    record {
      few = omega (arith, c.inside.ensures.1);
      all = λ e. omega (arith, c.inside.ensures.0, within_one a.book.now a.xs.now a.k a.i a.l a.j c.requires e q.result q.ensures);
      low = λ h. absurd (omega (arith, h, c.if-k-l.true));
      rest = λ h. absurd (omega (arith, h, c.if-k-l.true));
    }

pub returns : goal.returns
returns c =
    let a = c.args in
    let q = c.placement_at-q in
    let onto = c.earlier-onto in
    let here = c.inside-bonds.ensures in
    record {
      few = omega (arith, here.1);
      all = λ e. absurd (c.if-k-l.false e);
      low = λ h. omega (arith, onto.ensures, earlier_low q.result.parent a.k (omega (arith, h)));
      rest = λ h. omega (
        arith,
        here.0,
        ap (λ (x : ℕ). far_by a.book.now a.xs.now x q.result.site a.l a.j) onto.ensures,
        from_later a.book.now a.xs.now a.k a.i a.l a.j c.requires h q.result q.ensures,
      );
    }

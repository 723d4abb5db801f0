use Prim.Native.Nat.{ℕ, suc, ◌-◌}
use mathlib.Core.Path.{◌≡◌, refl, ◌∙◌, subst}
use native.Mathlib.Omega.{arith}
use lib.ListN.{length-set}
use Rattle.library.proofs.Choosing.{Chosen, choose_next, choose_end}
use Rattle.library.proofs.choice.choose.Goals as goal

pub loop-k-init : goal.loop-k-init
loop-k-init c = (omega arith, refl, λ t a e. e)

pub nonzero_rem-digits : goal.nonzero_rem-digits
nonzero_rem-digits c = c.requires.1 (c.loop-k.k - 1) (omega arith)

pub nonzero_div-p : goal.nonzero_div-p
nonzero_div-p c = c.requires.1 (c.loop-k.k - 1) (omega arith)

pub loop-k-preserved : goal.loop-k-preserved
loop-k-preserved c = let a = c.args in let l = c.loop-k in
    let e : l.k ≡ suc (l.k - 1) = omega arith in (
      omega (arith, l.invariant.0),
      length-set l.digits (l.k - 1) _ ∙ l.invariant.1,
      choose_next a.sites a.n a.position l.digits (l.k - 1) l.p (omega (arith, l.invariant.0, l.invariant.1, c.requires.0)) (subst (λ (k : ℕ). Chosen a.sites a.n a.position l.digits k l.p) e l.invariant.2),
    )

pub returns : goal.returns
returns c = let a = c.args in let l = c.loop-k in
    let e : l.k ≡ 0 = omega arith in
    choose_end a.sites a.n a.position l.digits l.p (subst (λ (k : ℕ). Chosen a.sites a.n a.position l.digits k l.p) e l.invariant.2)

use Prim.Native.Nat.{ℕ, suc, ◌-◌}
use mathlib.Core.Path.{◌≡◌, refl, sym, ◌∙◌, ap}
use native.Mathlib.Omega.{arith}
use Rattle.catalogue.specs.Library.{is_taken}
use Rattle.catalogue.specs.Table.{sites_in}
use Rattle.catalogue.proofs.Turns.{taken_here, taken_before, none_taken}
use Rattle.catalogue.proofs.sites.is_taken.Goals as goal
use Rattle.catalogue.proofs.sites.is_taken.Goals.{In-loop-k}

-- what is left to do, one site at least
left : (c : In-loop-k) → let a = c.args in is_taken (sites_in a.sites a.n) a.atom ≡ is_taken (sites_in a.sites (suc (c.loop-k.k - 1))) a.atom
left c = let a = c.args in
    let e : c.loop-k.k ≡ suc (c.loop-k.k - 1) = omega arith in
    c.loop-k.invariant.1 ∙ ap (λ (n : ℕ). is_taken (sites_in a.sites n) a.atom) e

pub loop-k-init : goal.loop-k-init
loop-k-init c = (omega arith, refl)

pub returns-then-s-atom : goal.returns-then-s-atom
returns-then-s-atom c = let a = c.args in let k = c.loop-k.k in sym (left (goal.at.returns-then-s-atom c).In-loop-k ∙ taken_here a.sites (k - 1) a.atom c.if-s-atom.true)

pub loop-k-preserved : goal.loop-k-preserved
loop-k-preserved c = let a = c.args in let k = c.loop-k.k in (omega arith, left (goal.at.loop-k-preserved c).In-loop-k ∙ taken_before a.sites (k - 1) a.atom c.if-s-atom.false)

pub returns : goal.returns
returns c = let a = c.args in let e : c.loop-k.k ≡ 0 = omega arith in sym (c.loop-k.invariant.1 ∙ ap (λ (n : ℕ). is_taken (sites_in a.sites n) a.atom) e ∙ none_taken a.sites a.atom)

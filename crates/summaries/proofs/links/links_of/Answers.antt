use Prim.Native.Nat.{ℕ, ◌-◌, ◌<◌}
use mathlib.Core.Path.{◌≡◌, ◌∙◌, ap, subst}
use native.Mathlib.Omega.{arith}
use borrow.Author.Rules.{rules}
use Rattle.assembly.specs.Placements.{most_placements, placement_at}
use Rattle.assembly.specs.declared.Placement.{Placement}
use Rattle.summaries.specs.Ready.{LinkedUpTo}
use Rattle.summaries.proofs.Linking.{linked_more}
use Rattle.summaries.proofs.links.links_of.Goals as goal
use Rattle.summaries.proofs.links.links_of.Goals.{In-loop-k}

pub loop-k-init : goal.loop-k-init
loop-k-init c = record { size = search rules; block = λ m h. absurd (omega arith); home = λ m h. absurd (omega arith); join = λ m h. absurd (omega arith) }

few : (c : In-loop-k) → c.loop-k.k < most_placements
few c = let p = c.requires in omega (arith, p, c.loop-k-test.true)

pub loop-k-preserved : goal.loop-k-preserved
loop-k-preserved c =
    let a = c.args in
    let i = c.loop-k.invariant in
    let q = c.placement_at-q.ensures in
    linked_more _ i.size c.loop-k.k _ _ _ (few (goal.at.loop-k-preserved c).In-loop-k) i
    (c.key.ensures.0 ∙ ap (λ (x : Placement). x.block) q)
    (c.key.ensures.1 ∙ ap (λ (x : Placement). x.own) q)
    (c.key-in-loop-k.ensures.0 ∙ c.block_of.ensures ∙ ap (λ (x : Placement). (placement_at a.xs.now (x.parent - 1)).block) q)
    (c.key-in-loop-k.ensures.1 ∙ ap (λ (x : Placement). x.site) q)
    (ap (λ (x : Placement). x.parent) q)

pub returns : goal.returns
returns c =
    let a = c.args in
    let e : c.loop-k.k ≡ a.count = omega (arith, c.loop-k-test.false) in
    subst (λ (n : ℕ). LinkedUpTo a.xs.now c.loop-k.links n) e c.loop-k.invariant

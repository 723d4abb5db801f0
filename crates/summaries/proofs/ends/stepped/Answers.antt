use Prim.Native.Nat.{ℕ, ◌+◌, ◌-◌, ◌%◌, ◌<◌}
use mathlib.Core.List.{List}
use mathlib.Core.Logic.{⊎_elim}
use mathlib.Core.Path.{sym, ◌∙◌, ap, subst⁻¹}
use native.Mathlib.Omega.{arith}
use borrow.Author.Rules.{rules}
use lib.ListN.{length, get_or, length-set}
use Rattle.graph.specs.Graph.{Within}
use Rattle.block.specs.Block.{most_atoms}
use Rattle.assembly.specs.Placements.{most_placements}
use Rattle.summaries.specs.Ready.{joins_in}
use Rattle.summaries.specs.Ends.{Stepped}
use Rattle.summaries.proofs.Ports.{fit}
use Rattle.summaries.proofs.Storing.{step_none, step_past, step_put, steps_at}
use Rattle.summaries.proofs.ends.stepped.Goals as goal
use Rattle.summaries.proofs.ends.stepped.Goals.{In-loop-z}

pub loop-z-init : goal.loop-z-init
loop-z-init c = (search rules, step_none)

-- the placement at index z is joined, to an atom that is there
joined : (c : In-loop-z) → Within (c.args.count - 1) c.loop-z.z
joined c = let p = c.requires in omega (arith, p.1, c.loop-z-test.true)

few : (c : In-loop-z) → c.loop-z.z < most_placements
few c = omega (arith, c.requires.0.few, c.loop-z-test.true)

site : (c : In-loop-z) → Within most_atoms (joins_in c.args.links.now c.loop-z.z).site
site c = omega (arith, (fit c.requires.0 (joined c)).site)

pub parent_of-requires : goal.parent_of-requires
parent_of-requires c = few (goal.at.parent_of-requires c).In-loop-z

pub bounds-row-z : goal.bounds-row-z
bounds-row-z c = few (goal.at.bounds-row-z c).In-loop-z

pub loop-z-preserved : goal.loop-z-preserved
loop-z-preserved c =
    let a = c.args in
    let i = c.loop-z.invariant in
    let z = c.loop-z.z in
    let S : List ℕ → Type 0 = λ r. Stepped a.links.now (z + 1) a.from.now a.home a.old r in (
      ⊎_elim (λ p. ap length p.row-is ∙ length-set c.loop-z.row z _ ∙ i.0) (λ p. ap length p.row-is ∙ i.0) c.if-parent_of-home.branch-raw,
      ⊎_elim
          (λ p.
          let v = ap (λ (x : ℕ). get_or a.from.now (x % 256 - 1) 0) p.end_at-site.ensures.0 ∙ sym (steps_at a.from.now _ (site (goal.at.loop-z-preserved c).In-loop-z)) in
          subst⁻¹ S p.row-is (step_put z _ (omega (arith, i.0, few (goal.at.loop-z-preserved c).In-loop-z)) (sym c.parent_of.ensures.0 ∙ p.if-parent_of-home.true) v i.1))
          (λ p. subst⁻¹ S p.row-is (step_past z (λ e. p.if-parent_of-home.false (c.parent_of.ensures.0 ∙ e)) i.1))
          c.if-parent_of-home.branch-raw,
    )

pub returns : goal.returns
returns c =
    let a = c.args in
    let s = c.loop-z.invariant.1 in
    record { here = λ z l h e. s.here z l (omega (arith, h, c.loop-z-test.false)) e; kept = s.kept }

use mathlib.Core.Bool.{false}
use mathlib.Core.Logic.{⊎_elim}
use mathlib.Core.Path.{◌≡◌, sym, ap, ◌∙◌}
use lib.Dec.{eqb, leb}
use borrow.Author.Tests.{eq-eqb, ne_eqb}
use Rattle.graph.specs.Graph.{any_joins}
use Rattle.reply.specs.Read.{is_outside}
use Rattle.block.specs.Block.{limit, bonds_of}
use Rattle.block.specs.Faults.{three, three', four, five, six, six', none}
use Rattle.block.proofs.Reading.{full, roomy}
use Rattle.block.proofs.bonding.fault.Goals as goal
use Rattle.block.proofs.bonding.fault.Goals.{Else-a-b, Else-is_listed, Else-is_outside-2}

pub returns-then-is_outside : goal.returns-then-is_outside
returns-then-is_outside c =
    let first = sym c.is_outside.ensures in
    ⊎_elim (λ t. three _ _ _ _ (first ∙ t.if-is_outside.true)) (λ t. three' _ _ _ _ (first ∙ t.if-is_outside.false) (sym t.is_outside-else-is_outside.ensures ∙ t.if-is_outside-2.true)) c.then-is_outside.branch-raw

-- what has passed at each place: the ends, that they differ, that the bond is new
one : (c : Else-is_outside-2) → let s = c.args in is_outside s.n s.a ≡ false
one c = sym c.is_outside.ensures ∙ c.if-is_outside.false

two : (c : Else-is_outside-2) → let s = c.args in is_outside s.n s.b ≡ false
two c = sym c.is_outside-else-is_outside.ensures ∙ c.if-is_outside-2.false

pub returns-then-a-b : goal.returns-then-a-b
returns-then-a-b c = four _ _ _ _ (one (goal.at.returns-then-a-b c).Else-is_outside-2) (two (goal.at.returns-then-a-b c).Else-is_outside-2) (eq-eqb _ _ c.if-a-b.true)

differ : (c : Else-a-b) → let s = c.args in eqb s.a s.b ≡ false
differ c = ne_eqb _ _ c.if-a-b.false

pub returns-then-is_listed : goal.returns-then-is_listed
returns-then-is_listed c =
    five _ _ _ _ (one (goal.at.returns-then-is_listed c).Else-is_outside-2) (two (goal.at.returns-then-is_listed c).Else-is_outside-2) (differ (goal.at.returns-then-is_listed c).Else-a-b) (sym c.is_listed.ensures ∙ c.if-is_listed.true)

new : (c : Else-is_listed) → let s = c.args in any_joins (bonds_of s.before.now) s.a s.b ≡ false
new c = sym c.is_listed.ensures ∙ c.if-is_listed.false

pub returns-then-degree_of-ge-LIMIT : goal.returns-then-degree_of-ge-LIMIT
returns-then-degree_of-ge-LIMIT c =
    let e = new (goal.at.returns-then-degree_of-ge-LIMIT c).Else-is_listed in
    let first = c.degree_of.ensures.0 in
    ⊎_elim (λ t. six _ _ _ _ (one (goal.at.returns-then-degree_of-ge-LIMIT c).Else-is_outside-2) (two (goal.at.returns-then-degree_of-ge-LIMIT c).Else-is_outside-2) (differ (goal.at.returns-then-degree_of-ge-LIMIT c).Else-a-b) e (full first t.if-degree_of-ge-LIMIT.true))
    (λ t. six' _ _ _ _ (one (goal.at.returns-then-degree_of-ge-LIMIT c).Else-is_outside-2) (two (goal.at.returns-then-degree_of-ge-LIMIT c).Else-is_outside-2) (differ (goal.at.returns-then-degree_of-ge-LIMIT c).Else-a-b) e (roomy first t.if-degree_of-ge-LIMIT.false) (sym (ap (leb limit) t.degree_of-else-degree_of-ge-LIMIT.ensures.0) ∙ t.if-degree_of-ge-LIMIT-2.true-raw)) c.then-degree_of-ge-LIMIT.branch-raw

pub returns : goal.returns
returns c =
    none _ _ _ _ (one (goal.at.returns c).Else-is_outside-2) (two (goal.at.returns c).Else-is_outside-2) (differ (goal.at.returns c).Else-a-b) (new (goal.at.returns c).Else-is_listed) (roomy c.degree_of.ensures.0 c.if-degree_of-ge-LIMIT.false)
    (sym (ap (leb limit) c.degree_of-else-degree_of-ge-LIMIT.ensures.0) ∙ c.if-degree_of-ge-LIMIT-2.false-raw)

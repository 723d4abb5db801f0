use Prim.Native.Nat.{ℕ}
use mathlib.Core.Bool.{false}
use mathlib.Core.Path.{◌≡◌, sym, ap, ◌∙◌}
use native.Mathlib.Omega.{arith}
use borrow.Author.Tests.{le-leb, lt-leb}
use Rattle.graph.specs.Assembly.{Join}
use Rattle.reply.specs.Read.{is_outside}
use Rattle.block.specs.Block.{limit}
use Rattle.block.specs.Faults.{inside}
use Rattle.assembly.specs.Placements.{placement_at, join_of, join_on, is_full}
use Rattle.assembly.specs.declared.Placement.{Placement}
use Rattle.assembly.proofs.Faults.{no_site, no_own, full_site, full_own, joins_well}
use Rattle.assembly.proofs.Walks.{stands}
use Rattle.assembly.proofs.join_fault.Goals as goal
use Rattle.assembly.proofs.join_fault.Goals.{After-is_full, After-is_outside, After-is_outside-2, Else-is_full, Else-is_outside, Else-is_outside-2, Start}

-- `assembly::join_fault` meets its contract. Assumes nothing.
abbrev joins : Start → ℕ → Join
joins s = join_on (placement_at s.args.xs.now)

abbrev joins-in-After-is_outside : After-is_outside → ℕ → Join
joins-in-After-is_outside s = join_on (placement_at s.args.xs.now)

abbrev joins-in-Else-is_outside : Else-is_outside → ℕ → Join
joins-in-Else-is_outside s = join_on (placement_at s.args.xs.now)

abbrev joins-in-After-is_outside-2 : After-is_outside-2 → ℕ → Join
joins-in-After-is_outside-2 s = join_on (placement_at s.args.xs.now)

abbrev joins-in-Else-is_outside-2 : Else-is_outside-2 → ℕ → Join
joins-in-Else-is_outside-2 s = join_on (placement_at s.args.xs.now)

abbrev joins-in-After-is_full : After-is_full → ℕ → Join
joins-in-After-is_full s = join_on (placement_at s.args.xs.now)

abbrev joins-in-Else-is_full : Else-is_full → ℕ → Join
joins-in-Else-is_full s = join_on (placement_at s.args.xs.now)

site-is : (c : After-is_outside) → c.is_outside.result ≡ is_outside c.args.there.atoms (joins-in-After-is_outside c c.args.k).site
unfolding join_of
site-is c = c.is_outside.ensures ∙ ap (λ (q : Placement). is_outside c.args.there.atoms q.site) c.placement_at-q.ensures

site-is-in-Else-is_outside : (c : Else-is_outside) → c.is_outside.result ≡ is_outside c.args.there.atoms (joins-in-Else-is_outside c c.args.k).site
unfolding join_of
site-is-in-Else-is_outside c = c.is_outside.ensures ∙ ap (λ (q : Placement). is_outside c.args.there.atoms q.site) c.placement_at-q.ensures

own_is : (c : After-is_outside-2) → c.is_outside-2.result ≡ is_outside c.args.here.atoms (joins-in-After-is_outside-2 c c.args.k).own
unfolding join_of
own_is c = c.is_outside-2.ensures ∙ ap (λ (q : Placement). is_outside c.args.here.atoms q.own) c.placement_at-q.ensures

own_is-in-Else-is_outside-2 : (c : Else-is_outside-2) → c.is_outside-2.result ≡ is_outside c.args.here.atoms (joins-in-Else-is_outside-2 c c.args.k).own
unfolding join_of
own_is-in-Else-is_outside-2 c = c.is_outside-2.ensures ∙ ap (λ (q : Placement). is_outside c.args.here.atoms q.own) c.placement_at-q.ensures

full_is : (c : After-is_full) → c.is_full.result ≡ is_full c.args.there.ends (joins-in-After-is_full c) c.args.k (joins-in-After-is_full c c.args.k).parent (joins-in-After-is_full c c.args.k).site
unfolding join_of
full_is c = c.is_full.ensures ∙ ap (λ (q : Placement). is_full c.args.there.ends (joins-in-After-is_full c) c.args.k q.parent q.site) c.placement_at-q.ensures

full_is-in-Else-is_full : (c : Else-is_full) → c.is_full.result ≡ is_full c.args.there.ends (joins-in-Else-is_full c) c.args.k (joins-in-Else-is_full c c.args.k).parent (joins-in-Else-is_full c c.args.k).site
unfolding join_of
full_is-in-Else-is_full c = c.is_full.ensures ∙ ap (λ (q : Placement). is_full c.args.there.ends (joins-in-Else-is_full c) c.args.k q.parent q.site) c.placement_at-q.ensures

has-site : (c : Else-is_outside) → is_outside c.args.there.atoms (joins-in-Else-is_outside c c.args.k).site ≡ false
has-site c = sym (site-is-in-Else-is_outside c) ∙ c.if-is_outside.false

has-own : (c : Else-is_outside-2) → is_outside c.args.here.atoms (joins-in-Else-is_outside-2 c c.args.k).own ≡ false
has-own c = sym (own_is-in-Else-is_outside-2 c) ∙ c.if-is_outside-2.false

free : (c : Else-is_full) → is_full c.args.there.ends (joins-in-Else-is_full c) c.args.k (joins-in-Else-is_full c c.args.k).parent (joins-in-Else-is_full c c.args.k).site ≡ false
free c = sym (full_is-in-Else-is_full c) ∙ c.if-is_full.false

pub returns-then-is_outside : goal.returns-then-is_outside
returns-then-is_outside c = let a = c.args in sym (no_site a.there a.here (joins (goal.at.returns-then-is_outside c).Start) a.k (sym (site-is (goal.at.returns-then-is_outside c).After-is_outside) ∙ c.if-is_outside.true))

pub returns-then-is_outside-2 : goal.returns-then-is_outside-2
returns-then-is_outside-2 c = let a = c.args in sym (no_own a.there a.here (joins (goal.at.returns-then-is_outside-2 c).Start) a.k (has-site (goal.at.returns-then-is_outside-2 c).Else-is_outside) (sym (own_is (goal.at.returns-then-is_outside-2 c).After-is_outside-2) ∙ c.if-is_outside-2.true))

pub is_full-requires : goal.is_full-requires
unfolding join_of
is_full-requires c =
    let a = c.args in
    let site = inside a.there.atoms (placement_at a.xs.now a.k).site (has-site (goal.at.is_full-requires c).Else-is_outside) in
    omega (arith, stands a.xs.now a.k (λ e. omega (arith, e, site)))

pub returns-then-is_full : goal.returns-then-is_full
returns-then-is_full c = let a = c.args in sym (full_site a.there a.here (joins (goal.at.returns-then-is_full c).Start) a.k (has-site (goal.at.returns-then-is_full c).Else-is_outside) (has-own (goal.at.returns-then-is_full c).Else-is_outside-2) (sym (full_is (goal.at.returns-then-is_full c).After-is_full) ∙ c.if-is_full.true))

pub returns-then-here-ge-LIMIT : goal.returns-then-here-ge-LIMIT
returns-then-here-ge-LIMIT c = let a = c.args in sym (full_own a.there a.here (joins (goal.at.returns-then-here-ge-LIMIT c).Start) a.k (has-site (goal.at.returns-then-here-ge-LIMIT c).Else-is_outside) (has-own (goal.at.returns-then-here-ge-LIMIT c).Else-is_outside-2) (free (goal.at.returns-then-here-ge-LIMIT c).Else-is_full) (le-leb limit a.here.ends (omega (arith, c.if-here-ge-LIMIT.true))))

pub returns : goal.returns
returns c = let a = c.args in sym (joins_well a.there a.here (joins (goal.at.returns c).Start) a.k (has-site (goal.at.returns c).Else-is_outside) (has-own (goal.at.returns c).Else-is_outside-2) (free (goal.at.returns c).Else-is_full) (lt-leb limit a.here.ends (omega (arith, c.if-here-ge-LIMIT.false))))

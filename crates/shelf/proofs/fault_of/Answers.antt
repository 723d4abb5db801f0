use Prim.Native.Nat.{ℕ, ◌-◌}
use mathlib.Core.Bool.{true}
use mathlib.Core.Path.{◌≡◌, sym, ap, ap₂, ◌∙◌}
use native.Mathlib.Omega.{arith}
use borrow.Author.Tests.{lt-ltb, le-ltb}
use Rattle.reply.specs.Read.{is_outside}
use Rattle.block.specs.Faults.{inside}
use Rattle.assembly.specs.Placements.{placement_at, atom_site, Shelf, first_fault, parent_fault, join_fault, join_on, sites_on, later_fault, fault}
use Rattle.assembly.specs.declared.Placement.{Placement}
use Rattle.assembly.specs.declared.JoinSite.{JoinSite}
use Rattle.assembly.proofs.Faults.{no_parent, has_parent, no_block_lem, is_first, is_later}
use Rattle.shelf.specs.Shelf.{summary_at, places_in, place_of, sites_in, shelf_in}
use Rattle.shelf.proofs.fault_of.Goals as goal
use Rattle.shelf.proofs.fault_of.Goals.{After-is_outside, After-place_of-i, After-site_at, After-site_at-2, Else-book-i, Else-k-eq0, Start}

-- `shelf::fault_of` meets its contract. Assumes nothing.
abbrev placed : Start → ℕ → Placement
placed s = placement_at s.args.xs.now

abbrev placed-in-After-place_of-i : After-place_of-i → ℕ → Placement
placed-in-After-place_of-i s = placement_at s.args.xs.now

abbrev placed-in-Else-book-i : Else-book-i → ℕ → Placement
placed-in-Else-book-i s = placement_at s.args.xs.now

abbrev placed-in-Else-k-eq0 : Else-k-eq0 → ℕ → Placement
placed-in-Else-k-eq0 s = placement_at s.args.xs.now

abbrev placed-in-After-is_outside : After-is_outside → ℕ → Placement
placed-in-After-is_outside s = placement_at s.args.xs.now

abbrev placed-in-After-site_at : After-site_at → ℕ → Placement
placed-in-After-site_at s = placement_at s.args.xs.now

abbrev placed-in-After-site_at-2 : After-site_at-2 → ℕ → Placement
placed-in-After-site_at-2 s = placement_at s.args.xs.now

abbrev shelf : Start → Shelf
shelf s = shelf_in s.args.book.now

abbrev shelf-in-Else-book-i : Else-book-i → Shelf
shelf-in-Else-book-i s = shelf_in s.args.book.now

abbrev shelf-in-Else-k-eq0 : Else-k-eq0 → Shelf
shelf-in-Else-k-eq0 s = shelf_in s.args.book.now

abbrev shelf-in-After-site_at : After-site_at → Shelf
shelf-in-After-site_at s = shelf_in s.args.book.now

abbrev shelf-in-After-site_at-2 : After-site_at-2 → Shelf
shelf-in-After-site_at-2 s = shelf_in s.args.book.now

place_is : (c : After-place_of-i) → c.place_of-i.result ≡ place_of c.args.book.now (placed-in-After-place_of-i c c.args.k).block
place_is c = c.place_of-i.ensures ∙ ap (λ (q : Placement). place_of c.args.book.now q.block) c.placement_at-q.ensures

place_is-in-Else-book-i : (c : Else-book-i) → c.place_of-i.result ≡ place_of c.args.book.now (placed-in-Else-book-i c c.args.k).block
place_is-in-Else-book-i c = c.place_of-i.ensures ∙ ap (λ (q : Placement). place_of c.args.book.now q.block) c.placement_at-q.ensures

place_is-in-Else-k-eq0 : (c : Else-k-eq0) → c.place_of-i.result ≡ place_of c.args.book.now (placed-in-Else-k-eq0 c c.args.k).block
place_is-in-Else-k-eq0 c = c.place_of-i.ensures ∙ ap (λ (q : Placement). place_of c.args.book.now q.block) c.placement_at-q.ensures

place_is-in-After-site_at-2 : (c : After-site_at-2) → c.place_of-i.result ≡ place_of c.args.book.now (placed-in-After-site_at-2 c c.args.k).block
place_is-in-After-site_at-2 c = c.place_of-i.ensures ∙ ap (λ (q : Placement). place_of c.args.book.now q.block) c.placement_at-q.ensures

has : (c : Else-book-i) → (shelf-in-Else-book-i c).has (placed-in-Else-book-i c c.args.k).block ≡ true
has c = lt-ltb (place_of c.args.book.now (placed-in-Else-book-i c c.args.k).block) (places_in c.args.book.now) (omega (arith, place_is-in-Else-book-i c, c.if-book-i.false))

has-in-Else-k-eq0 : (c : Else-k-eq0) → (shelf-in-Else-k-eq0 c).has (placed-in-Else-k-eq0 c c.args.k).block ≡ true
has-in-Else-k-eq0 c = lt-ltb (place_of c.args.book.now (placed-in-Else-k-eq0 c c.args.k).block) (places_in c.args.book.now) (omega (arith, place_is-in-Else-k-eq0 c, c.if-book-i.false))

-- with a later placement
later : (c : Else-k-eq0) → fault (shelf-in-Else-k-eq0 c) (placed-in-Else-k-eq0 c) c.args.k ≡ later_fault (shelf-in-Else-k-eq0 c) (placed-in-Else-k-eq0 c) c.args.k
later c = is_later (shelf-in-Else-k-eq0 c) (placed-in-Else-k-eq0 c) c.args.k (has-in-Else-k-eq0 c) c.if-k-eq0.false

outside-is : (c : After-is_outside) → c.is_outside.result ≡ is_outside c.args.k (placed-in-After-is_outside c c.args.k).parent
outside-is c = c.is_outside.ensures ∙ ap (λ (q : Placement). is_outside c.args.k q.parent) c.placement_at-q.ensures

-- what is asked of both blocks
there-site : (c : After-site_at) → let q = placed-in-After-site_at c c.args.k in c.site_at.result ≡ atom_site (sites_on (shelf-in-After-site_at c) (placed-in-After-site_at c) (q.parent - 1)) q.site
there-site c =
    let q = c.placement_at-q in
    c.site_at.ensures
    ∙ ap (λ (x : ℕ). atom_site (sites_in (summary_at c.args.book.now x)) q.result.site) c.place_of.ensures
    ∙ ap (λ (o : Placement). atom_site ((shelf-in-After-site_at c).sites o.block) q.result.site) c.placement_at-onto.ensures
    ∙ ap (λ (q : Placement). atom_site (sites_on (shelf-in-After-site_at c) (placed-in-After-site_at c) (q.parent - 1)) q.site) q.ensures

here-site : (c : After-site_at-2) → let q = placed-in-After-site_at-2 c c.args.k in c.site_at-2.result ≡ atom_site (sites_on (shelf-in-After-site_at-2 c) (placed-in-After-site_at-2 c) c.args.k) q.own
here-site c =
    c.site_at-2.ensures
    ∙ ap₂ (λ (x : ℕ) (q : Placement). atom_site (sites_in (summary_at c.args.book.now x)) q.own) (place_is-in-After-site_at-2 c) c.placement_at-q.ensures

pub returns-then-book-i : goal.returns-then-book-i
returns-then-book-i c = sym (no_block_lem (shelf (goal.at.returns-then-book-i c).Start) (placed (goal.at.returns-then-book-i c).Start) c.args.k (le-ltb (place_of c.args.book.now (placed (goal.at.returns-then-book-i c).Start c.args.k).block) (places_in c.args.book.now) (omega (arith, place_is (goal.at.returns-then-book-i c).After-place_of-i, c.if-book-i.true))))

pub returns-then-k-eq0 : goal.returns-then-k-eq0
returns-then-k-eq0 c = c.first_fault.ensures ∙ ap first_fault c.placement_at-q.ensures ∙ sym (is_first (shelf (goal.at.returns-then-k-eq0 c).Start) (placed (goal.at.returns-then-k-eq0 c).Start) c.args.k (has (goal.at.returns-then-k-eq0 c).Else-book-i) c.if-k-eq0.true)

pub returns-then-is_outside : goal.returns-then-is_outside
returns-then-is_outside c = c.parent_fault.ensures
    ∙ ap (λ (q : Placement). parent_fault q.parent) c.placement_at-q.ensures
    ∙ sym (later (goal.at.returns-then-is_outside c).Else-k-eq0 ∙ no_parent (shelf (goal.at.returns-then-is_outside c).Start) (placed (goal.at.returns-then-is_outside c).Start) c.args.k (sym (outside-is (goal.at.returns-then-is_outside c).After-is_outside) ∙ c.if-is_outside.true))

pub overflow_sub-parent : goal.overflow_sub-parent
overflow_sub-parent c = (inside c.args.k c.placement_at-q.result.parent (sym c.is_outside.ensures ∙ c.if-is_outside.false)).low

pub returns : goal.returns
returns c = c.join_fault.ensures
    ∙ ap₂ (λ (t h : JoinSite). join_fault t h (join_on (placed (goal.at.returns c).Start)) c.args.k) (there-site (goal.at.returns c).After-site_at) (here-site (goal.at.returns c).After-site_at-2)
    ∙ sym (later (goal.at.returns c).Else-k-eq0 ∙ has_parent (shelf (goal.at.returns c).Start) (placed (goal.at.returns c).Start) c.args.k (sym (outside-is (goal.at.returns c).After-is_outside) ∙ c.if-is_outside.false))

use Prim.Native.Nat.{◌+◌, ◌≤◌}
use mathlib.Core.Bool.{false}
use mathlib.Core.List.{List}
use mathlib.Core.Path.{◌≡◌, sym, ◌∙◌, ap}
use native.Mathlib.Omega.{arith}
use lib.ListN.{length, take}
use Rattle.graph.specs.Graph.{Graph}
use Rattle.reply.specs.Read.{is_outside}
use Rattle.assembly.specs.Book.{Book, block_graph, book_of}
use Rattle.catalogue.specs.Library.{most_candidates, site_head, site_at, is_taken, candidates_fault}
use Rattle.catalogue.specs.Table.{sites_in}
use Rattle.catalogue.specs.declared.Site.{Site}
use Rattle.catalogue.proofs.Turns.{site_cut, site-many, site_outside, site_taken, site_free}
use Rattle.catalogue.proofs.sites.site_fault.Goals as goal
use Rattle.catalogue.proofs.sites.site_fault.Goals.{After-is_outside, After-is_outside-2, After-is_taken, Else-is_outside, Else-is_outside-2, Else-xs-p, Start}

-- `catalogue::sites::site_fault` meets its contract. Assumes nothing.
abbrev book : Start → Book
book s = book_of s.args.d.now (take s.args.count s.args.blocks)

abbrev core : Start → Graph
core s = block_graph s.args.d.now s.args.core

abbrev core-in-After-is_outside-2 : After-is_outside-2 → Graph
core-in-After-is_outside-2 s = block_graph s.args.d.now s.args.core

abbrev core-in-Else-is_outside-2 : Else-is_outside-2 → Graph
core-in-Else-is_outside-2 s = block_graph s.args.d.now s.args.core

abbrev done : Start → List Site
done s = sites_in s.args.sites s.args.n

abbrev done-in-After-is_taken : After-is_taken → List Site
done-in-After-is_taken s = sites_in s.args.sites s.args.n

whole : (c : Else-xs-p) → let a = c.args in a.p + site_head ≤ length a.xs.now
whole c = c.if-xs-p.false

many : (c : After-is_outside) → let a = c.args in c.is_outside.result ≡ is_outside most_candidates (site_at a.xs.now a.p).many
many c = c.is_outside.ensures ∙ ap (λ (x : Site). is_outside most_candidates x.many) c.site_at-s.ensures

many-in-Else-is_outside : (c : Else-is_outside) → let a = c.args in c.is_outside.result ≡ is_outside most_candidates (site_at a.xs.now a.p).many
many-in-Else-is_outside c = c.is_outside.ensures ∙ ap (λ (x : Site). is_outside most_candidates x.many) c.site_at-s.ensures

few : (c : Else-is_outside) → let a = c.args in is_outside most_candidates (site_at a.xs.now a.p).many ≡ false
few c = sym (many-in-Else-is_outside c) ∙ c.if-is_outside.false

outside : (c : After-is_outside-2) → let a = c.args in c.is_outside-2.result ≡ is_outside (core-in-After-is_outside-2 c).atoms (site_at a.xs.now a.p).atom
outside c = c.is_outside-2.ensures ∙ ap (λ (x : Site). is_outside (core-in-After-is_outside-2 c).atoms x.atom) c.site_at-s.ensures

outside-in-Else-is_outside-2 : (c : Else-is_outside-2) → let a = c.args in c.is_outside-2.result ≡ is_outside (core-in-Else-is_outside-2 c).atoms (site_at a.xs.now a.p).atom
outside-in-Else-is_outside-2 c = c.is_outside-2.ensures ∙ ap (λ (x : Site). is_outside (core-in-Else-is_outside-2 c).atoms x.atom) c.site_at-s.ensures

inside : (c : Else-is_outside-2) → let a = c.args in is_outside (core-in-Else-is_outside-2 c).atoms (site_at a.xs.now a.p).atom ≡ false
inside c = sym (outside-in-Else-is_outside-2 c) ∙ c.if-is_outside-2.false

taken : (c : After-is_taken) → let a = c.args in c.is_taken.result ≡ is_taken (done-in-After-is_taken c) (site_at a.xs.now a.p).atom
taken c = c.is_taken.ensures ∙ ap (λ (x : Site). is_taken (done-in-After-is_taken c) x.atom) c.site_at-s.ensures

pub returns-then-xs-p : goal.returns-then-xs-p
returns-then-xs-p c = let a = c.args in sym (site_cut (book (goal.at.returns-then-xs-p c).Start) (core (goal.at.returns-then-xs-p c).Start) a.xs.now (done (goal.at.returns-then-xs-p c).Start) a.p c.if-xs-p.true)

pub returns-then-is_outside : goal.returns-then-is_outside
returns-then-is_outside c = let a = c.args in sym (site-many (book (goal.at.returns-then-is_outside c).Start) (core (goal.at.returns-then-is_outside c).Start) a.xs.now (done (goal.at.returns-then-is_outside c).Start) a.p (whole (goal.at.returns-then-is_outside c).Else-xs-p) (sym (many (goal.at.returns-then-is_outside c).After-is_outside) ∙ c.if-is_outside.true))

pub returns-then-is_outside-2 : goal.returns-then-is_outside-2
returns-then-is_outside-2 c = let a = c.args in sym (site_outside (book (goal.at.returns-then-is_outside-2 c).Start) (core (goal.at.returns-then-is_outside-2 c).Start) a.xs.now (done (goal.at.returns-then-is_outside-2 c).Start) a.p (whole (goal.at.returns-then-is_outside-2 c).Else-xs-p) (few (goal.at.returns-then-is_outside-2 c).Else-is_outside) (sym (outside (goal.at.returns-then-is_outside-2 c).After-is_outside-2) ∙ c.if-is_outside-2.true))

pub returns-then-is_taken : goal.returns-then-is_taken
returns-then-is_taken c = let a = c.args in sym (site_taken (book (goal.at.returns-then-is_taken c).Start) (core (goal.at.returns-then-is_taken c).Start) a.xs.now (done (goal.at.returns-then-is_taken c).Start) a.p (whole (goal.at.returns-then-is_taken c).Else-xs-p) (few (goal.at.returns-then-is_taken c).Else-is_outside) (inside (goal.at.returns-then-is_taken c).Else-is_outside-2) (sym (taken (goal.at.returns-then-is_taken c).After-is_taken) ∙ c.if-is_taken.true))

pub candidates_fault-requires : goal.candidates_fault-requires
candidates_fault-requires c = omega (arith, whole (goal.at.candidates_fault-requires c).Else-xs-p, ap (λ (x : Site). x.first) c.site_at-s.ensures)

pub returns : goal.returns
returns c = let a = c.args in
    c.candidates_fault.ensures
    ∙ ap (λ (x : Site). candidates_fault (book (goal.at.returns c).Start) (core (goal.at.returns c).Start) a.xs.now x.atom x.many x.first) c.site_at-s.ensures
    ∙ sym (site_free (book (goal.at.returns c).Start) (core (goal.at.returns c).Start) a.xs.now (done (goal.at.returns c).Start) a.p (whole (goal.at.returns c).Else-xs-p) (few (goal.at.returns c).Else-is_outside) (inside (goal.at.returns c).Else-is_outside-2) (sym (taken (goal.at.returns c).After-is_taken) ∙ c.if-is_taken.false))

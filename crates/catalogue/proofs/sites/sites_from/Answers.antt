use Prim.Native.Nat.{ℕ, suc, ◌+◌, ◌*◌, ◌-◌, ◌≤◌}
use mathlib.Core.List.{List, [], ◌∷◌}
use mathlib.Core.Path.{◌≡◌, refl, sym, ◌∙◌, ap, ap₂}
use native.Mathlib.Omega.{arith}
use lib.ListN.{length, take, length-set, replicate}
use Rattle.graph.specs.Graph.{Graph}
use Rattle.reply.specs.Read.{refused, refusal}
use Rattle.assembly.specs.Book.{Book, block_graph, book_of}
use Rattle.catalogue.specs.Library.{most_sites, library_kind, site_at, site_end, site_fault, sites_from}
use Rattle.catalogue.specs.Said.{no_site, site_table, said_sites}
use Rattle.catalogue.specs.Table.{sites_in, sites_grow, table_none, table_grow}
use Rattle.catalogue.proofs.Sound.{stands}
use Rattle.catalogue.specs.declared.Site.{Site}
use Rattle.catalogue.proofs.Turns.{left_over, none_over, wrong_site, next_site, sites_said}
use Rattle.catalogue.proofs.sites.sites_from.Goals as goal
use Rattle.catalogue.proofs.sites.sites_from.Goals.{After-loop-n, After-wide_byte, Else-f-ne0, In-loop-n, Start}

abbrev book : Start → Book
book s = book_of s.args.d.now (take s.args.count s.args.blocks)

abbrev book-in-In-loop-n : In-loop-n → Book
book-in-In-loop-n s = book_of s.args.d.now (take s.args.count s.args.blocks)

abbrev book-in-After-loop-n : After-loop-n → Book
book-in-After-loop-n s = book_of s.args.d.now (take s.args.count s.args.blocks)

abbrev book-in-Else-f-ne0 : Else-f-ne0 → Book
book-in-Else-f-ne0 s = book_of s.args.d.now (take s.args.count s.args.blocks)

abbrev book-in-After-wide_byte : After-wide_byte → Book
book-in-After-wide_byte s = book_of s.args.d.now (take s.args.count s.args.blocks)

abbrev core : Start → Graph
core s = block_graph s.args.d.now s.args.core

abbrev core-in-In-loop-n : In-loop-n → Graph
core-in-In-loop-n s = block_graph s.args.d.now s.args.core

abbrev core-in-After-loop-n : After-loop-n → Graph
core-in-After-loop-n s = block_graph s.args.d.now s.args.core

abbrev core-in-Else-f-ne0 : Else-f-ne0 → Graph
core-in-Else-f-ne0 s = block_graph s.args.d.now s.args.core

abbrev core-in-After-wide_byte : After-wide_byte → Graph
core-in-After-wide_byte s = block_graph s.args.d.now s.args.core

start : (b : Book) (g : Graph) (xs : List ℕ) (at total p : ℕ) (table : List Site) → sites_from b g xs at total p [] ≡ sites_from b g xs at (total - 0) p (sites_in table 0)
unfolding sites_in
start b g xs at total p table = let z : total ≡ total - 0 = omega arith in ap (λ (n : ℕ). sites_from b g xs at n p []) z

blank : site_table [] ≡ replicate most_sites no_site
unfolding site_table
blank = refl

-- what is left to do, one site at least
left : (c : In-loop-n) → let a = c.args in let l = c.loop-n in
    sites_from (book-in-In-loop-n c) (core-in-In-loop-n c) a.xs.now a.at a.total library_kind.fixed [] ≡ sites_from (book-in-In-loop-n c) (core-in-In-loop-n c) a.xs.now a.at (suc (a.total - (l.n + 1))) l.p (sites_in l.sites l.n)
left c = let a = c.args in let l = c.loop-n in
    let e : a.total - l.n ≡ suc (a.total - (l.n + 1)) = omega arith in
    l.invariant.4 ∙ ap (λ (n : ℕ). sites_from (book-in-In-loop-n c) (core-in-In-loop-n c) a.xs.now a.at n l.p (sites_in l.sites l.n)) e

-- all sites are read
over : (c : After-loop-n) → let a = c.args in let l = c.loop-n in
    sites_from (book-in-After-loop-n c) (core-in-After-loop-n c) a.xs.now a.at a.total library_kind.fixed [] ≡ sites_from (book-in-After-loop-n c) (core-in-After-loop-n c) a.xs.now a.at 0 l.p (sites_in l.sites l.n)
over c = let a = c.args in let l = c.loop-n in
    let e : a.total - l.n ≡ 0 = omega arith in
    l.invariant.4 ∙ ap (λ (n : ℕ). sites_from (book-in-After-loop-n c) (core-in-After-loop-n c) a.xs.now a.at n l.p (sites_in l.sites l.n)) e

fine : (c : Else-f-ne0) → let a = c.args in let l = c.loop-n in site_fault (book-in-Else-f-ne0 c) (core-in-Else-f-ne0 c) a.xs.now (sites_in l.sites l.n) l.p ≡ 0
fine c = sym c.site_fault-f.ensures ∙ c.if-f-ne0.false

fine-in-After-wide_byte : (c : After-wide_byte) → let a = c.args in let l = c.loop-n in site_fault (book-in-After-wide_byte c) (core-in-After-wide_byte c) a.xs.now (sites_in l.sites l.n) l.p ≡ 0
fine-in-After-wide_byte c = sym c.site_fault-f.ensures ∙ c.if-f-ne0.false

-- where the next site starts
ended : (c : After-wide_byte) → let a = c.args in let l = c.loop-n in
    c.site_at-s.result.first + 3 * c.wide_byte.result ≡ site_end (site_at a.xs.now l.p)
ended c =
    let x = c.site_at-s.result in
    ap (λ (n : ℕ). x.first + 3 * n) c.wide_byte.ensures.0 ∙ ap site_end c.site_at-s.ensures

end : (c : After-wide_byte) → c.site_at-s.result.first + 3 * c.wide_byte.result ≤ length c.args.xs.now
end c = let l = c.loop-n in
    omega (arith, ended c, (stands (book-in-After-wide_byte c) (core-in-After-wide_byte c) c.args.xs.now (sites_in l.sites l.n) l.p (fine-in-After-wide_byte c)).0.within)

pub loop-n-init : goal.loop-n-init
loop-n-init c = let a = c.args in let z : a.total - 0 ≡ a.total = omega arith in (omega arith, c.requires.1, refl, table_none _ blank, start (book (goal.at.loop-n-init c).Start) (core (goal.at.loop-n-init c).Start) a.xs.now a.at a.total library_kind.fixed _)

pub site_fault-f-requires : goal.site_fault-f-requires
site_fault-f-requires c = let l = c.loop-n in let p = c.requires in (l.invariant.1, omega (arith, p.0))

pub returns-then-f-ne0 : goal.returns-then-f-ne0
returns-then-f-ne0 c = let a = c.args in let l = c.loop-n in let f = c.site_fault-f.ensures in
    c.sites_refused.ensures ∙ ap (λ (n : ℕ). said_sites (refused (refusal n a.at))) f ∙ ap said_sites (sym (left (goal.at.returns-then-f-ne0 c).In-loop-n ∙ wrong_site (book (goal.at.returns-then-f-ne0 c).Start) (core (goal.at.returns-then-f-ne0 c).Start) a.xs.now (sites_in l.sites l.n) l.p a.at (a.total - (l.n + 1)) (λ e. c.if-f-ne0.true (f ∙ e))))

pub site_at-s-requires : goal.site_at-s-requires
site_at-s-requires c = c.loop-n.invariant.1

pub offset_bounds-sites-n : goal.offset_bounds-sites-n
offset_bounds-sites-n c = omega (arith, c.requires.0)

pub bounds-sites-n : goal.bounds-sites-n
bounds-sites-n c = omega (arith, c.requires.0)

pub overflow_add-n : goal.overflow_add-n
overflow_add-n c = omega (arith, c.requires.0)

pub overflow_mul-p : goal.overflow_mul-p
overflow_mul-p c = omega (arith, c.wide_byte.ensures.1)

pub overflow_add-p : goal.overflow_add-p
overflow_add-p c = omega (arith, end (goal.at.overflow_add-p c).After-wide_byte)

pub loop-n-preserved : goal.loop-n-preserved
loop-n-preserved c = let a = c.args in let l = c.loop-n in
    let done = sites_in l.sites l.n in
    let x = c.site_at-s.result in
    let f : a.total - (l.n + 1) ≡ a.total - (l.n + 1) = refl in (
      omega arith,
      end (goal.at.loop-n-preserved c).After-wide_byte,
      length-set l.sites l.n x ∙ l.invariant.2,
      table_grow l.sites l.n x (omega (arith, l.invariant.2, c.requires.0)) l.invariant.3,
      left (goal.at.loop-n-preserved c).In-loop-n
          ∙ next_site (book (goal.at.loop-n-preserved c).Start) (core (goal.at.loop-n-preserved c).Start) a.xs.now done l.p a.at (a.total - (l.n + 1)) (fine (goal.at.loop-n-preserved c).Else-f-ne0)
          ∙ ap₂ (λ (p : ℕ) (ss : List Site). sites_from (book (goal.at.loop-n-preserved c).Start) (core (goal.at.loop-n-preserved c).Start) a.xs.now a.at (a.total - (l.n + 1)) p ss) (sym (ended (goal.at.loop-n-preserved c).After-wide_byte)) (ap (λ (y : Site). y ∷ done) (sym c.site_at-s.ensures) ∙ sym (sites_grow l.sites l.n x (omega (arith, l.invariant.2, c.requires.0)))),
    )

pub returns-then-p-xs : goal.returns-then-p-xs
returns-then-p-xs c = let a = c.args in let l = c.loop-n in
    c.sites_refused-then-p-xs.ensures ∙ ap said_sites (sym (over (goal.at.returns-then-p-xs c).After-loop-n ∙ left_over (book (goal.at.returns-then-p-xs c).Start) (core (goal.at.returns-then-p-xs c).Start) a.xs.now (sites_in l.sites l.n) l.p a.at c.if-p-xs.true))

pub returns : goal.returns
returns c = let a = c.args in let l = c.loop-n in
    sites_said l.sites l.n l.invariant.3 ∙ ap said_sites (sym (over (goal.at.returns c).After-loop-n ∙ none_over (book (goal.at.returns c).Start) (core (goal.at.returns c).Start) a.xs.now (sites_in l.sites l.n) l.p a.at c.if-p-xs.false))

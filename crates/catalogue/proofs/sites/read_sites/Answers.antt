use Prim.Native.Nat.{ℕ}
use mathlib.Core.Bool.{false}
use mathlib.Core.List.{[]}
use mathlib.Core.Path.{◌≡◌, sym, ◌∙◌, ap, ap₂}
use borrow.Author.Tests.{not-true, not-false}
use lib.ListN.{take}
use Rattle.graph.specs.Graph.{Graph}
use Rattle.reply.specs.Read.{is_outside}
use Rattle.block.specs.Faults.{inside}
use Rattle.assembly.specs.Book.{Book, book_of}
use Rattle.catalogue.specs.Library.{most_sites, library_kind, core_number, site_count, sites_from}
use Rattle.catalogue.specs.Said.{said_sites}
use Rattle.catalogue.proofs.Turns.{has_is, graph_is, count_outside, no_core, with_core}
use Rattle.catalogue.proofs.sites.read_sites.Goals as goal
use Rattle.catalogue.proofs.sites.read_sites.Goals.{After-is_numbered, After-is_outside, Else-is_outside, Start}

-- `catalogue::sites::read_sites` meets its contract. Assumes nothing.
abbrev book : Start → Book
book s = book_of s.args.d.now (take s.args.count s.args.blocks)

abbrev book-in-After-is_numbered : After-is_numbered → Book
book-in-After-is_numbered s = book_of s.args.d.now (take s.args.count s.args.blocks)

outside : (c : After-is_outside) → let a = c.args in c.is_outside.result ≡ is_outside most_sites (site_count a.xs.now)
outside c = c.is_outside.ensures ∙ ap (is_outside most_sites) c.le16_at-total.ensures

outside-in-Else-is_outside : (c : Else-is_outside) → let a = c.args in c.is_outside.result ≡ is_outside most_sites (site_count a.xs.now)
outside-in-Else-is_outside c = c.is_outside.ensures ∙ ap (is_outside most_sites) c.le16_at-total.ensures

few : (c : Else-is_outside) → let a = c.args in is_outside most_sites (site_count a.xs.now) ≡ false
few c = sym (outside-in-Else-is_outside c) ∙ c.if-is_outside.false

has : (c : After-is_numbered) → c.is_numbered.result ≡ (book-in-After-is_numbered c).has (core_number c.args.xs.now)
has c = let a = c.args in has_is a.d.now (take a.count a.blocks) _ c.le16_at-number.result c.find_block-core.result c.le16_at-number.ensures c.find_block-core.ensures _ c.is_numbered.ensures

pub returns-then-is_outside : goal.returns-then-is_outside
returns-then-is_outside c = let a = c.args in c.sites_refused.ensures ∙ ap said_sites (sym (count_outside (book (goal.at.returns-then-is_outside c).Start) a.xs.now a.at (sym (outside (goal.at.returns-then-is_outside c).After-is_outside) ∙ c.if-is_outside.true)))

pub returns-then-not-is_numbered : goal.returns-then-not-is_numbered
returns-then-not-is_numbered c = let a = c.args in c.sites_refused-then-not-is_numbered.ensures ∙ ap said_sites (sym (no_core (book (goal.at.returns-then-not-is_numbered c).Start) a.xs.now a.at (few (goal.at.returns-then-not-is_numbered c).Else-is_outside) (sym (has (goal.at.returns-then-not-is_numbered c).After-is_numbered) ∙ not-true c.is_numbered.result c.if-not-is_numbered.true-raw)))

pub sites_from-requires : goal.sites_from-requires
sites_from-requires c = ((inside most_sites c.le16_at-total.result (sym c.is_outside.ensures ∙ c.if-is_outside.false)).high, c.requires)

pub returns : goal.returns
returns c = let a = c.args in
    let core = graph_is a.d.now (take a.count a.blocks) _ c.le16_at-number.result c.find_block-core.result c.le16_at-number.ensures c.find_block-core.ensures in
    c.sites_from.ensures
    ∙ ap₂ (λ (g : Graph) (n : ℕ). said_sites (sites_from (book (goal.at.returns c).Start) g a.xs.now a.at n library_kind.fixed [])) core c.le16_at-total.ensures
    ∙ ap said_sites (sym (with_core (book (goal.at.returns c).Start) a.xs.now a.at (few (goal.at.returns c).Else-is_outside) (sym (has (goal.at.returns c).After-is_numbered) ∙ not-false c.is_numbered.result c.if-not-is_numbered.false-raw)))

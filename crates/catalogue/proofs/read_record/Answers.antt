use Prim.Native.Nat.{ℕ, ◌≤◌}
use mathlib.Core.List.{List}
use mathlib.Core.Path.{◌≡◌, sym, ◌∙◌, ap, subst}
use native.Mathlib.Omega.{arith}
use lib.ListN.{length, take}
use Rattle.std.specs.Prelude.{Err}
use Rattle.reply.specs.Read.{read}
use Rattle.reply.specs.declared.Refusal.{Refusal}
use Rattle.records.specs.Records.{payload_at}
use Rattle.assembly.specs.Book.{book_of}
use Rattle.catalogue.specs.Library.{library_kind, sites_reply}
use Rattle.catalogue.specs.declared.Site.{Site}
use Rattle.catalogue.specs.Said.{site_table, said_sites, refused_library, tabled_library}
use Rattle.catalogue.proofs.Reading.{sites_stopped, sites_ended, after_refused, after_more, after_fine, few_sites, count_table, tabled_is}
use Rattle.catalogue.proofs.read_record.Goals as goal
use Rattle.catalogue.proofs.read_record.Goals.{After-read_sites-s, In-Ok}

-- `catalogue::read_record` meets its contract. Assumes nothing.
sites-are : (c : After-read_sites-s) → let a = c.args in c.read_sites-s.result ≡ said_sites (sites_reply (book_of a.d.now (take a.count a.blocks)) (payload_at a.d.now a.at) a.at)
sites-are c = let a = c.args in
    c.read_sites-s.ensures ∙ ap (λ (l : List ℕ). said_sites (sites_reply (book_of a.d.now (take a.count a.blocks)) l a.at)) c.payload_at-xs.ensures.bytes

sites-are-in-In-Ok : (c : In-Ok) → let a = c.args in c.read_sites-s.result ≡ said_sites (sites_reply (book_of a.d.now (take a.count a.blocks)) (payload_at a.d.now a.at) a.at)
sites-are-in-In-Ok c = let a = c.args in
    c.read_sites-s.ensures ∙ ap (λ (l : List ℕ). said_sites (sites_reply (book_of a.d.now (take a.count a.blocks)) l a.at)) c.payload_at-xs.ensures.bytes

fine : (c : In-Ok) → let a = c.args in let s = c.read_sites-s.result in
    (ss : List Site) × (sites_reply (book_of a.d.now (take a.count a.blocks)) (payload_at a.d.now a.at) a.at ≡ read ss) × (s.n ≡ length ss) × (s.sites ≡ site_table ss)
fine c = sites_ended _ c.read_sites-s.result (sites-are-in-In-Ok c) c.in-Ok.is

pub read_sites-s-requires : goal.read_sites-s-requires
read_sites-s-requires c = subst (λ (l : List ℕ). library_kind.fixed ≤ length l) (sym c.payload_at-xs.ensures.bytes) c.requires

pub returns-in_default : goal.returns-in_default
returns-in_default c = let a = c.args in c.library_refused.ensures ∙ ap refused_library c.in_default.is
    ∙ ap (tabled_library a.blocks a.count) (sym (after_refused a.d.now (take a.count a.blocks) a.at a.end c.in_default.field-0 (sites_stopped _ c.read_sites-s.result c.in_default.field-0 (sites-are (goal.at.returns-in_default c).After-read_sites-s) c.in_default.is)))

pub returns-then-end-d : goal.returns-then-end-d
returns-then-end-d c = let a = c.args in let (ss, e, n, t) = fine (goal.at.returns-then-end-d c).In-Ok in
    c.library_refused-then-end-d.ensures ∙ ap (λ (r : Refusal). refused_library (Err r)) c.at.ensures ∙ ap (tabled_library a.blocks a.count) (sym (after_more a.d.now (take a.count a.blocks) a.at a.end ss e c.if-end-d.true))

pub count_of-products-requires : goal.count_of-products-requires
count_of-products-requires c = let a = c.args in let (ss, e, n, t) = fine (goal.at.count_of-products-requires c).In-Ok in omega (arith, n, few_sites a.d.now (take a.count a.blocks) a.at a.end ss e)

pub returns : goal.returns
returns c = let a = c.args in let (ss, e, n, t) = fine (goal.at.returns c).In-Ok in
    let bs = take a.count a.blocks in
    tabled_is a.blocks a.count (record { blocks = bs; at = a.at; sites = ss }) _ _ _ n t (count_table a.d.now bs a.at a.end ss e _ _ _ t n c.count_of-products.ensures)
    ∙ ap (tabled_library a.blocks a.count) (sym (after_fine a.d.now bs a.at a.end ss e c.if-end-d.false))

use mathlib.Core.Path.{ap}
use lib.ListN.{take}
use Rattle.records.specs.Records.{payload_at}
use Rattle.catalogue.specs.declared.LibraryRead.{LibraryRead}
use Rattle.catalogue.specs.Products.{products}
use Rattle.library.specs.Held.{Spread}
use Rattle.library.proofs.Making.{spread_read}
use Rattle.library.proofs.run_read.Goals as goal
use Rattle.library.proofs.run_read.Goals.{After-all_arms-all}

-- `library::run_read` meets its contract. Assumes nothing.
-- what is kept of the library
kept : (c : After-all_arms-all) → let a = c.args in let l = c.requires.0 in
    Spread a.d.now l (take a.l.count a.l.blocks) (payload_at a.d.now a.l.at) a.l.sites a.l.n c.core_at-core.result c.all_arms-all.result
kept c = let a = c.args in let p = c.requires in
    spread_read a.d.now p.0 a.l p.1 p.2 _ _ _ c.payload_at-xs.ensures.bytes c.core_at-core.ensures c.all_arms-all.ensures

pub run_over-requires : goal.run_over-requires
run_over-requires c = let p = c.requires in (_, p.0, _, _, kept (goal.at.run_over-requires c).After-all_arms-all, ap (λ (x : LibraryRead). x.products) p.2)

pub returns : goal.returns
returns c = let w = let p = c.requires in c.run_over.ensures _ p.0 _ _ (kept (goal.at.returns c).After-all_arms-all) (ap (λ (x : LibraryRead). x.products) p.2) in record { next = w.0; bytes = w.1 }

use lib.ListN.{take}
use Rattle.records.specs.Records.{payload_at}
use Rattle.library.specs.Held.{Spread}
use Rattle.library.proofs.Making.{spread_read}
use Rattle.library.proofs.values_read.Goals as goal
use Rattle.library.proofs.values_read.Goals.{After-all_arms-all}

-- `library::values_read` meets its contract. Assumes nothing.
-- what is kept of the library
kept : (c : After-all_arms-all) → let a = c.args in let l = c.requires.d_value.0 in
    Spread a.d.now l (take a.l.count a.l.blocks) (payload_at a.d.now a.l.at) a.l.sites a.l.n c.core_at-core.result c.all_arms-all.result
kept c = let a = c.args in let p = c.requires.d_value in
    spread_read a.d.now p.0 a.l p.1 p.2 _ _ _ c.payload_at-xs.ensures.bytes c.core_at-core.ensures c.all_arms-all.ensures

pub values_over-requires : goal.values_over-requires
values_over-requires c = let p = c.requires in record { by_index = (_, p.d_value.0, _, _, kept (goal.at.values_over-requires c).After-all_arms-all, p.d_value.3); count_in_bounds = p.count_in_bounds }

pub returns : goal.returns
returns c k e f m = let a = c.args in
    c.values_over.ensures a.d.now k _ _ (spread_read a.d.now k a.l e f _ _ _ c.payload_at-xs.ensures.bytes c.core_at-core.ensures c.all_arms-all.ensures) m

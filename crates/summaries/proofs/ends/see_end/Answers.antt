use mathlib.Core.Path.{◌∙◌, ap, subst⁻¹}
use native.Mathlib.Omega.{arith}
use lib.Dec.{lit<}
use Rattle.joining.specs.Small.{SmallCounts}
use Rattle.sighted.specs.declared.Seen.{Seen}
use Rattle.summaries.specs.Ready.{count_row}
use Rattle.summaries.proofs.Ports.{seen_small}
use Rattle.summaries.proofs.Storing.{known_next, known_more}
use Rattle.summaries.proofs.ends.see_end.Goals as goal

-- `summaries::ends::see_end` meets its contract. Assumes nothing.
pub slice_copy_out-done : goal.slice_copy_out-done
slice_copy_out-done c = let p = c.requires in omega (arith, p.1.high, p.3)

pub bounds-done-3 : goal.bounds-done-3
bounds-done-3 c = lit< tt

pub returns-then-done-ne0 : goal.returns-then-done-ne0
returns-then-done-ne0 c = known_next c.args.e c.if-done-ne0.true c.requires.4

pub end_at-x-requires : goal.end_at-x-requires
end_at-x-requires c = let p = c.requires in omega (arith, p.1.high, p.0.few)

pub none_from-to-requires : goal.none_from-to-requires
none_from-to-requires c = let p = c.requires in (p.0.few.high, p.1)

pub row_of-requires : goal.row_of-requires
row_of-requires c = subst⁻¹ (λ (v : Seen). SmallCounts v.counts) c.seen_from-s.ensures (seen_small _ _)

pub put_ends-requires : goal.put_ends-requires
put_ends-requires c =
    let s = c.requires in
    let seen = c.seen_from-s.ensures in
    let none = c.none_from-to.ensures in
    (s.0, s.1.low, omega (arith, none.0), none.1, s.2, s.3, ap (λ (v : Seen). v.row) seen, c.row_of.ensures ∙ ap (λ (v : Seen). count_row v.counts) seen)

pub returns : goal.returns
returns c =
    let none = c.none_from-to.ensures in
    known_more _ c.args.e _ c.end_at-x.ensures.0 none.0 none.2 c.requires.4 c.put_ends.ensures

use Rattle.summaries.proofs.by_rows.Goals as goal

-- `summaries::by_rows` meets its contract. Assumes nothing.
pub see_ends-requires : goal.see_ends-requires
see_ends-requires c = let p = c.requires in (p.0, p.1, p.2, p.3)

pub composed-requires : goal.composed-requires
composed-requires c =
    let s = c.see_ends.ensures in
    let p = c.requires in
    (p.0, s.rows, s.counts, p.4)

pub returns : goal.returns
returns c = c.composed.ensures

use mathlib.Core.Path.{sym, ◌∙◌}
use Rattle.text.specs.Laws.{end_from, end_within}
use Rattle.sdfile.proofs.Tags.{some_not, some_is}
use native.Mathlib.Omega.{arith}
use Rattle.sdfile.proofs.is_some_header.Goals as goal

-- `sdfile::is_some_header` meets its contract. Assumes nothing.
pub returns-then-d-at-ne-CLOSES : goal.returns-then-d-at-ne-CLOSES
returns-then-d-at-ne-CLOSES c =
    sym (some_not c.args.d.now c.args.at c.requires c.if-d-at-ne-CLOSES.true)

pub slice_bounds-has_some_tag-count : goal.slice_bounds-has_some_tag-count
slice_bounds-has_some_tag-count c = let a = c.args in omega (arith, c.line_end-end.ensures, end_from a.d.now a.at)

pub slice_bounds-has_some_tag-start : goal.slice_bounds-has_some_tag-start
slice_bounds-has_some_tag-start c = let a = c.args in omega (arith, c.line_end-end.ensures, end_from a.d.now a.at)

pub slice_bounds-has_some_tag-end : goal.slice_bounds-has_some_tag-end
slice_bounds-has_some_tag-end c = let a = c.args in omega (arith, c.line_end-end.ensures, end_within a.d.now a.at (omega arith))

pub returns : goal.returns
returns c =
    let l = c.line_end-end in
    c.has_some_tag.ensures ∙ sym (some_is c.args.d.now c.args.at c.requires c.if-d-at-ne-CLOSES.false l.result l.ensures)

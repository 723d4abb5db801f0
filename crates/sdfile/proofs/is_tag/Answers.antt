use mathlib.Core.Path.{sym, ◌∙◌, ap}
use Prim.Native.Nat.{◌+◌}
use Rattle.text.specs.Text.{starts_with}
use Rattle.sdfile.proofs.White.{part_is}
use Rattle.sdfile.proofs.Tags.{tag_other, tag_short, tag_not, tag_is}
use Rattle.sdfile.proofs.is_tag.Goals as goal

-- `sdfile::is_tag` meets its contract. Assumes nothing.
pub returns-then-d-at-ne-OPENS : goal.returns-then-d-at-ne-OPENS
returns-then-d-at-ne-OPENS c =
    sym (tag_other c.args.d.now c.args.name.now c.args.at c.requires c.if-d-at-ne-OPENS.true)

pub returns-then-d-from : goal.returns-then-d-from
returns-then-d-from c =
    sym (tag_short c.args.d.now c.args.name.now c.args.at c.requires c.if-d-from.true)

pub returns-then-starts_with : goal.returns-then-starts_with
returns-then-starts_with c =
    let a = c.args in
    let m = ap (starts_with a.name.now) (part_is a.d.now (a.at + 1)) in
    sym (tag_is a.d.now a.name.now a.at c.requires c.if-d-at-ne-OPENS.false c.if-d-from.false (sym (c.starts_with.ensures ∙ m) ∙ c.if-starts_with.true))

pub returns : goal.returns
returns c =
    let a = c.args in
    let m = ap (starts_with a.name.now) (part_is a.d.now (a.at + 1)) in
    sym (tag_not a.d.now a.name.now a.at c.requires (sym (c.starts_with.ensures ∙ m) ∙ c.if-starts_with.false))

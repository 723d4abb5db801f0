use mathlib.Core.Path.{sym, ap, ◌∙◌}
use Rattle.sdfile.proofs.Items.{value_twice, value_once}
use Rattle.sdfile.proofs.value_at.Goals as goal
use Rattle.reply.specs.Read.{as_result}
use Rattle.std.specs.Prelude.{Err}

-- `sdfile::value_at` meets its contract. Assumes nothing.
pub returns-then-two-d : goal.returns-then-two-d
returns-then-two-d c =
    let a = c.args in
    let h = c.header_from-two in
    ap Err c.at.ensures ∙ sym (ap as_result (value_twice a.d.now a.name.now a.at h.result h.ensures c.if-two-d.true))

pub returns : goal.returns
returns c =
    let a = c.args in
    let h = c.header_from-two in
    sym (ap as_result (value_once a.d.now a.name.now a.at h.result h.ensures c.if-two-d.false c.value_chars-len.result c.value_chars-len.ensures))

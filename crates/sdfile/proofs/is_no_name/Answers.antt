use mathlib.Core.Path.{sym, ◌∙◌, ap}
use lib.Dec.{ltb}
use Rattle.sdfile.specs.Sdf.{most_opens}
use Rattle.sdfile.proofs.Items.{no_name_empty, no_name_many}
use Rattle.sdfile.proofs.is_no_name.Goals as goal

-- `sdfile::is_no_name` meets its contract. Assumes nothing.
pub returns-then-name-eq0 : goal.returns-then-name-eq0
returns-then-name-eq0 c = sym (no_name_empty c.args.name.now c.if-name-eq0.true)

pub returns : goal.returns
returns c = ap (ltb most_opens) c.opens_in-many.ensures ∙ sym (no_name_many c.args.name.now c.if-name-eq0.false)

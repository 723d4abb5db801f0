use mathlib.Core.Path.{sym}
use native.Mathlib.Decide.{ℕ_discrete}
use borrow.Author.Tests.{eq-eqb, ne_eqb}
use Rattle.block.proofs.search.connected.Goals as goal

pub returns : goal.returns
returns c xs T =
    let S = c.from_atom-ended.ensures _ T in
    elim (ℕ_discrete c.from_atom-ended.result.rest 0) [
      | yes e ↦ rw (eq-eqb _ _ e) (sym (S.whole e))
      | no ne ↦ rw (ne_eqb _ _ ne) (sym (S.apart ne))
    ]

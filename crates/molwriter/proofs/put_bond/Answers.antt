use mathlib.Core.Path.{ap}
use Rattle.text.specs.Text.{three}
use Rattle.text.proofs.Putting.{both, as_word}
use Rattle.molwriter.proofs.Pieces.{bond_is}
use Rattle.molwriter.proofs.put_bond.Goals as goal

-- `molwriter::put_bond` meets its contract: the words one after the other.
pub returns : goal.returns
returns c =
    as_word (bond_is c.args.a c.args.b) (both (both (as_word (ap three c.wide_byte.ensures.0) c.put_three-i.ensures) (as_word (ap three c.wide_byte-2.ensures.0) c.put_three-j.ensures)) c.put.ensures)

use native.Mathlib.Omega.{arith}
use Rattle.text_calls.proofs.MolfileReplies.{write_lacking, write_given}
use Rattle.text_calls.proofs.write_molfile.Goals as goal

-- `text_calls::write_molfile` meets its contract.
pub returns-then-length-lt1 : goal.returns-then-length-lt1
returns-then-length-lt1 c =
    write_lacking c.args.atoms c.args.bonds.now c.args.text.now c.args.length.now c.unlent.result (omega arith) c.unlent.ensures

pub returns : goal.returns
returns c =
    write_given c.args.atoms c.args.bonds.now c.args.text.now c.args.length.now _ (omega arith) c.write-answer.ensures.reply c.write-answer.ensures.bytes c.give_number.ensures

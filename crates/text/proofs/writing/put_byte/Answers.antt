use Rattle.text.proofs.Putting.{byte_out}
use Rattle.text.proofs.writing.put_byte.Goals as goal

-- `text::put_byte` meets its contract. Assumes nothing.
pub returns : goal.returns
returns c = byte_out c.args.out.now c.args.at c.args.b c.if-at-out.false

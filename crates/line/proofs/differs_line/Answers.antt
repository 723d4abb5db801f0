-- `line::differs_line`: its words and number one after the other.
use Rattle.line.specs.Text.{differs_text}
use Rattle.line.proofs.Lines.{then, made}
use Rattle.line.proofs.Fits.{differs_fit}
use Rattle.line.proofs.differs_line.Goals as goal

pub returns : goal.returns
unfolding differs_text
returns c = made c.empty.ensures (then c.named.ensures c.with.ensures) (differs_fit c.args.field)

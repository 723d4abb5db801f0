-- `line::indices_line`: its words and numbers one after the other.
use Rattle.line.specs.Text.{indices_text}
use Rattle.line.proofs.Lines.{then, made}
use Rattle.line.proofs.Fits.{indices_fit}
use Rattle.line.proofs.indices_line.Goals as goal

pub returns : goal.returns
unfolding indices_text
returns c =
    made c.empty.ensures
    (then (then (then (then (then c.named.ensures c.named-2.ensures) c.named-3.ensures) c.named-4.ensures) c.named-5.ensures) c.with.ensures)
    (indices_fit c.args.x)

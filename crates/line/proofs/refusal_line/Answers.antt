-- `line::refusal_line`: its words and numbers one after the other.
use Rattle.line.specs.Text.{refusal_text}
use Rattle.line.proofs.Lines.{then, made}
use Rattle.line.proofs.Fits.{refusal_fit}
use Rattle.line.proofs.refusal_line.Goals as goal

pub returns : goal.returns
unfolding refusal_text
returns c = made c.empty.ensures (then (then c.named.ensures c.named-2.ensures) c.with.ensures) (refusal_fit c.args.r)

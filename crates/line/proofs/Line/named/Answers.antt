-- `line::Line::named`: a word, and then a number.
use Rattle.line.proofs.Lines.{then}
use Rattle.line.proofs.Line.named.Goals as goal

pub returns : goal.returns
returns c = then c.with.ensures c.digits.ensures

-- `line::Line::with`: the word is put behind the text.
use Rattle.line.proofs.Lines.{adds}
use Rattle.line.proofs.Line.with.Goals as goal

pub returns : goal.returns
returns c = adds c.args.self c.args.word.now c.put-len.new.out c.put-len.result c.put-len.ensures

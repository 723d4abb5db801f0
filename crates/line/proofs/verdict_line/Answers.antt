-- `line::verdict_line`: each case is its line, whose length counts bytes of its text.
use Rattle.line.specs.Text.{refusal_text, differs_text}
use Rattle.line.proofs.Lines.{shown}
use Rattle.line.proofs.Fits.{refusal_fit, differs_fit}
use Rattle.line.proofs.verdict_line.Goals as goal

pub returns-in-Differs-clause-prefix_len : goal.returns-in-Differs-clause-prefix_len
returns-in-Differs-clause-prefix_len c = (shown c.differs_line.result (differs_text c.in-Differs.field) (differs_fit c.in-Differs.field) c.differs_line.ensures).1

pub returns-in-Refused-clause-prefix_len : goal.returns-in-Refused-clause-prefix_len
returns-in-Refused-clause-prefix_len c = (shown c.refusal_line.result (refusal_text c.in-Refused.r) (refusal_fit c.in-Refused.r) c.refusal_line.ensures).1

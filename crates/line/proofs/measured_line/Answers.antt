-- `line::measured_line`: each case is its function's line, whose length counts bytes of its text.
use Rattle.line.specs.Text.{refusal_text, indices_text}
use Rattle.line.proofs.Lines.{shown}
use Rattle.line.proofs.Fits.{refusal_fit, indices_fit}
use Rattle.line.proofs.measured_line.Goals as goal

pub returns-in-Err-clause-prefix_len : goal.returns-in-Err-clause-prefix_len
returns-in-Err-clause-prefix_len c = (shown c.refusal_line.result (refusal_text c.in-Err.r) (refusal_fit c.in-Err.r) c.refusal_line.ensures).1

pub returns-in-Ok-clause-prefix_len : goal.returns-in-Ok-clause-prefix_len
returns-in-Ok-clause-prefix_len c = (shown c.indices_line.result (indices_text c.in-Ok.x) (indices_fit c.in-Ok.x) c.indices_line.ensures).1

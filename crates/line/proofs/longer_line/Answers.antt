-- `line::longer_line`: its words.
use Rattle.std.proofs.Common.{◌≡◌, lit≤}
use Rattle.line.specs.Text.{longer_text, lined}
use Rattle.line.proofs.Lines.{made, shown}
use Rattle.line.proofs.longer_line.Goals as goal

pub returns : goal.returns
returns c =
    let is : c.with.result ≡ lined longer_text = made c.empty.ensures c.with.ensures (lit≤ tt) in
    let said = shown c.with.result longer_text (lit≤ tt) is in
    record { value = said.0; prefix_len = said.1 }

-- `line::unread_line`: its words.
use Rattle.std.proofs.Common.{◌≡◌, lit≤}
use Rattle.line.specs.Text.{unread_text, lined}
use Rattle.line.proofs.Lines.{made, shown}
use Rattle.line.proofs.unread_line.Goals as goal

pub returns : goal.returns
returns c =
    let is : c.with.result ≡ lined unread_text = made c.empty.ensures c.with.ensures (lit≤ tt) in
    let said = shown c.with.result unread_text (lit≤ tt) is in
    record { value = said.0; prefix_len = said.1 }

-- `line::label`: the colon and the words are put behind the name, where there is room for them.
use Rattle.std.proofs.Common.{◌∙◌, ◌+◌, length, sym, arith}
use borrow.Author.Tests.{leb-true, leb-false}
use Rattle.line.proofs.Labels.{label_put, label_none}
use Rattle.line.proofs.label.Goals as goal

pub returns-then-has_room : goal.returns-then-has_room
returns-then-has_room c =
    let a = c.args in
    let room = leb-true (a.name + (2 + length a.words.now)) (length a.out.now) (sym c.has_room.ensures ∙ c.if-has_room.true) in
    let said = label_put a.out.now a.name a.words.now c.put-at.new.out c.put.new.out c.put-at.result c.put.result (omega (arith, room)) c.put-at.auto.out (c.put.auto.out ∙ c.put-at.auto.out) c.put-at.ensures c.put.ensures in
    record { value = said.0; out_after = said.1.0; prefix_len = said.1.1 }

pub returns-else-has_room : goal.returns-else-has_room
returns-else-has_room c =
    let a = c.args in
    let full = leb-false (a.name + (2 + length a.words.now)) (length a.out.now) (sym c.has_room.ensures ∙ c.if-has_room.false) in
    let said = label_none a.out.now a.name a.words.now (omega (arith, full)) in
    record { value = said.0; out_after = said.1.0; prefix_len = said.1.1 }

use native.Mathlib.Omega.{arith}
use Rattle.text.proofs.Putting.{as_word}
use Rattle.text.proofs.Written.{one_digit, two_digits, three_digits}
use Rattle.text.proofs.writing.put_decimal.Goals as goal

-- `text::put_decimal` meets its contract: one, two or three digits. Assumes nothing.
pub returns-then-v-lt10 : goal.returns-then-v-lt10
returns-then-v-lt10 c = as_word (one_digit c.args.n c.if-v-lt10.true c.last_digit.ensures) c.put_byte.ensures

pub returns-then-v-lt100 : goal.returns-then-v-lt100
returns-then-v-lt100 c =
    as_word
    (two_digits c.args.n c.if-v-lt10.false c.if-v-lt100.true c.last_digit-tens.ensures c.last_digit-then-v-lt100.ensures)
    c.put.ensures

pub returns : goal.returns
returns c =
    as_word
    (three_digits c.args.n c.if-v-lt100.false (omega arith) c.last_digit-2.ensures c.last_digit-tens.ensures c.last_digit-3.ensures)
    c.put-2.ensures

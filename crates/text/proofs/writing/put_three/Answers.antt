use Rattle.text.proofs.Putting.{as_word}
use Rattle.text.proofs.Written.{three_is}
use Rattle.text.proofs.writing.put_three.Goals as goal

-- `text::put_three` meets its contract. Assumes nothing.
pub returns : goal.returns
returns c =
    as_word (three_is c.args.n c.digit_or_blank.ensures c.digit_or_blank-2.ensures c.last_digit.ensures) c.put.ensures

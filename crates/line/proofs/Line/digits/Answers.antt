-- `line::Line::digits`: what `io::decimal` writes are the decimal digits.
use Rattle.std.proofs.Common.{◌≡◌, ◌∙◌, List, ℕ, subst, take}
use Rattle.text.specs.Text.{decimal}
use Rattle.line.specs.Put.{Adds}
use Rattle.line.proofs.Decimal.{digits_are}
use Rattle.line.proofs.Line.digits.Goals as goal

pub returns : goal.returns
returns c =
    let d = c.decimal-k in
    let word : take d.result d.new.out ≡ decimal c.args.n = d.ensures.digits ∙ digits_are c.args.n d.result c.ranges.n.fits d.ensures.len in
    subst (λ (w : List ℕ). Adds c.args.self w c.with.result) word c.with.ensures

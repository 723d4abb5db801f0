use Prim.Native.Nat.{◌+◌}
use borrow.Author.Tests.{lt-ltb, le-ltb}
use Rattle.text.specs.Text.{line_chars}
use Rattle.molfile.specs.Molfile.{symbol_at}
use native.Mathlib.Omega.{arith}
use Rattle.molfile.proofs.symbol.Goals as goal

-- `molfile::symbol` meets its contract. Assumes nothing.
pub returns-then-k-chars : goal.returns-then-k-chars
unfolding symbol_at
returns-then-k-chars c =
    let a = c.args in
    let e = lt-ltb (31 + a.k) (line_chars a.d.now a.at) (omega arith) in rw e

pub returns : goal.returns
unfolding symbol_at
returns c =
    let a = c.args in
    let e = le-ltb (31 + a.k) (line_chars a.d.now a.at) (omega arith) in rw e

use Prim.Native.Nat.{ℕ, ◌≤◌}
use mathlib.Core.Path.{sym, ◌∙◌, ap}
use native.Mathlib.Omega.{arith}
use lib.ListN.{length}
use Rattle.reply.specs.Chain.{fine_read, refused_read}
use Rattle.text.proofs.Putting.{at_front}
use Rattle.adjacency.proofs.Blocks.{kept_bad, kept_short, kept_all, stays, half, put_in}
use Rattle.block.specs.Block.{said_molecule}
use Rattle.std.proofs.lemmas.Result.{err_from_is_err_and}
use Rattle.neighbours.proofs.kept.Goals as goal
use Rattle.std.specs.Prelude.{Ok, Err}

-- `kept` meets its contract: each return is one way through the definition.
pub returns-then-out-bonds : goal.returns-then-out-bonds
returns-then-out-bonds c =
    let a = c.args in
    let j = fine_read _ (sym c.in_ok-judged.ensures) in
    let e = kept_short a.n a.bonds.now a.high (length a.out.now) j (omega (arith, c.if-out-bonds.true)) in
    record { reply = ap Err c.at.ensures ∙ sym (ap said_molecule e); bytes = stays a.out.now e }

pub returns-in_err-judged : goal.returns-in_err-judged
returns-in_err-judged c =
    let a = c.args in
    let e = kept_bad a.n a.bonds.now a.high (length a.out.now) _ (refused_read _ _ (sym c.in_err-judged.ensures)) in
    let p = err_from_is_err_and c.from_residual.result c.from_residual.ensures.1 in
    record { reply = rw (p.1, p.2) (sym (ap said_molecule e)); bytes = stays a.out.now e }

pub returns : goal.returns
returns c =
    let a = c.args in
    let s = c.requires in
    let j = fine_read _ (sym c.in_ok-judged.ensures) in
    let h : length a.bonds.now ≤ length a.out.now = omega (arith, c.if-out-bonds.false) in
    let e = kept_all a.n a.bonds.now a.high (length a.out.now) j h in
    record { reply = ap (λ (k : ℕ). Ok (record { atoms = a.n; bonds = k })) (half a.n a.bonds.now s) ∙ sym (ap said_molecule e); bytes = put_in a.n a.bonds.now s a.out.now e (at_front c.put.ensures h).1 }

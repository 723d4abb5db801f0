use Prim.Native.Nat.{ℕ, ◌+◌, ◌*◌, ◌-◌}
use native.Mathlib.Omega.{arith}
use borrow.Author.Tests.{ltb-true}
use Rattle.records.specs.Records.{block_kind}
use Rattle.catalogue.proofs.Turns.{not_full}
use Rattle.catalogue.proofs.candidates.is_sparse.Goals as goal

-- `catalogue::candidates::is_sparse` meets its contract. Assumes nothing.
-- the code's WINDOW
abbrev window : ℕ
window = 32

pub returns : goal.returns
returns c = λ e.
    let b = c.args.b in
    let from = b.start + block_kind.fixed in
    not_full (block_kind.item * b.bonds) (from + window - from) c.ends_in.result _ _ c.ends_in.ensures (omega arith) (omega (arith, ltb-true))

pub returns-then-b-gt-WINDOW : goal.returns-then-b-gt-WINDOW
returns-then-b-gt-WINDOW c e = cc

pub returns-then-d-to : goal.returns-then-d-to
returns-then-d-to c e = cc

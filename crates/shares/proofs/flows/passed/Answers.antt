use Prim.Native.Nat.{◌-◌}
use native.Mathlib.Omega.{arith}
use lib.ListN.{get_or}
use Rattle.shares.specs.Work.{at}
use Rattle.shares.proofs.Tallying.{product_fits}
use Rattle.shares.proofs.Flowing.{let_pass, let_none}
use Rattle.shares.proofs.flows.passed.Goals as goal

-- `passed` meets its contract: the test is that of the definition.
pub overflow_mul-x : goal.overflow_mul-x
overflow_mul-x c =
    let a = c.args in
    product_fits (at a.c.now a.a) (at a.t.now a.b) (omega arith) c.requires.3

pub wide_byte-requires : goal.wide_byte-requires
wide_byte-requires c = tt

pub wide_byte-requires-2 : goal.wide_byte-requires-2
wide_byte-requires-2 c = tt

pub returns-then-wide_byte : goal.returns-then-wide_byte
returns-then-wide_byte c =
    let a = c.args in
    let_pass (get_or a.row.now (a.a - 1) 0) (get_or a.row.now (a.b - 1) 0) (at a.c.now a.a) (at a.t.now a.b) (omega arith)

pub returns-else-wide_byte : goal.returns-else-wide_byte
returns-else-wide_byte c =
    let a = c.args in
    let_none (get_or a.row.now (a.a - 1) 0) (get_or a.row.now (a.b - 1) 0) (at a.c.now a.a) (at a.t.now a.b) (λ e. c.if-wide_byte.false (omega arith))

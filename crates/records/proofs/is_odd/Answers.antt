use Prim.Native.Nat.{ℕ, ◌+◌, ◌*◌, ◌≤◌}
use mathlib.Core.Bool.{not}
use mathlib.Core.Path.{◌≡◌, ap, ap₂}
use native.Mathlib.Omega.{arith}
use lib.Dec.{eqb}
use Rattle.records.specs.Records.{wanted}
use Rattle.records.proofs.Numbers.{product}
use Rattle.records.proofs.is_odd.Goals as goal
use Rattle.records.proofs.is_odd.Goals.{After-struct_known-3-1}

-- `records::is_odd` meets its contract. Assumes nothing.
items : (c : After-struct_known-3-1) → let a = c.args in
    a.k.item * c.le16_at-items.result ≤ 65535 * 65535
items c = let a = c.args in
    product a.k.item c.le16_at-items.result (omega arith) (omega arith)

asked : (c : After-struct_known-3-1) → let a = c.args in
    a.k.fixed + a.k.item * c.le16_at-items.result ≡ wanted a.k a.d.now a.at
asked c = let a = c.args in
    ap (λ (n : ℕ). a.k.fixed + a.k.item * n) c.le16_at-items.ensures

pub overflow_mul-result : goal.overflow_mul-result
overflow_mul-result c = omega (arith, items (goal.at.overflow_mul-result c).After-struct_known-3-1)

pub overflow_add-result : goal.overflow_add-result
overflow_add-result c = omega (arith, items (goal.at.overflow_add-result c).After-struct_known-3-1)

pub returns : goal.returns
returns c = ap₂ (λ (m n : ℕ). not (eqb m n)) c.le16_at.ensures (asked (goal.at.returns c).After-struct_known-3-1)

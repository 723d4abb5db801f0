use Prim.Native.Nat.{ℕ, ◌+◌, ◌-◌, min}
use mathlib.Core.Path.{◌≡◌, sym, ap, ◌∙◌}
use native.Mathlib.Omega.{arith}
use lib.ListN.{length}
use Rattle.records.specs.Bytes.{part}
use Rattle.records.proofs.Numbers.{part_none, part_rest}
use Rattle.records.proofs.part.Goals as goal

-- `records::part` meets its contract. Assumes nothing.
pub returns-then-end-from : goal.returns-then-end-from
returns-then-end-from c = let a = c.args in
    let d = a.d.now in
    let e : length d ≡ min a.from (length d) = omega arith in
    record { bytes = part_none d (length d) (length d - length d) (omega arith) ∙ sym (part_none d a.from a.len (omega arith)); place = ap (λ (n : ℕ). (a.d.ref_ptr.0, n + a.d.ref_ptr.1)) e }

pub returns-then-end-from-2 : goal.returns-then-end-from-2
returns-then-end-from-2 c = let a = c.args in
    let d = a.d.now in
    let e : a.from ≡ min a.from (length d) = omega arith in
    record { bytes = part_rest d a.from (length d - a.from) (omega arith) ∙ sym (part_rest d a.from a.len (omega arith)); place = ap (λ (n : ℕ). (a.d.ref_ptr.0, n + a.d.ref_ptr.1)) e }

pub returns : goal.returns
returns c = let a = c.args in
    let e : a.from ≡ min a.from (length a.d.now) = omega arith in
    let f : a.from + a.len - a.from ≡ a.len = omega arith in
    record { bytes = ap (part a.d.now a.from) f; place = ap (λ (n : ℕ). (a.d.ref_ptr.0, n + a.d.ref_ptr.1)) e }

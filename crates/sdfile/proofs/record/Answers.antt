use mathlib.Core.Bool.{false}
use mathlib.Core.List.{List}
use mathlib.Core.Path.{◌≡◌, sym, ◌∙◌}
use Prim.Native.Nat.{ℕ, ◌-◌}
use lib.ListN.{drop}
use Rattle.text.specs.Laws.{said_next}
use Rattle.text.specs.Text.{starts_with, next_line}
use Rattle.sdfile.specs.Sdf.{marks, record_end, all_white, step_at}
use Rattle.sdfile.specs.Laws.{from_from, step_done, step_next}
use native.Mathlib.Omega.{arith}
use Rattle.sdfile.proofs.record.Goals as goal
use Rattle.std.specs.Prelude.{Some}

-- `sdfile::record` meets its contract. Assumes nothing.
found : (d : List ℕ) (from e n : ℕ) → all_white (drop from d) ≡ false → e ≡ record_end d from → n ≡ next_line d e → Some (record { start = from; len = e - from; next = n }) ≡ step_at d from
found d from e n w p q = rw (q, p) (sym (step_next d from w))

pub returns-then-all_white : goal.returns-then-all_white
returns-then-all_white c =
    let a = c.args in
    sym (step_done a.text.now a.from (sym c.all_white.ensures ∙ c.if-all_white.true))

pub overflow_sub-len : goal.overflow_sub-len
overflow_sub-len c =
    let a = c.args in
    let e : c.line_from-end.result ≡ record_end a.text.now a.from = c.line_from-end.ensures in
    omega (arith, from_from (starts_with marks) a.text.now a.from)

pub returns : goal.returns
returns c =
    let a = c.args in
    let w = sym c.all_white.ensures ∙ c.if-all_white.false in
    let n = said_next a.text.now c.line_from-end.result c.line_at-behind.ensures in
    found a.text.now a.from c.line_from-end.result c.line_at-behind.result.next w c.line_from-end.ensures n

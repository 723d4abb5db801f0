-- Laws. What the code's shape says of the answer. Assumes nothing.
use Prim.Native.Nat.{ℕ}
use mathlib.Core.Path.{◌≡◌}
use native.Mathlib.Omega.{arith}
use Rattle.reply.specs.Read.{Read, refused, read, as_result}
use Rattle.reply.specs.declared.Refusal.{Refusal}
use Rattle.std.specs.Prelude.{Ok, Err}

pub shape_refused : (m : Read ℕ) (r : Refusal) → Err r ≡ as_result m → m ≡ refused r
shape_refused (refused q) r e = cc
shape_refused (read k) r e = let z : ◌≡◌ {A = ℕ} 0 1 = cc in absurd (omega arith)

pub shape_bonds : (m : Read ℕ) (k : ℕ) → Ok k ≡ as_result m → m ≡ read k
shape_bonds (refused q) k e = let z : ◌≡◌ {A = ℕ} 0 1 = cc in absurd (omega arith)
shape_bonds (read n) k e = cc

-- Work. Numbers of four and of eight bytes as sums of bytes; and how small a number of bytes is.
use Prim.Native.Nat.{ℕ, zero, suc, ◌+◌, ◌*◌, ◌^◌, ◌<◌}
use Rattle.std.specs.Prelude.{List, ◌≡◌}
use Rattle.std.proofs.Math.Nat.{pow-suc}
use native.Mathlib.Omega.{arith}
use Rattle.std.proofs.Math.Dec.{lit<}
use Rattle.records.specs.Bytes.{byte_at, little}

module _ (d : List ℕ) where
  abbrev pub four_at : ℕ → ℕ
  four_at at = byte_at d at + 256 * byte_at d (at + 1) + 65536 * byte_at d (at + 2) + 16777216 * byte_at d (at + 3)

  pub four_sum : (at : ℕ) → little 4 d at ≡ four_at at
  unfolding little
  four_sum at =
      let two : at + 1 + 1 ≡ at + 2 = omega arith in
      let three : at + 2 + 1 ≡ at + 3 = omega arith in
      rw (two, three) (omega arith)

  pub eight_sum : (at : ℕ) → little 8 d at ≡ four_at at + 4294967296 * four_at (at + 4)
  unfolding little
  eight_sum at = let four : at + 1 + 1 + 1 + 1 ≡ at + 4 = omega arith in rw four (omega (arith, four_sum at, four_sum (at + 4)))

  pub little_small : ((i : ℕ) → byte_at d i < 256) → (k at : ℕ) → little k d at < 256 ^ k
  unfolding little
  little_small h zero at = lit< tt
  little_small h (suc k) at = omega (arith, h at, little_small h k (at + 1), pow-suc 256 k)

-- Little-endian numbers past the end and in halves, and parts of a list that ends early. Assumes nothing.
use Prim.Native.Nat.{ℕ, zero, suc, ◌+◌, ◌*◌, ◌-◌, ◌^◌, ◌<◌, ◌≤◌, min}
use mathlib.Core.List.{List, []}
use mathlib.Core.Path.{◌≡◌, refl, sym, ◌∙◌, ap, ap₂}
use native.Mathlib.Nat.{mul-le-mul, pow-suc, pow-le-pow_right, zero-lt-suc}
use native.Mathlib.Omega.{arith}
use lib.Dec.{lit<}
use lib.ListN.{length, get_or, take, drop, get_or-eq_default, drop_of_length-le, length-drop}
use lib.Seq.{take_all, take-nil}
use denote.Ref.{Bor}
use Rattle.records.specs.Bytes.{little, part, PartOf}

pub past : (k : ℕ) (d : List ℕ) (at : ℕ) → length d ≤ at → little k d at ≡ 0
unfolding little
past zero d at h = refl
past (suc k) d at h = omega (arith, get_or-eq_default d 0 h, past k d (at + 1) (omega arith))

-- The number n of the last bytes of w, those from k on, which is below 256 to the power of how many they are. It begins as 0 of none, and the byte
-- before them makes one more; eight bytes fit 64 bits.
pub record Last (d : List ℕ) (at w k n : ℕ) : Type 0 where
  pub few : w ≤ 8
  pub left : k ≤ w
  pub value : n ≡ little (w - k) d (at + k)
  pub small : n < 256 ^ (w - k)

module _ {d : List ℕ} {at w : ℕ} where
  pub none_yet : w ≤ 8 → Last d at w w 0
  unfolding little
  none_yet h = let e : w - w ≡ 0 = omega arith in record { few = h; left = omega arith; value = rw e; small = rw e (lit< tt) }

  pub room : {k n : ℕ} → 0 < k → Last d at w k n → n < 2 ^ 56
  room {k} {n} p l = let m : 256 ^ (w - k) ≤ 256 ^ 7 = let s : w - k ≤ 7 = omega (arith, l.few, l.left) in pow-le-pow_right (zero-lt-suc 255) s in omega (arith, l.small, m)

  pub one_before : {k n : ℕ} (b : ℕ) → 0 < k → b ≡ get_or d (at + (k - 1)) 0 → b ≤ 255 → Last d at w k n → Last d at w (k - 1) (256 * n + b)
  unfolding little
  one_before {k} {n} b p q s l =
      let e : w - (k - 1) ≡ suc (w - k) = omega (arith, l.left) in
      let f : at + (k - 1) + 1 ≡ at + k = omega arith in
      record {
        few = l.few;
        left = omega (arith, l.left);
        value = rw (e, f) (omega (arith, l.value, q));
        small = rw (e, pow-suc) (omega (arith, l.small, s));
      }

  pub all_read : {n : ℕ} → Last d at w 0 n → n ≡ little w d at
  all_read l = let e : at + 0 ≡ at = omega arith in let f : w - 0 ≡ w = omega arith in l.value ∙ ap₂ (λ (k a : ℕ). little k d a) f e

-- a product of two numbers of two bytes
pub product : (x y : ℕ) → x < 65536 → y < 65536 → x * y ≤ 65535 * 65535
product x y h k = mul-le-mul {n₂ = 65535} {m₂ = 65535} (omega arith) (omega arith)

-- what starts past the end, and what reaches past it
pub part_none : (d : List ℕ) (from len : ℕ) → length d ≤ from → part d from len ≡ []
part_none d from len h = ap (take len) (drop_of_length-le d {i = from} (omega arith)) ∙ take-nil len

pub part_rest : (d : List ℕ) (from len : ℕ) → length d - from ≤ len → part d from len ≡ drop from d
part_rest d from len h = take_all len (drop from d) (omega (arith, length-drop from d))

-- from the end on every part is empty
pub past_end : {s r : Bor (List ℕ)} {from : ℕ} (to len : ℕ) → length s.now ≤ from → from ≤ to → PartOf s from 0 r → PartOf s to len r
past_end {s} {r} {from} to len h l p =
    let e : min from (length s.now) ≡ min to (length s.now) = omega arith in
    record {
      bytes = p.bytes ∙ sym (part_none s.now to len (omega arith));
      place = p.place ∙ ap (λ (n : ℕ). (s.ref_ptr.0, n + s.ref_ptr.1)) e;
    }

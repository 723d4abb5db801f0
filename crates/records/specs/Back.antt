-- Laws. A number that was written is read back. Assumes nothing.
use Rattle.std.specs.Prelude.{ℕ, zero, suc, ◌+◌, ◌/◌, ◌%◌, ◌^◌, ◌<◌, List, [], ◌∷◌, ◌++◌, ◌≡◌, refl, length, get_or, drop}
use Rattle.std.proofs.Common.{sym, ◌∙◌, ap, div-lt_iff_lt-mul, pow-suc, arith, lit<, get_or-drop, drop-drop}
use Rattle.std.proofs.Math.Seq.{drop-append_seam}
use Rattle.records.specs.Bytes.{byte_at, little, little_bytes}

pub length_little : (k n : ℕ) → length (little_bytes k n) ≡ k
unfolding little_bytes
length_little zero n = refl
length_little (suc k) n = ap suc (length_little k (n / 256))

-- the first byte of what stands at a place, and what stands behind it
pub first_byte : (d : List ℕ) (at b : ℕ) (bs : List ℕ) → drop at d ≡ b ∷ bs → byte_at d at ≡ b
first_byte d at b bs e =
    let z : at ≡ at + 0 = omega arith in
    ap (byte_at d) z ∙ sym (get_or-drop at d 0 0) ∙ ap (λ (l : List ℕ). get_or l 0 0) e

pub behind : (d : List ℕ) (at : ℕ) (bs cs : List ℕ) (n : ℕ) → length bs ≡ n → drop at d ≡ bs ++ cs → drop (at + n) d ≡ cs
behind d at bs cs n l e = rw (← l) (sym (drop-drop (length bs) at d) ∙ ap (drop (length bs)) e ∙ drop-append_seam bs cs)

-- a number that fits its bytes
pub little_back : (k n : ℕ) (d : List ℕ) (at : ℕ) (cs : List ℕ) → n < 256 ^ k → drop at d ≡ little_bytes k n ++ cs → little k d at ≡ n
unfolding little_bytes little
little_back zero n d at cs h e = omega arith
little_back (suc k) n d at cs h e =
    let b = n % 256 in
    let rest = little_bytes k (n / 256) ++ cs in
    let small : n / 256 < 256 ^ k = (div-lt_iff_lt-mul (lit< tt)).1 (rw pow-suc at h) in
    rw (first_byte d at b rest e, little_back k (n / 256) d (at + 1) cs small (behind d at (b ∷ []) rest 1 refl e)) (omega arith)

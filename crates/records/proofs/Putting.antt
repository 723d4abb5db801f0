-- Laws. A number's bytes stored one after the other. Assumes nothing.
use Prim.Native.Nat.{ℕ, suc, ◌+◌, ◌-◌, ◌/◌, ◌%◌, ◌≤◌}
use mathlib.Core.List.{List, [], ◌∷◌}
use mathlib.Core.Path.{◌≡◌, refl, ◌∙◌, ap}
use native.Mathlib.Numerals.{add-one}
use native.Mathlib.Omega.{arith}
use lib.ListN.{length, set}
use lib.Seq.{sets, set_out}
use Rattle.records.specs.Bytes.{little_bytes}
use Rattle.records.specs.Stored.{joined}

-- two, four and eight bytes, one behind the other
pub two : (l : List ℕ) {m r : List ℕ} (at x : ℕ) → m ≡ set l at (x % 256) → r ≡ set m (at + 1) (x / 256 % 256) → r ≡ sets l at (little_bytes 2 x)
unfolding little_bytes
two l at x e f = f ∙ rw (e, add-one at)

pub four : (l : List ℕ) {m r : List ℕ} (at x : ℕ) → m ≡ sets l at (little_bytes 2 x) → r ≡ sets m (at + 2) (little_bytes 2 (x / 256 / 256)) → r ≡ sets l at (little_bytes 4 x)
unfolding little_bytes
four l at x e f = joined l (little_bytes 2 x) (little_bytes 2 (x / 256 / 256)) at (at + 2) e f refl

pub eight : (l : List ℕ) {m r : List ℕ} (at x : ℕ) → m ≡ sets l at (little_bytes 4 x) → r ≡ sets m (at + 4) (little_bytes 4 (x / 256 / 256 / 256 / 256)) → r ≡ sets l at (little_bytes 8 x)
unfolding little_bytes
eight l at x e f = joined l (little_bytes 4 x) (little_bytes 4 (x / 256 / 256 / 256 / 256)) at (at + 4) e f refl

-- a byte is stored, and then the rest; nothing is left, or there is no byte
pub one_byte : (out : List ℕ) (k left n : ℕ) {b : ℕ} → (left ≡ 0 → ⊥) → b ≡ n % 256 → sets out k (little_bytes left n) ≡ sets (set out k b) (k + 1) (little_bytes (left - 1) (n / 256))
unfolding little_bytes
one_byte out k left n h q = let e : left ≡ suc (left - 1) = omega arith in ap (λ (w : ℕ). sets out k (little_bytes w n)) e ∙ rw (add-one k, q)

pub no_byte : (out : List ℕ) (k left n : ℕ) → left ≡ 0 → sets out k (little_bytes left n) ≡ out
unfolding little_bytes
no_byte out k left n e = rw e

pub sets_past : (vs l : List ℕ) (i : ℕ) → length l ≤ i → sets l i vs ≡ l
sets_past [] l i h = refl
sets_past (v ∷ vs) l i h = let e = set_out l i v h in ap (λ (m : List ℕ). sets m (suc i) vs) e ∙ sets_past vs l (suc i) (omega arith)

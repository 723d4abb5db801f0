-- Laws. Runs of bytes that are put one behind the other. Assumes nothing.
use Prim.Native.Nat.{ℕ, ◌+◌}
use mathlib.Core.List.{List, ◌++◌}
use mathlib.Core.Path.{◌≡◌, refl}
use lib.ListN.{length}
use lib.Seq.{sets}
use Rattle.block.specs.declared.Indices.{Indices}
use Rattle.records.specs.Bytes.{little_bytes}
use Rattle.records.specs.Stored.{joined}
use Rattle.filling.specs.Work.{first_bytes, total_bytes, head_on}

-- three runs of bytes
runs : (l : List ℕ) {m r s : List ℕ} (at p q : ℕ) (xs ys zs : List ℕ) → m ≡ sets l at xs → r ≡ sets m p ys → s ≡ sets r q zs → p ≡ at + length xs → q ≡ p + length ys → s ≡ sets l at (xs ++ (ys ++ zs))
runs l {m} at p q xs ys zs a b c e f = joined l xs (ys ++ zs) at p a (joined m ys zs p q b c f) e

pub first_put : (l : List ℕ) {m r s : List ℕ} (x n far : ℕ) → m ≡ sets l 0 (little_bytes 2 x) → r ≡ sets m 2 (little_bytes 1 n) → s ≡ sets r 3 (little_bytes 1 far) → s ≡ sets l 0 (first_bytes x n far)
unfolding first_bytes little_bytes
first_put l x n far a b c = runs l 0 2 3 (little_bytes 2 x) (little_bytes 1 n) (little_bytes 1 far) a b c refl refl

pub totals_put : (l : List ℕ) {m r s : List ℕ} (x y z : ℕ) → m ≡ sets l 4 (little_bytes 4 x) → r ≡ sets m 8 (little_bytes 4 y) → s ≡ sets r 12 (little_bytes 4 z) → s ≡ sets l 4 (total_bytes x y z)
unfolding total_bytes little_bytes
totals_put l x y z a b c = runs l 4 8 12 (little_bytes 4 x) (little_bytes 4 y) (little_bytes 4 z) a b c refl refl

pub head_put : (l : List ℕ) {m r : List ℕ} (x : ℕ) (s : Indices) → m ≡ sets l 0 (first_bytes x s.atoms s.largest) → r ≡ sets m 4 (total_bytes s.even s.odd s.polarity) → r ≡ sets l 0 (head_on x s)
unfolding head_on first_bytes little_bytes
head_put l x s e f = joined l (first_bytes x s.atoms s.largest) (total_bytes s.even s.odd s.polarity) 0 4 e f refl

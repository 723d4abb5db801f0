-- Laws. A table's entries. Assumes nothing.
use Rattle.std.specs.Prelude.{ℕ, zero, suc, ◌<◌, ◌≡◌, refl, length, get_or}
use Rattle.std.proofs.Common.{ap, arith}
use Rattle.half.specs.Half.{table}

pub length-table : {A : Type 0} (n : ℕ) (f : ℕ → A) → length (table n f) ≡ n
unfolding table
length-table zero f = refl
length-table (suc n) f = ap suc (length-table n (λ k. f (suc k)))

pub get_or-table : {A : Type 0} (n : ℕ) (f : ℕ → A) (i : ℕ) (d : A) → i < n → get_or (table n f) i d ≡ f i
unfolding table
get_or-table zero f i d l = absurd (omega arith)
get_or-table (suc n) f zero d l = refl
get_or-table (suc n) f (suc i) d l = get_or-table n (λ k. f (suc k)) i d (omega arith)

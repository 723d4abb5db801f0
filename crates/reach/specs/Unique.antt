-- Laws. The promises of `measure`, `vertex_sums` and `opened` determine what is returned. Assumes nothing.
use Rattle.std.specs.Prelude.{ℕ, List, ◌≡◌, Result}
use Rattle.reply.specs.Chain.{unique}
use Rattle.block.specs.Block.{block_reply}
use Rattle.block.specs.Index.{indices_reply}
use Rattle.block.specs.Opened.{drawn_near}
use Rattle.block.specs.Rows.{lent_row}
use Rattle.reach.specs.Sums.{sums_reply}
use Rattle.reply.specs.Read.{as_result}
use Rattle.reply.specs.declared.Refusal.{Refusal}
use Rattle.block.specs.declared.Indices.{Indices}

pub unique-measure : (n : ℕ) (xs : List ℕ) (r s : Result Indices Refusal) → r ≡ as_result (indices_reply n xs) → s ≡ as_result (indices_reply n xs) → r ≡ s
unique-measure n xs r s = unique

-- the reply, and the lent sums
pub unique-vertex_sums : (n : ℕ) (xs : List ℕ) (r s : Result (Unit {0}) Refusal) (p q : List ℕ) → (r ≡ as_result (block_reply n xs)) × (p ≡ lent_row (sums_reply n xs))
    → (s ≡ as_result (block_reply n xs)) × (q ≡ lent_row (sums_reply n xs)) → (r ≡ s) × (p ≡ q)
unique-vertex_sums n xs r s p q x y = (unique x.0 y.0, unique x.1 y.1)

-- and the lent neighbours
pub unique-opened : (n : ℕ) (xs : List ℕ) (r s : Result Indices Refusal) (p q : List ℕ) → (r ≡ as_result (indices_reply n xs)) × (p ≡ drawn_near n xs)
    → (s ≡ as_result (indices_reply n xs)) × (q ≡ drawn_near n xs) → (r ≡ s) × (p ≡ q)
unique-opened n xs r s p q x y = (unique x.0 y.0, unique x.1 y.1)

-- Work. What the private functions give.
use Rattle.std.specs.Prelude.{ℕ, zero, suc, ◌+◌, ◌*◌, ◌/◌, ◌≤◌, cond, List, ◌≡◌, ltb, length, get_or}
use Rattle.reply.specs.Read.{read}
use Rattle.half.specs.Half.{half_row}
use Rattle.block.specs.Block.{most_atoms, graph_of, block_reply}
use Rattle.block.specs.Rows.{half_table}
use Rattle.block.specs.Numbered.{bond_at}
use Rattle.block.specs.Lent.{EntriesFilled}
use Rattle.szeged.specs.Szeged.{szeged_term, szeged}

-- how many of the first n entries of a row are smaller than those of another
unfoldable pub smaller : ℕ → List ℕ → List ℕ → ℕ
smaller zero one two = 0
smaller (suc n) one two = smaller n one two + cond (ltb (get_or one n 0) (get_or two n 0)) 1 0

pub record CloserCounted (n : ℕ) (one two : List ℕ) (r : ℕ) : Type 0 where
  pub is : r ≡ smaller n one two
  pub most : r ≤ n

-- what half a table says of a bond of a and b
abbrev pub term_by : ℕ → List ℕ → ℕ → ℕ → ℕ
term_by n half a b = smaller n (half_row half a) (half_row half b) * smaller n (half_row half b) (half_row half a)

pub record Product (n : ℕ) (half : List ℕ) (a b r : ℕ) : Type 0 where
  pub is : r ≡ term_by n half a b
  pub most : r ≤ most_atoms * most_atoms

-- a block that is not refused, half of its distances, and room for its bonds
pub record TermsTask (n : ℕ) (xs half out : List ℕ) : Type 0 where
  pub fine : block_reply n xs ≡ read tt
  pub far : half ≡ half_table n xs
  pub room : length xs / 2 ≤ length out

-- the index, and the terms in front of what stays
pub record Done (n : ℕ) (xs old new : List ℕ) (r : ℕ) : Type 0 where
  pub is : r ≡ szeged (graph_of n xs)
  pub entries : EntriesFilled (length xs / 2) (λ k. szeged_term (graph_of n xs) (bond_at xs k)) old new

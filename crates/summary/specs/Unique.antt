-- Laws. Each promise determines the reply: two replies that satisfy it are equal. Assumes nothing.
use Rattle.std.specs.Prelude.{ℕ, List, ◌≡◌}
use Rattle.reply.specs.Chain.{unique}
use Rattle.block.specs.declared.Indices.{Indices}
use Rattle.sighted.specs.declared.Seen.{Seen}
use Rattle.summary.specs.Layout.{stored_atoms, stored_fields, seen_at, stored_degree}

module _ (s : List ℕ) where
  pub unique-atoms : (p q : ℕ) → p ≡ stored_atoms s → q ≡ stored_atoms s → p ≡ q
  unique-atoms p q = unique

  pub unique-fields : (p q : Indices) → p ≡ stored_fields s → q ≡ stored_fields s → p ≡ q
  unique-fields p q = unique

  module _ (i : ℕ) where
    pub unique-seen : (p q : Seen) → p ≡ seen_at s i → q ≡ seen_at s i → p ≡ q
    unique-seen p q = unique

    pub unique-ends : (p q : ℕ) → p ≡ stored_degree s i → q ≡ stored_degree s i → p ≡ q
    unique-ends p q = unique

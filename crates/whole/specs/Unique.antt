-- Laws. Two replies that meet the promise are equal, and so are the lent numbers after both; how many atoms stand before a placement is one number. Assumes nothing.
use Rattle.std.specs.Prelude.{ℕ, List, ◌≡◌, length, Result}
use Rattle.std.proofs.Common.{sym, ◌∙◌}
use Rattle.graph.specs.Assembly.{start_at}
use Rattle.reply.specs.declared.Refusal.{Refusal}
use Rattle.reply.specs.declared.Counts.{Counts}
use Rattle.block.specs.Block.{said_molecule}
use Rattle.deck.specs.Deck.{Deck}
use Rattle.deck.specs.Molecule.{graph_at}
use Rattle.whole.specs.Whole.{whole_reply, numbers_after}

pub unique-bonds : (d : List ℕ) (n : ℕ) {a b : Result Counts Refusal} → a ≡ said_molecule (whole_reply d n) → b ≡ said_molecule (whole_reply d n) → a ≡ b
unique-bonds d n p q = p ∙ sym q

pub unique-numbers : (d out : List ℕ) {a b : List ℕ} → a ≡ numbers_after (whole_reply d (length out)) out → b ≡ numbers_after (whole_reply d (length out)) out → a ≡ b
unique-numbers d out p q = p ∙ sym q

pub unique-start_of : (d : List ℕ) (k : Deck) (i : ℕ) {a b : ℕ} → a ≡ start_at (graph_at d k) i → b ≡ start_at (graph_at d k) i → a ≡ b
unique-start_of d k i p q = p ∙ sym q

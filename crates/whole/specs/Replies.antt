-- Laws. What a deck's molecule is told: the deck's refusal, 9, or the bonds placement by placement. Assumes nothing.
use Rattle.std.specs.Prelude.{ℕ, zero, suc, ◌*◌, ◌-◌, ◌≤◌, ◌<◌, List, ◌≡◌}
use Rattle.std.proofs.Math.Path.{ap}
use Rattle.std.proofs.Common.{arith}
use borrow.Author.Tests.{lt-ltb, le-ltb}
use Rattle.std.proofs.Math.ListN.{length}
use Rattle.graph.specs.Graph.{Graph}
use Rattle.graph.specs.Assembly.{Join, start_at, written}
use Rattle.reply.specs.Read.{refused, read, refusal}
use Rattle.reply.specs.declared.Refusal.{Refusal}
use Rattle.deck.specs.Deck.{Deck, deck_reply}
use Rattle.deck.specs.Molecule.{graph_at, join_at, molecule_of}
use Rattle.deck.specs.declared.Form.TheVariants.{Composed}
use Rattle.deck.specs.Sound.{whole}
use Rattle.whole.specs.Whole.{whole_reply}
use Rattle.whole.specs.Work.{most_numbers, bonds_before}
use Rattle.whole.specs.Laws.{written-atoms, written-bonds}
use Rattle.whole.specs.Joins.{before_few}

pub whole_refused : (d : List ℕ) (n : ℕ) {r : Refusal} → deck_reply Composed d ≡ refused r → whole_reply d n ≡ refused r
unfolding whole_reply
whole_refused d n e = rw e

bonds_of : (blocks : ℕ → Graph) (joins : ℕ → Join) (p : ℕ) → 1 ≤ p → (written blocks joins (p - 1)).bonds ≡ bonds_before blocks joins p
bonds_of blocks joins zero h = absurd (omega arith)
bonds_of blocks joins (suc k) h = let e : suc k - 1 ≡ k = omega arith in rw e (written-bonds blocks joins k)

atoms_of : (blocks : ℕ → Graph) (joins : ℕ → Join) (p : ℕ) → 1 ≤ p → (written blocks joins (p - 1)).atoms ≡ start_at blocks p
atoms_of blocks joins zero h = absurd (omega arith)
atoms_of blocks joins (suc k) h = let e : suc k - 1 ≡ k = omega arith in rw e (written-atoms blocks joins k)

module _ (d : List ℕ) (n : ℕ) (k : Deck) (e : deck_reply Composed d ≡ read k) where
  pub molecule_bonds : (molecule_of d k).bonds ≡ bonds_before (graph_at d k) (join_at d k) k.placements
  unfolding molecule_of
  molecule_bonds = bonds_of (graph_at d k) (join_at d k) k.placements (whole Composed d k e).count.low

  pub molecule_atoms : (molecule_of d k).atoms ≡ start_at (graph_at d k) k.placements
  unfolding molecule_of
  molecule_atoms = atoms_of (graph_at d k) (join_at d k) k.placements (whole Composed d k e).count.low

  pub whole_short : n < 2 * length (bonds_before (graph_at d k) (join_at d k) k.placements) → whole_reply d n ≡ refused (refusal 9 0)
  unfolding whole_reply
  whole_short h = rw (e, lt-ltb n (2 * length (molecule_of d k).bonds) (omega (arith, ap length molecule_bonds)))

  pub whole_read : 2 * length (bonds_before (graph_at d k) (join_at d k) k.placements) ≤ n → whole_reply d n ≡ read (molecule_of d k)
  unfolding whole_reply
  whole_read h = rw (e, le-ltb n (2 * length (molecule_of d k).bonds) (omega (arith, ap length molecule_bonds)))

  -- no molecule takes more numbers than that
  pub molecule_few : 2 * length (molecule_of d k).bonds ≤ most_numbers
  molecule_few = let w = whole Composed d k e in omega (arith, ap length molecule_bonds, before_few w k.placements (omega arith), w.count.high)

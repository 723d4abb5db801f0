-- Definitions. What it means that two molecules, two blocks or two decks differ only in the numbering of their atoms.
use Rattle.std.specs.Prelude.{ℕ, true, List, ◌≡◌}
use Rattle.graph.specs.Graph.{Graph, Bond, joins, bonded}
use Rattle.reply.specs.Read.{read}
use Rattle.block.specs.Block.{graph_of, block_reply}
use Rattle.deck.specs.Deck.{Deck, deck_reply}
use Rattle.deck.specs.Molecule.{molecule_of}
use Rattle.deck.specs.declared.Form.{Form}
use Rattle.graph.specs.Matching.{Matching}

-- The atoms are matched one to one, and bonds are carried to bonds: where two atoms are bonded so are their partners, and back. `bonded` asks whether some bond of the list
-- joins the two, whichever end is written first: so the order of the list and the ends of a bond are free.
pub record Renumbered (g h : Graph) : Type 0 where
  pub numbers : Matching g.atoms h.atoms
  pub carried : (u v : ℕ) → bonded g u v ≡ true → bonded h (numbers.to u) (numbers.to v) ≡ true
  pub brought : (u v : ℕ) → bonded h u v ≡ true → bonded g (numbers.back u) (numbers.back v) ≡ true

-- bond f is where bond e is: it joins the partners of its ends, either end first
abbrev pub Partners : {g h : Graph} → Renumbered g h → Bond → Bond → Type 0
Partners r e f = joins f (r.numbers.to e.one) (r.numbers.to e.two) ≡ true

-- two blocks that are not refused
pub record RelistedBlocks (n : ℕ) (xs : List ℕ) (m : ℕ) (ys : List ℕ) : Type 0 where
  pub one : block_reply n xs ≡ read tt
  pub two : block_reply m ys ≡ read tt
  pub renumbered : Renumbered (graph_of n xs) (graph_of m ys)

-- Two decks that are not refused, each in its form. What is matched are the atoms of the molecules written out: so the cut into blocks and their placements are free.
pub record RelistedDecks (a b : Form) (c d : List ℕ) : Type 0 where
  pub first : Deck
  pub second : Deck
  pub one : deck_reply a c ≡ read first
  pub two : deck_reply b d ≡ read second
  pub renumbered : Renumbered (molecule_of c first) (molecule_of d second)

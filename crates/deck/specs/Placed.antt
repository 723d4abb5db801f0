-- Definitions. The distance of two placed atoms of a deck, in the molecule written out. Document 01: "A query about a placement or atom that doesn't exist, on a
-- composed deck .., answers 18 at place 0 after the deck's .. refusals."
use Rattle.std.specs.Prelude.{ℕ, ◌-◌, Bool, ◌||◌, List, take}
use Rattle.graph.specs.Graph.{distance}
use Rattle.graph.specs.Assembly.{atom_of}
use Rattle.reply.specs.Read.{Read, read, ◌then◌, refuse_if, is_outside}
use Rattle.deck.specs.Deck.{Deck, deck_reply}
use Rattle.deck.specs.Molecule.{graph_at, molecule_of}
use Rattle.deck.specs.declared.Form.TheVariants.{Composed}
use Rattle.deck.specs.declared.Layout.{Layout}

-- the deck that a layout says
abbrev pub deck_of : Layout → Deck
deck_of x = record { blocks = take x.count x.blocks; assembly = x.assembly; placements = x.placements; sheet = x.sheet }

-- placement number k does not exist, or has no atom i
unfoldable pub is_missing : List ℕ → Deck → ℕ → ℕ → Bool
is_missing d deck k i = is_outside deck.placements k || is_outside (graph_at d deck (k - 1)).atoms i

-- atom i of placement number k and atom j of placement number l
unfoldable pub placed_distance_reply : List ℕ → ℕ → ℕ → ℕ → ℕ → Read ℕ
placed_distance_reply d k i l j =
    deck_reply Composed d then λ deck.
    refuse_if (is_missing d deck k i || is_missing d deck l j) 18 0 then λ _.
    read (distance (molecule_of d deck) (atom_of (graph_at d deck) k i) (atom_of (graph_at d deck) l j))

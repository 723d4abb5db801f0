-- Laws. An atom that does not miss is placed, and a layout says the deck that it was made of. Assumes nothing.
use Rattle.std.specs.Prelude.{ℕ, ◌-◌, false, List, ◌≡◌}
use Rattle.std.proofs.Common.{ap, arith}
use Rattle.std.proofs.Math.Seq.{take-append_seam}
use Rattle.graph.specs.Assembly.{Placed}
use Rattle.reply.specs.Read.{is_outside}
use Rattle.reply.specs.Chain.{neither}
use Rattle.block.specs.Faults.{inside}
use Rattle.deck.specs.Deck.{Deck}
use Rattle.deck.specs.Molecule.{graph_at}
use Rattle.deck.specs.Placed.{deck_of, is_missing}
use Rattle.deck.specs.Said.{layout_of}

pub laid_out : (k : Deck) → deck_of (layout_of k) ≡ k
laid_out k = ap (λ (bs : List _). record { blocks = bs; assembly = k.assembly; placements = k.placements; sheet = k.sheet }) (take-append_seam k.blocks _)

pub present : (d : List ℕ) (deck : Deck) (k i : ℕ) → is_missing d deck k i ≡ false → Placed (graph_at d deck) (deck.placements - 1) k i
unfolding is_missing
present d deck k i e =
    let (a, b) = neither (is_outside deck.placements k) (is_outside (graph_at d deck (k - 1)).atoms i) e in
    let w = inside deck.placements k a in
    record { number = omega arith; atom = inside (graph_at d deck (k - 1)).atoms i b }

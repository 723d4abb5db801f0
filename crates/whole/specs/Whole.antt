-- Definitions. The molecule of a deck written out as numbers: two for each bond, the atoms that it joins, counted over the whole molecule.
use Rattle.std.specs.Prelude.{ℕ, ◌*◌, List, [], ◌∷◌, ltb, length}
use Rattle.std.proofs.lemmas.List.Edits.{sets}
use Rattle.graph.specs.Graph.{Bond, Graph}
use Rattle.reply.specs.Read.{Read, refused, read, ◌then◌, refuse_if}
use Rattle.deck.specs.Deck.{deck_reply}
use Rattle.deck.specs.Molecule.{molecule_of}
use Rattle.deck.specs.declared.Form.TheVariants.{Composed}

-- bonds as numbers, two each
unfoldable pub pair_numbers : List Bond → List ℕ
pair_numbers [] = []
pair_numbers (b ∷ bs) = b.one ∷ b.two ∷ pair_numbers bs

-- the molecule of a deck without a sheet: the deck's refusals, then 9 where fewer numbers are lent than its bonds take
unfoldable pub whole_reply : List ℕ → ℕ → Read Graph
whole_reply d room =
    deck_reply Composed d then λ k.
    refuse_if (ltb room (2 * length (molecule_of d k).bonds)) 9 0 then λ _.
    read (molecule_of d k)

-- the lent numbers after the call: a molecule's bonds at their front, and no other where it is refused
unfoldable pub numbers_after : Read Graph → List ℕ → List ℕ
numbers_after (refused r) out = out
numbers_after (read g) out = sets out 0 (pair_numbers g.bonds)

-- Definitions. The six fields of a deck: those of the one graph with every atom and bond written out, or the deck's refusal.
use Rattle.std.specs.Prelude.{List, ℕ}
use Rattle.reply.specs.Read.{Read, refused, read, ◌then◌}
use Rattle.block.specs.Index.{indices_of}
use Rattle.block.specs.declared.Indices.{Indices}
use Rattle.deck.specs.Deck.{sheet_reply, deck_reply}
use Rattle.deck.specs.Molecule.{molecule_of}
use Rattle.deck.specs.declared.Form.{Form}
use Rattle.compose.specs.declared.Composed.{Composed}

-- with the first byte after its assembly, where the sheet of a judged deck stands
unfoldable pub compose_reply : Form → List ℕ → Read Composed
compose_reply form d = deck_reply form d then λ k. read (record { fields = indices_of (molecule_of d k); sheet = k.sheet })

-- behind the assembly
unfoldable pub behind_reply : Form → List ℕ → Indices → ℕ → Read Composed
behind_reply form d fields sheet = sheet_reply form d sheet then λ _. read (record { fields = fields; sheet = sheet })

-- the fields alone
unfoldable pub fields_reply : Form → List ℕ → Read Indices
fields_reply form d = deck_reply form d then λ k. read (indices_of (molecule_of d k))

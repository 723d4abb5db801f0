-- Definitions. The deck with a product's assembly written out: the same blocks, and an assembly where the library stood.
use Rattle.std.specs.Prelude.{ℕ, List, ◌∷◌, ◌++◌, length, take}
use Rattle.records.specs.Records.{assembly_kind}
use Rattle.catalogue.specs.Library.{Library}
use Rattle.catalogue.specs.Products.{assembly_at}

-- the record of an assembly of up to 255 bytes
unfoldable pub assembly_record : List ℕ → List ℕ
assembly_record ys = length ys ∷ 0 ∷ assembly_kind.number ∷ 0 ∷ ys

-- the deck with the product at a position written out
abbrev pub product_deck : List ℕ → Library → ℕ → List ℕ
product_deck d l position = take l.at d ++ assembly_record (assembly_at d l position)

-- Definitions. Composing over a book of summaries, whatever its bytes: the refusals of the assembly over the book, or the six fields by the joining rules over what
-- the summaries say.
use Rattle.std.specs.Prelude.{ℕ, ◌-◌, List}
use Rattle.reply.specs.Read.{Read, read, ◌then◌}
use Rattle.assembly.specs.Placements.{placement_count, placement_at, join_on, shelf_reply}
use Rattle.block.specs.declared.Indices.{Indices}
use Rattle.joining.specs.Parts.{Part, six_in}
use Rattle.summary.specs.Layout.{kept_of}
use Rattle.shelf.specs.Shelf.{summary_at, place_of, shelf_in}

-- what is kept of the block of the placement at an index
abbrev pub kept_on : List ℕ → List ℕ → ℕ → Part
kept_on b xs k = kept_of (summary_at b (place_of b (placement_at xs k).block))

unfoldable pub composed_reply : List ℕ → List ℕ → Read Indices
composed_reply b xs = shelf_reply (shelf_in b) xs then λ _. read (six_in (kept_on b xs) (join_on (placement_at xs)) (placement_count xs - 1))

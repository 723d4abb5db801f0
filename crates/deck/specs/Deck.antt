-- Definitions. The deck: its records one after the other, each refused or taken. docs/RULES.md, "The deck", "Refusals", "Order" and "Place".
use Rattle.std.specs.Prelude.{ℕ, zero, suc, ◌+◌, ◌*◌, ◌-◌, Bool, ◌||◌, cond, List, [], ◌∷◌, ◌++◌, ◌≡◌, refl, eqb, leb, ltb, length}
use Rattle.reply.specs.declared.Refusal.{Refusal}
use Rattle.reply.specs.Read.{Read, refused, read, ◌then◌, refuse_if, refusal, if_else}
use Rattle.block.specs.Block.{block_reply}
use Rattle.records.specs.Bytes.{le16, part}
use Rattle.records.specs.declared.Kind.{Kind}
use Rattle.records.specs.declared.Sheet.TheVariants.{Five, Six}
use Rattle.records.specs.Records.{head_bytes, block_kind, assembly_kind, sheet_kind, kind_at, payload_at, end_at, record_reply}
use Rattle.assembly.specs.declared.BlockAt.{BlockAt}
use Rattle.assembly.specs.Book.{used, find, bond_bytes, book_of, most_blocks}
use Rattle.assembly.specs.Placements.{placement_count, assembly_reply}
use Rattle.deck.specs.declared.Form.{Form}
use Rattle.deck.specs.declared.Form.TheVariants.{Composed, Judged}

abbrev pub longest_deck : ℕ
longest_deck = 32768

-- what stands where in a deck: its blocks, its assembly, how many placements that has, and the first byte after it
pub record Deck : Type 0 where
  pub blocks : List BlockAt
  pub assembly : ℕ
  pub placements : ℕ
  pub sheet : ℕ

-- What may stand first is a block, then a block or the last kind; after the assembly, in a deck to be judged, a sheet of either kind.
abbrev pub kinds_after : List BlockAt → Kind → List Kind
kinds_after [] last = block_kind ∷ []
kinds_after (b ∷ bs) last = block_kind ∷ last ∷ []

abbrev pub sheet_kinds : List Kind
sheet_kinds = sheet_kind Five ∷ sheet_kind Six ∷ []

-- what the block record at a place says
abbrev pub block_at : List ℕ → ℕ → BlockAt
block_at d at =
    let start = at + head_bytes in
    record { number = le16 d start; start = start; atoms = le16 d (start + 2); bonds = le16 d (start + block_kind.count) }

-- the same refusal at another place
abbrev pub moved : {A : Type 0} → (Refusal → ℕ) → Read A → Read A
moved place (refused r) = refused (refusal r.number (place r))
moved place (read x) = read x

-- the first byte of bond number j, from 1, of the block record at a place
abbrev pub bond_place : ℕ → ℕ → ℕ
bond_place at j = at + head_bytes + block_kind.fixed + block_kind.item * (j - 1)

-- the place of a block's refusal, by its record's first byte: the bond's first byte where the refusal has a bond's number, else the record's
abbrev pub block_place : ℕ → Refusal → ℕ
block_place at r = cond (eqb r.place 0) at (bond_place at r.place)

-- the place of an assembly's refusal: the placement's first byte, or the record's. `head_and_count` is why one factor serves both.
abbrev pub placement_place : ℕ → Refusal → ℕ
placement_place at r = at + assembly_kind.item * r.place

-- what stands before the first placement is as long as a placement
pub head_and_count : head_bytes + assembly_kind.fixed ≡ assembly_kind.item
head_and_count = refl

-- a number is 0 or was used before, or there is no room for a block
abbrev pub unfit_after : List BlockAt → ℕ → Bool
unfit_after done x = eqb x 0 || used done x || leb most_blocks (length done)

-- 14 and the block's own of the block record at a place, after the blocks of `done`
unfoldable pub block_reply_at : List ℕ → ℕ → List BlockAt → Read (Unit {0})
block_reply_at d at done =
    let b = block_at d at in
    refuse_if (unfit_after done b.number) 14 at then λ _.
    moved (block_place at) (block_reply b.atoms (bond_bytes d b))

-- a deck whose blocks end before the record at a place
abbrev pub deck_at : List ℕ → List BlockAt → ℕ → Deck
deck_at d blocks at = record { blocks = blocks; assembly = at; placements = placement_count (payload_at d at); sheet = end_at d at }

-- Blocks from a place on, after those of `done`, up to a record of the kind `last`. There is fuel for one turn more than blocks, which lasts (`fuel_lasts`).
unfoldable pub blocks_from : ℕ → Kind → List ℕ → ℕ → List BlockAt → Read Deck
blocks_from zero last d at done = refused (refusal 14 at)
blocks_from (suc fuel) last d at done =
    record_reply (kinds_after done last) d at then λ _.
    if_else (eqb (kind_at d at) block_kind.number)
    (λ _. block_reply_at d at done then λ _. blocks_from fuel last d (end_at d at) (done ++ block_at d at ∷ []))
    (λ _. read (deck_at d done at))

unfoldable pub blocks_reply : Kind → List ℕ → Read Deck
blocks_reply last d = blocks_from (suc most_blocks) last d 0 []

-- 20, then the blocks: what every deck is told before a record of the kind `last`
unfoldable pub open_reply : Kind → List ℕ → Read Deck
open_reply last d = refuse_if (ltb longest_deck (length d)) 20 0 then λ _. blocks_reply last d

-- 15 to 19, 23 and 24 of its assembly
unfoldable pub assembly_reply_at : List ℕ → List BlockAt → ℕ → Read (Unit {0})
assembly_reply_at d blocks at = moved (placement_place at) (assembly_reply (book_of d blocks) (payload_at d at))

-- after the last record nothing follows
unfoldable pub end_reply : List ℕ → ℕ → Read (Unit {0})
end_reply d at = refuse_if (ltb at (length d)) 11 at

unfoldable pub sheet_reply : Form → List ℕ → ℕ → Read (Unit {0})
sheet_reply Composed d at = end_reply d at
sheet_reply Judged d at = record_reply sheet_kinds d at then λ _. end_reply d (end_at d at)

unfoldable pub deck_reply : Form → List ℕ → Read Deck
deck_reply form d =
    refuse_if (ltb longest_deck (length d)) 20 0 then λ _.
    blocks_reply assembly_kind d then λ k.
    assembly_reply_at d k.blocks k.assembly then λ _.
    sheet_reply form d k.sheet then λ _.
    read k

-- a part of a deck: its first byte, and how many bytes it has
pub record Span : Type 0 where
  pub from : ℕ
  pub len : ℕ

abbrev pub nowhere : Span
nowhere = record { from = 0; len = 0 }

-- the payload of the block of a number, and nothing where there is no such block
unfoldable pub payload : List BlockAt → ℕ → Span
payload bs x = let b = find bs x in cond (used bs x) (record { from = b.start; len = block_kind.fixed + block_kind.item * b.bonds }) nowhere

abbrev pub payload_or : ℕ → Read Deck → Span → Span
payload_or x (refused r) other = other
payload_or x (read k) other = payload k.blocks x

-- the lookup: where the payload of a block stands, in whichever form the deck is not refused
unfoldable pub block_span : List ℕ → ℕ → Span
block_span d x = payload_or x (deck_reply Composed d) (payload_or x (deck_reply Judged d) nowhere)

abbrev pub block_part : List ℕ → ℕ → List ℕ
block_part d x = part d (block_span d x).from (block_span d x).len

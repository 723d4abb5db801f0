-- Steps of reading the blocks of a deck: what is left to do gives the answer. Assumes nothing.
use Prim.Native.Nat.{ℕ, suc, ◌+◌, ◌*◌, ◌<◌, ◌≤◌}
use mathlib.Core.Bool.{Bool, true, false, cond}
use mathlib.Core.List.{List, [], ◌∷◌, ◌++◌}
use mathlib.Core.Path.{◌≡◌, refl, sym, ◌∙◌, ap}
use native.Mathlib.Numerals.{add-one}
use native.Mathlib.Omega.{arith}
use borrow.Author.Tests.{eq-eqb, ne_eqb}
use lib.Dec.{eqb}
use lib.ListN.{length, take, drop, set, replicate, take-append-drop, length-take, length-drop}
use lib.Seq.{length-take-le, take-suc-set, drop-set-lt, drop-drop}
use Rattle.reply.specs.Read.{Read, refused, read, refusal, as_result}
use Rattle.block.specs.Block.{bonds_of, block_reply}
use Rattle.block.specs.Told.{place_within}
use Rattle.reply.specs.declared.Refusal.{Refusal}
use Rattle.records.specs.Bytes.{part}
use Rattle.records.specs.Records.{block_kind, kind_at, end_at, kind_reply, record_reply}
use Rattle.records.specs.declared.Kind.{Kind}
use Rattle.assembly.specs.Book.{no_block, bond_bytes, most_blocks}
use Rattle.assembly.specs.declared.BlockAt.{BlockAt}
use Rattle.deck.specs.Deck.{kinds_after, block_at, moved, block_place, unfit_after, block_reply_at, deck_at, blocks_from}
use Rattle.deck.specs.Said.{block_table, tabled_deck, moved_reply, said_deck}

-- a kind that is named twice
twice : (t : Bool) (x y : Read Kind) → cond t x (cond t x y) ≡ cond t x y
twice true x y = refl
twice false x y = refl

pub once : (k : Kind) (d : List ℕ) (at : ℕ) → record_reply (k ∷ k ∷ []) d at ≡ record_reply (k ∷ []) d at
unfolding record_reply kind_reply
once k d at = rw (twice (eqb (kind_at d at) k.number) (read k) (refused (refusal 12 at)))

pub second : (done : List BlockAt) (last : Kind) (d : List ℕ) (at : ℕ)
    → record_reply (block_kind ∷ cond (eqb (length done) 0) block_kind last ∷ []) d at ≡ record_reply (kinds_after done last) d at
second [] last d at = once block_kind d at
second (b ∷ bs) last d at = rw (ne_eqb (length (b ∷ bs)) 0 (omega arith))

pub moved_said : (place : Refusal → ℕ) (x : Read (Unit {0})) → moved_reply place (as_result x) ≡ as_result (moved place x)
moved_said place (refused r) = refl
moved_said place (read u) = refl

-- the place of a refusal of a block of a deck is no more than the deck is long
bonds_few : (xs : List ℕ) → length (bonds_of xs) ≤ length xs
unfolding bonds_of
bonds_few [] = omega arith
bonds_few (a ∷ []) = omega arith
bonds_few (a ∷ (b ∷ xs)) = omega (arith, bonds_few xs)

part_short : (d : List ℕ) (from len : ℕ) → length (part d from len) ≤ length d
part_short d from len = omega (arith, length-take len (drop from d), length-drop from d)

pub place_low : (d : List ℕ) (b : BlockAt) (r : Refusal) → block_reply b.atoms (bond_bytes d b) ≡ refused r → r.place ≤ length d
place_low d b r e =
    omega (
      arith,
      place_within b.atoms (bond_bytes d b) r e,
      bonds_few (bond_bytes d b),
      part_short d (b.start + block_kind.fixed) (block_kind.item * b.bonds),
    )

-- 14 and the block's own
abbrev pub unfit : List ℕ → ℕ → List BlockAt → Bool
unfit d at done = unfit_after done (block_at d at).number

module _ (d : List ℕ) (at : ℕ) (done : List BlockAt) where
  pub number_unfit : unfit d at done ≡ true → block_reply_at d at done ≡ refused (refusal 14 at)
  unfolding block_reply_at
  number_unfit e = rw e

  pub number_fit : unfit d at done ≡ false → block_reply_at d at done ≡ moved (block_place at) (block_reply (block_at d at).atoms (bond_bytes d (block_at d at)))
  unfolding block_reply_at
  number_fit e = rw e

-- a turn of the loop over blocks
module _ (fuel : ℕ) (last : Kind) (d : List ℕ) (at : ℕ) (done : List BlockAt) where
  pub no_record : (r : Refusal) → record_reply (kinds_after done last) d at ≡ refused r → blocks_from (suc fuel) last d at done ≡ refused r
  unfolding blocks_from
  no_record r e = rw e

  module _ (e : record_reply (kinds_after done last) d at ≡ read tt) where
    pub no_block_lem : (kind_at d at ≡ 1 → ⊥) → blocks_from (suc fuel) last d at done ≡ read (deck_at d done at)
    unfolding blocks_from
    no_block_lem k = rw (e, ne_eqb (kind_at d at) 1 k)

    module _ (k : kind_at d at ≡ 1) where
      pub bad_block : (r : Refusal) → block_reply_at d at done ≡ refused r → blocks_from (suc fuel) last d at done ≡ refused r
      unfolding blocks_from
      bad_block r f = rw (e, eq-eqb (kind_at d at) 1 k, f)

      pub one_block : block_reply_at d at done ≡ read tt → blocks_from (suc fuel) last d at done ≡ blocks_from fuel last d (end_at d at) (done ++ block_at d at ∷ [])
      unfolding blocks_from
      one_block f = rw (e, eq-eqb (kind_at d at) 1 k, f)

-- a table whose places past `count` are empty is the table of its first `count` blocks
pub table_is : (t : List BlockAt) (count : ℕ) → count ≤ length t → drop count t ≡ drop count (replicate most_blocks no_block) → t ≡ block_table (take count t)
table_is t count h e =
    let n : length (take count t) ≡ count = length-take-le count t h in
    rw n (sym (take-append-drop count t) ∙ ap (λ (x : List BlockAt). take count t ++ x) e)

pub table_grows : (t : List BlockAt) (count : ℕ) (b : BlockAt) → count < length t → take (count + 1) (set t count b) ≡ take count t ++ b ∷ []
table_grows t count b h = rw add-one (take-suc-set t count b h)

pub table_next : (t : List BlockAt) (count : ℕ) (b : BlockAt) → drop count t ≡ drop count (replicate most_blocks no_block)
    → drop (count + 1) (set t count b) ≡ drop (count + 1) (replicate most_blocks no_block)
table_next t count b e =
    drop-set-lt (count + 1) t count b (omega arith)
    ∙ sym (drop-drop 1 count t)
    ∙ ap (λ (x : List BlockAt). drop 1 x) e
    ∙ drop-drop 1 count (replicate most_blocks no_block)

-- a deck as the code has it
pub said : (d : List ℕ) (table bs : List BlockAt) (count at : ℕ) → table ≡ block_table bs → count ≡ length bs → tabled_deck d table count at ≡ said_deck (read (deck_at d bs at))
said d table bs count at e f = rw (e, f)

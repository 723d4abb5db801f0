-- The heads of a deck's records: no more blocks are read than there are heads of blocks. Assumes nothing.
use Prim.Native.Nat.{ℕ, zero, suc, ◌+◌, ◌≤◌, ◌<◌}
use mathlib.Core.Bool.{Bool, true, false}
use mathlib.Core.List.{List, [], ◌∷◌, ◌++◌}
use mathlib.Core.Logic.{⊎_elim}
use mathlib.Core.Path.{◌≡◌, refl}
use native.Mathlib.Omega.{arith}
use borrow.Author.Tests.{eq-eqb, ne_eqb, eqb-true, eqb-false}
use lib.Dec.{eqb}
use lib.ListN.{length, length-append}
use Rattle.reply.specs.Read.{read}
use Rattle.reply.specs.Chain.{not_read, then-read}
use Rattle.records.specs.Records.{block_kind, kind_at, end_at, record_reply}
use Rattle.records.specs.declared.Kind.{Kind}
use Rattle.assembly.specs.Book.{most_blocks}
use Rattle.assembly.specs.declared.BlockAt.{BlockAt}
use Rattle.deck.specs.Deck.{kinds_after, Deck, block_at, deck_at, block_reply_at, blocks_from, blocks_reply}
use Rattle.deck.specs.Kept.{fit, chosen}
use Rattle.deck.specs.Unfilled.{heads_from}

-- one head more, and none
pub heads_end : (left : ℕ) (d : List ℕ) (at : ℕ) → left ≡ 0 → heads_from left d at ≡ 0
unfolding heads_from
heads_end zero d at e = refl
heads_end (suc left) d at e = absurd (omega arith)

module _ (left : ℕ) (d : List ℕ) (at : ℕ) where
  pub head_more : kind_at d at ≡ 1 → heads_from (suc left) d at ≡ suc (heads_from left d (end_at d at))
  unfolding heads_from
  head_more k = rw (eq-eqb (kind_at d at) 1 k)

  pub head_none : (kind_at d at ≡ 1 → ⊥) → heads_from (suc left) d at ≡ 0
  unfolding heads_from
  head_none k = rw (ne_eqb (kind_at d at) 1 k)

-- no more than are asked for
pub heads_most : (left : ℕ) (d : List ℕ) (at : ℕ) → heads_from left d at ≤ left
heads_most zero d at = omega (arith, heads_end zero d at refl)
heads_most (suc left) d at = go (eqb (kind_at d at) 1) refl (heads_most left d (end_at d at))
  where
    go : (t : Bool) → eqb (kind_at d at) 1 ≡ t → heads_from left d (end_at d at) ≤ left → heads_from (suc left) d at ≤ suc left
    go true e h = omega (arith, head_more left d at (eqb-true (kind_at d at) 1 e))
    go false e h = omega (arith, head_none left d at (eqb-false (kind_at d at) 1 e))

module _ (last : Kind) (d : List ℕ) where
  -- the blocks that are read are no more than the heads
  few : (fuel at : ℕ) (done : List BlockAt) {k : Deck} (left : ℕ) → length done + left ≡ most_blocks → blocks_from fuel last d at done ≡ read k → length k.blocks ≤ length done + heads_from left d at
  unfolding blocks_from
  few zero at done left l e = absurd (not_read e)
  few (suc fuel) at done {k} left l e =
      let (u, p, f) = then-read (record_reply (kinds_after done last) d at) _ e in
      ⊎_elim
      (λ t.
      let (v, q, g) = then-read (block_reply_at d at done) _ t.1 in
      let n : length (done ++ block_at d at ∷ []) ≡ length done + 1 = simp length-append in
      go left l (fit d at done q).room (eqb-true (kind_at d at) block_kind.number t.0) n (λ rest m. few fuel (end_at d at) (done ++ block_at d at ∷ []) rest m g))
      (λ t.
      let same : deck_at d done at ≡ k = cc t.1 in
      rw (← same) (omega arith))
      (chosen (eqb (kind_at d at) block_kind.number) _ _ f)
    where
      go : (left : ℕ) → length done + left ≡ most_blocks → length done < most_blocks → kind_at d at ≡ 1 → length (done ++ block_at d at ∷ []) ≡ length done + 1
          → ((rest : ℕ) → length (done ++ block_at d at ∷ []) + rest ≡ most_blocks → length k.blocks ≤ length (done ++ block_at d at ∷ []) + heads_from rest d (end_at d at))
          → length k.blocks ≤ length done + heads_from left d at
      go zero l r h n more = absurd (omega arith)
      go (suc rest) l r h n more = omega (arith, n, head_more rest d at h, more rest (omega arith))

  pub few_heads : {k : Deck} → blocks_reply last d ≡ read k → length k.blocks ≤ heads_from most_blocks d 0
  unfolding blocks_reply
  few_heads e = omega (arith, few (suc most_blocks) 0 [] most_blocks refl e)

-- Laws. What the blocks of a deck keep to, and the record after them. Assumes nothing.
use Prim.Native.Nat.{ℕ, zero, suc, ◌+◌, ◌*◌, ◌<◌, ◌≤◌}
use Rattle.std.specs.Prelude.{Bool, true, false, ◌||◌, ◌⊎◌, ◌≡◌, eqb, leb, ltb}
use mathlib.Core.List.{List, [], ◌∷◌, ◌++◌}
use Rattle.std.proofs.Common.{inl, inr, ◌∙◌}
use Rattle.std.proofs.Math.Logic.{⊎_elim}
use Rattle.std.proofs.Math.Path.{refl, ap}
use native.Mathlib.Omega.{arith}
use borrow.Author.Tests.{eqb-true, eqb-false, leb-false, ltb-false}
use Rattle.std.proofs.Math.ListN.{length, length-append}
use Rattle.reply.specs.Read.{Read, refused, read, ◌then◌, refuse_if, if_else}
use Rattle.reply.specs.Chain.{not_read, then-read, if_read, neither}
use Rattle.block.specs.Block.{block_reply}
use Rattle.reply.specs.declared.Refusal.{Refusal}
use Rattle.records.specs.Records.{block_kind, length_at, kind_at, end_at, wanted, record_reply}
use Rattle.records.specs.Taken.{taken, of_first, of_other, of_one}
use Rattle.records.specs.declared.Kind.{Kind}
use Rattle.assembly.specs.Book.{used, bond_bytes, most_blocks}
use Rattle.assembly.specs.declared.BlockAt.{BlockAt}
use Rattle.deck.specs.Deck.{longest_deck, kinds_after, block_at, moved, block_place, block_reply_at, Deck, deck_at, blocks_from, blocks_reply, open_reply}

-- each block of a list
unfoldable pub Each : (BlockAt → Type 0) → List BlockAt → Type 0
Each P [] = Unit {0}
Each P (b ∷ bs) = P b × Each P bs

-- a block has a number, lies within the deck, and is not refused
pub record Standing (d : List ℕ) (b : BlockAt) : Type 0 where
  pub numbered : b.number ≡ 0 → ⊥
  pub within : b.start + block_kind.fixed + block_kind.item * b.bonds ≤ length d
  pub fine : block_reply b.atoms (bond_bytes d b) ≡ read tt

-- the blocks of a deck stand in it, and after them a record of the last kind
pub record KeptDeck (last : Kind) (d : List ℕ) (k : Deck) : Type 0 where
  pub places : k ≡ deck_at d k.blocks k.assembly
  pub blocks : Each (Standing d) k.blocks
  pub few : length k.blocks ≤ most_blocks
  pub after : record_reply (last ∷ []) d k.assembly ≡ read tt

pub each_last : (P : BlockAt → Type 0) (bs : List BlockAt) (b : BlockAt) → Each P bs → P b → Each P (bs ++ b ∷ [])
unfolding Each
each_last P [] b e p = (p, tt)
each_last P (c ∷ bs) b e p = (e.0, each_last P bs b e.1 p)

pub chosen : {A : Type 0} {b : A} (t : Bool) (f g : Unit {0} → A) → if_else t f g ≡ b → ((t ≡ true) × (f tt ≡ b)) ⊎ ((t ≡ false) × (g tt ≡ b))
chosen true f g e = inl (refl, e)
chosen false f g e = inr (refl, e)

pub unmoved : (place : Refusal → ℕ) (x : Read (Unit {0})) → moved place x ≡ read tt → x ≡ read tt
unmoved place (refused r) e = absurd (not_read e)
unmoved place (read u) e = refl

-- where the first step is the same, and what follows it where it is read
then_same : {B : Type 0} (x : Read (Unit {0})) (f g : Unit {0} → Read B) → (x ≡ read tt → f tt ≡ g tt) → (x then f) ≡ (x then g)
then_same (refused r) f g h = refl
then_same (read u) f g h = h refl

first_same : {A : Type 0} (t : Bool) (f g other : Unit {0} → A) → (t ≡ true → f tt ≡ g tt) → if_else t f other ≡ if_else t g other
first_same true f g other h = h refl
first_same false f g other h = refl

-- the tests that a block record passed
pub record BlockFits (d : List ℕ) (at : ℕ) (done : List BlockAt) : Type 0 where
  pub numbered : (block_at d at).number ≡ 0 → ⊥
  pub room : length done < most_blocks
  pub fine : block_reply (block_at d at).atoms (bond_bytes d (block_at d at)) ≡ read tt

pub fit : (d : List ℕ) (at : ℕ) (done : List BlockAt) → block_reply_at d at done ≡ read tt → BlockFits d at done
unfolding block_reply_at
fit d at done e =
    let number = (block_at d at).number in
    let unfit = eqb number 0 || used done number || leb most_blocks (length done) in
    let (u, p, f) = then-read (refuse_if unfit 14 at) _ e in
    let (q, r) = neither (eqb number 0 || used done number) (leb most_blocks (length done)) (if_read unfit 14 at p) in
    record {
      numbered = eqb-false number 0 (neither (eqb number 0) (used done number) q).0;
      room = leb-false most_blocks (length done) r;
      fine = unmoved (block_place at) (block_reply (block_at d at).atoms (bond_bytes d (block_at d at))) f;
    }

module _ (last : Kind) (d : List ℕ) where
  -- a block record is as long as its bonds ask
  pub record_long : (at : ℕ) (done : List BlockAt) → record_reply (kinds_after done last) d at ≡ read tt → kind_at d at ≡ block_kind.number → length_at d at ≡ wanted block_kind d at
  record_long at [] e k = of_first d at block_kind [] e k refl
  record_long at (b ∷ bs) e k = of_first d at block_kind (last ∷ []) e k refl

  -- a block that is taken stands in the deck
  pub stands : (at : ℕ) (done : List BlockAt) → record_reply (kinds_after done last) d at ≡ read tt → kind_at d at ≡ block_kind.number → BlockFits d at done → Standing d (block_at d at)
  stands at done e k f =
      let w = (taken d at (kinds_after done last) e).whole in
      record { numbered = f.numbered; within = omega (arith, record_long at done e k); fine = f.fine }

  -- a record that is no block is not the first
  after_blocks : (at : ℕ) (done : List BlockAt) → record_reply (kinds_after done last) d at ≡ read tt → (kind_at d at ≡ block_kind.number → ⊥) → record_reply (last ∷ []) d at ≡ read tt
  after_blocks at [] e n = absurd (n (of_one d at block_kind e))
  after_blocks at (b ∷ bs) e n = of_other d at block_kind (last ∷ []) e n

  -- where the blocks end
  pub record Ended (P : ℕ → List BlockAt → Type 0) (k : Deck) : Type 0 where
    pub at : ℕ
    pub done : List BlockAt
    pub holds : P at done
    pub next : record_reply (kinds_after done last) d at ≡ read tt
    pub other : kind_at d at ≡ block_kind.number → ⊥
    pub same : deck_at d done at ≡ k

  -- what holds at the first block, and behind a block where it holds before it, holds there
  pub along : (P : ℕ → List BlockAt → Type 0)
      → ((at : ℕ) (done : List BlockAt) → P at done → record_reply (kinds_after done last) d at ≡ read tt → kind_at d at ≡ block_kind.number → BlockFits d at done → P (end_at d at) (done ++ block_at d at ∷ []))
      → (fuel at : ℕ) (done : List BlockAt) {k : Deck} → P at done → blocks_from fuel last d at done ≡ read k → Ended P k
  unfolding blocks_from
  along P step zero at done p e = absurd (not_read e)
  along P step (suc fuel) at done {k} p e =
      let (u, r, f) = then-read (record_reply (kinds_after done last) d at) _ e in
      ⊎_elim
      (λ t.
      let (v, q, g) = then-read (block_reply_at d at done) _ t.1 in
      along P step fuel (end_at d at) (done ++ block_at d at ∷ []) (step at done p r (eqb-true (kind_at d at) block_kind.number t.0) (fit d at done q)) g)
      (λ t.
      let same : deck_at d done at ≡ k = cc t.1 in
      record { at = at; done = done; holds = p; next = r; other = eqb-false (kind_at d at) block_kind.number t.0; same = same })
      (chosen (eqb (kind_at d at) block_kind.number) _ _ f)

  pub kept : {k : Deck} → blocks_reply last d ≡ read k → KeptDeck last d k
  unfolding blocks_reply Each
  kept e =
      let E = along (λ at done. Each (Standing d) done × (length done ≤ most_blocks))
      (λ at done p r k f. (each_last (Standing d) done (block_at d at) p.0 (stands at done r k f), simp length-append (omega (arith, f.room))))
      (suc most_blocks) 0 [] (tt, omega arith) e in
      rw (← E.same) (record { places = refl; blocks = E.holds.0; few = E.holds.1; after = after_blocks E.at E.done E.next E.other })

  -- what is read before a record of the last kind: the blocks, of a deck that is not too long
  pub open_read : {k : Deck} → open_reply last d ≡ read k → (length d ≤ longest_deck) × (blocks_reply last d ≡ read k)
  unfolding open_reply
  open_read e =
      let (u, a, f) = then-read (refuse_if (ltb longest_deck (length d)) 20 0) _ e in
      (ltb-false longest_deck (length d) (if_read _ 20 0 a), f)

  -- each block uses up one place of sixteen, so the fuel lasts
  lasts : (fuel at : ℕ) (done : List BlockAt) → length done ≤ most_blocks → most_blocks < fuel + length done → blocks_from (suc fuel) last d at done ≡ blocks_from fuel last d at done
  unfolding blocks_from
  lasts zero at done l h = absurd (omega arith)
  lasts (suc fuel) at done l h =
      then_same (record_reply (kinds_after done last) d at) _ _
      (λ p. first_same (eqb (kind_at d at) block_kind.number) _ _ _
      (λ t. then_same (block_reply_at d at done) _ _
      (λ q. let r = (fit d at done q).room in
      let n : length (done ++ block_at d at ∷ []) ≡ length done + 1 = simp length-append in
      lasts fuel (end_at d at) (done ++ block_at d at ∷ []) (omega arith) (omega arith))))

  -- for the reader of `blocks_reply`: its fuel only lets the recursion end, and no deck is read otherwise with more of it
  pub fuel_lasts : (more : ℕ) → blocks_from (more + suc most_blocks) last d 0 [] ≡ blocks_reply last d
  unfolding blocks_reply
  fuel_lasts zero = refl
  fuel_lasts (suc more) =
      let e : suc more + suc most_blocks ≡ suc (more + suc most_blocks) = omega arith in
      ap (λ (n : ℕ). blocks_from n last d 0 []) e ∙ lasts (more + suc most_blocks) 0 [] (omega arith) (omega arith) ∙ fuel_lasts more

-- A block's reply, test by test. Assumes nothing.
use Prim.Native.Nat.{ℕ, ◌%◌}
use mathlib.Core.Bool.{Bool, true, false, ◌||◌, not, true≢false}
use mathlib.Core.List.{List, []}
use mathlib.Core.Logic.{◌⊎◌, inl, inr, ⊎_elim, ◌≢◌}
use mathlib.Core.Path.{◌≡◌, refl, sym, ◌∙◌}
use borrow.Author.Tests.{eq-eqb, ne_eqb}
use lib.Dec.{eqb, ltb}
use lib.ListN.{length}
use Rattle.graph.specs.Graph.{connected}
use Rattle.graph.specs.Bonds.{second_of}
use Rattle.reply.specs.Read.{Read, refused, read, ◌then◌, refuse_if, refusal, is_outside}
use Rattle.reply.specs.Chain.{neither}
use Rattle.block.specs.Block.{most_atoms, most_bytes, bonds_of, graph_of, bonds_reply, drawn_reply, block_reply}
use Rattle.block.specs.Near.{ReadyBlock}
use Rattle.block.specs.Sketched.{or_seven}
use Rattle.block.specs.Opened.{opened_near}
use Rattle.block.specs.Drawn.{drawn_is, opened_near_lem}
use Rattle.block.specs.Told.{tested, block_drawn}
use Rattle.reply.specs.declared.Refusal.{Refusal}

module _ (n : ℕ) (xs : List ℕ) where
  abbrev Refuses : Refusal → Type 0
  Refuses r = r ≡ or_seven (drawn_reply n xs)

  pub refuses_one : is_outside most_atoms n ≡ true → Refuses (refusal 1 0)
  unfolding drawn_reply
  refuses_one e = rw e

  module _ (p : is_outside most_atoms n ≡ false) where
    pub refuses_two : (length xs % 2 ≢ 0) ⊎ (ltb most_bytes (length xs) ≡ true) → Refuses (refusal 2 0)
    unfolding drawn_reply
    refuses_two h = rw (p, test h)
      where
        test : (length xs % 2 ≢ 0) ⊎ (ltb most_bytes (length xs) ≡ true) → (not (eqb (length xs % 2) 0) || ltb most_bytes (length xs)) ≡ true
        test (inl e) = rw (ne_eqb (length xs % 2) 0 e)
        test (inr l) = second_of (not (eqb (length xs % 2) 0)) (ltb most_bytes (length xs)) l

    pub refuses_bond : length xs % 2 ≡ 0 → ltb most_bytes (length xs) ≡ false → (r : Refusal) → r ≡ or_seven (bonds_reply n [] (bonds_of xs)) → Refuses r
    unfolding drawn_reply
    refuses_bond e l r h = rw (p, eq-eqb (length xs % 2) 0 e, l) h

  module _ {r : Refusal} (R : Refuses r) where
    pub refused_drawn : (drawn_reply n xs ≡ read tt → ⊥) → drawn_reply n xs ≡ refused r
    refused_drawn h = rw R (go (drawn_reply n xs) h)
      where
        go : (m : Read (Unit {0})) → (m ≡ read tt → ⊥) → m ≡ refused (or_seven m)
        go (refused q) ne = refl
        go (read tt) ne = absurd (ne refl)

    pub refused_block : (block_reply n xs ≡ read tt → ⊥) → block_reply n xs ≡ refused r
    refused_block h = block_drawn n xs ∙ rw R (go (drawn_reply n xs) (not (connected (graph_of n xs))) (λ e. h (block_drawn n xs ∙ e)))
      where
        go : (m : Read (Unit {0})) (t : Bool) → ((m then λ _. refuse_if t 7 0) ≡ read tt → ⊥) → (m then λ _. refuse_if t 7 0) ≡ refused (or_seven m)
        go (refused q) t ne = refl
        go (read tt) true ne = refl
        go (read tt) false ne = absurd (ne refl)

  pub reply_none : (is_outside most_atoms n ≡ true) ⊎ ((not (eqb (length xs % 2) 0) ≡ true) ⊎ (ltb most_bytes (length xs) ≡ true)) → drawn_reply n xs ≡ read tt → ⊥
  reply_none h e =
      let t = tested n xs e in
      let (p, q) = neither (not (eqb (length xs % 2) 0)) (ltb most_bytes (length xs)) t.bytes in
      ⊎_elim (λ x. true≢false (sym x ∙ t.size)) (⊎_elim (λ x. true≢false (sym x ∙ p)) (λ x. true≢false (sym x ∙ q))) h

  -- then 7
  pub reply_fine : drawn_reply n xs ≡ read tt → connected (graph_of n xs) ≡ true → block_reply n xs ≡ read tt
  reply_fine e c = rw (block_drawn n xs, e, c)

  pub near_opened : {near : List ℕ} → ReadyBlock n xs near → near ≡ opened_near n xs
  near_opened R = drawn_is (graph_of n xs) _ R.shown ∙ sym (opened_near_lem n xs R.fine)

-- Laws. The same blocks with another tail behind them are read alike, up to the record that follows them. Assumes nothing.
use Prim.Native.Nat.{ℕ, zero, suc, ◌+◌, ◌*◌, ◌≤◌}
use mathlib.Core.List.{List, [], ◌∷◌, ◌++◌}
use Rattle.std.proofs.Math.Logic.{⊎_elim}
use Rattle.std.specs.Prelude.{◌≡◌, eqb}
use Rattle.std.proofs.Common.{sym, ◌∙◌, ap₂, arith, length-append}
use Rattle.std.proofs.Math.Path.{ap, subst}
use borrow.Author.Tests.{eq-eqb, ne_eqb, eqb-true, eqb-false, le-ltb}
use Rattle.std.proofs.Math.ListN.{length}
use Rattle.reply.specs.Read.{read}
use Rattle.reply.specs.Chain.{not_read, then-read}
use Rattle.block.specs.Block.{block_reply}
use Rattle.records.specs.Bytes.{little}
use Rattle.records.specs.Longer.{little_same}
use Rattle.records.specs.Records.{head_bytes, block_kind, length_at, kind_at, end_at, wanted, kind_reply, is_wrong, length_reply, record_reply}
use Rattle.records.specs.Taken.{of_one}
use Rattle.records.specs.declared.Kind.{Kind}
use Rattle.assembly.specs.declared.BlockAt.{BlockAt}
use Rattle.assembly.specs.Book.{most_blocks}
use Rattle.deck.specs.Deck.{kinds_after, Deck, block_at, deck_at, block_reply_at, blocks_from, blocks_reply}
use Rattle.deck.specs.Kept.{Each, Standing, each_last, chosen, fit, record_long, stands, along}
use Rattle.deck.specs.Followed.{bonds_same, block_same, reply_same}

-- a record of a block may stand after any blocks
block_taken : (x : List ℕ) (at : ℕ) (done : List BlockAt) (last : Kind) → end_at x at ≤ length x → kind_at x at ≡ block_kind.number → length_at x at ≡ wanted block_kind x at
    → record_reply (kinds_after done last) x at ≡ read tt
unfolding record_reply kind_reply length_reply is_wrong
block_taken x at [] last w k n = rw (le-ltb (length x) (end_at x at) w, eq-eqb (kind_at x at) block_kind.number k, eq-eqb (length_at x at) (wanted block_kind x at) n)
block_taken x at (b ∷ bs) last w k n = rw (le-ltb (length x) (end_at x at) w, eq-eqb (kind_at x at) block_kind.number k, eq-eqb (length_at x at) (wanted block_kind x at) n)

-- another kind stands after at least one block
other_taken : (x y : List ℕ) (at : ℕ) (done : List BlockAt) (last last' : Kind) → record_reply (kinds_after done last) x at ≡ read tt → (kind_at x at ≡ block_kind.number → ⊥)
    → (kind_at y at ≡ block_kind.number → ⊥) → record_reply (last' ∷ []) y at ≡ read tt → record_reply (kinds_after done last') y at ≡ read tt
unfolding record_reply kind_reply
other_taken x y at [] last last' p n m q = absurd (n (of_one x at block_kind p))
other_taken x y at (b ∷ bs) last last' p n m q = rw (ne_eqb (kind_at y at) block_kind.number m) q

-- the blocks are read forwards
reached : (last : Kind) (x : List ℕ) (fuel at : ℕ) (done : List BlockAt) {k : Deck} → blocks_from fuel last x at done ≡ read k → at ≤ k.assembly
reached last x fuel at done e =
    let E = along last x (λ p bs. at ≤ p) (λ p bs l r b f. omega (arith, l)) fuel at done (omega arith) e in
    omega (arith, E.holds, ap (λ (y : Deck). y.assembly) E.same)

-- the same blocks with another tail, which begins with a record of another last kind
module _ (a r s : List ℕ) (last last' : Kind) (next : record_reply (last' ∷ []) (a ++ s) (length a) ≡ read tt) (other : kind_at (a ++ s) (length a) ≡ block_kind.number → ⊥) where
  across : (k p : ℕ) → p + k ≤ length a → little k (a ++ s) p ≡ little k (a ++ r) p
  across k p h = little_same a s k p h ∙ sym (little_same a r k p h)

  -- a block that lies in the part that both have
  module _ (at : ℕ) (done : List BlockAt) (p : record_reply (kinds_after done last) (a ++ r) at ≡ read tt) (k : kind_at (a ++ r) at ≡ block_kind.number)
      (g : block_reply_at (a ++ r) at done ≡ read tt) (w : end_at (a ++ r) at ≤ length a) where
    long : length_at (a ++ r) at ≡ wanted block_kind (a ++ r) at
    long = record_long last (a ++ r) at done p k

    ends : end_at (a ++ s) at ≡ end_at (a ++ r) at
    ends = ap (λ (n : ℕ). at + head_bytes + n) (across 2 at (omega arith))

    in_a : at + head_bytes + block_kind.fixed ≤ length a
    in_a = omega (arith, long)

    first : block_at (a ++ r) at ≡ block_at a at
    first = block_same a r at in_a

    block_is : block_at (a ++ s) at ≡ block_at (a ++ r) at
    block_is = block_same a s at in_a ∙ sym first

    kind_is : kind_at (a ++ s) at ≡ block_kind.number
    kind_is = across 2 (at + 2) (omega arith) ∙ k

    taken_is : record_reply (kinds_after done last') (a ++ s) at ≡ read tt
    taken_is =
        let n : length_at (a ++ s) at ≡ wanted block_kind (a ++ s) at =
        across 2 at (omega arith) ∙ long ∙ ap (λ (m : ℕ). block_kind.fixed + block_kind.item * m) (sym (across 2 (at + head_bytes + block_kind.count) (omega (arith, in_a)))) in
        block_taken (a ++ s) at done last' (omega (arith, ends, length-append a s)) kind_is n

    standing : Standing a (block_at a at)
    standing =
        let t = stands last (a ++ r) at done p k (fit (a ++ r) at done g) in
        let u : Standing (a ++ r) (block_at a at) = subst (Standing (a ++ r)) first t in
        let in_whole : (block_at a at).start + block_kind.fixed + block_kind.item * (block_at a at).bonds ≤ length a = omega (arith, long, ap (λ (b : BlockAt). b.bonds) first) in
        record {
          numbered = u.numbered;
          within = in_whole;
          fine = ap (block_reply (block_at a at).atoms) (sym (bonds_same a r (block_at a at) in_whole)) ∙ u.fine;
        }

    reply_is : block_reply_at (a ++ s) at done ≡ read tt
    reply_is = reply_same a s at done standing ∙ sym (reply_same a r at done standing) ∙ g

  carried_from : (fuel at : ℕ) (done : List BlockAt) {k : Deck} → Each (Standing a) done → blocks_from fuel last (a ++ r) at done ≡ read k → k.assembly ≡ length a
      → (blocks_from fuel last' (a ++ s) at done ≡ read (deck_at (a ++ s) k.blocks (length a))) × Each (Standing a) k.blocks
  unfolding blocks_from Each
  carried_from zero at done h e q = absurd (not_read e)
  carried_from (suc fuel) at done {k} h e q =
      let (u, p, f) = then-read (record_reply (kinds_after done last) (a ++ r) at) _ e in
      ⊎_elim
      (λ t.
      let (v, g, i) = then-read (block_reply_at (a ++ r) at done) _ t.1 in
      let n = eqb-true (kind_at (a ++ r) at) block_kind.number t.0 in
      let w : end_at (a ++ r) at ≤ length a = omega (arith, q, reached last (a ++ r) fuel (end_at (a ++ r) at) (done ++ block_at (a ++ r) at ∷ []) i) in
      let b = first at done p n g w in
      let (j, each) = carried_from fuel (end_at (a ++ r) at) (done ++ block_at (a ++ r) at ∷ []) (subst (λ (x : BlockAt). Each (Standing a) (done ++ x ∷ [])) (sym b) (each_last (Standing a) done (block_at a at) h (standing at done p n g w))) i q in
      (rw (taken_is at done p n g w, eq-eqb (kind_at (a ++ s) at) block_kind.number (kind_is at done p n g w), reply_is at done p n g w, ends at done p n g w, block_is at done p n g w) j, each))
      (λ t.
      let same : deck_at (a ++ r) done at ≡ k = cc t.1 in
      let here : at ≡ length a = ap (λ (x : Deck). x.assembly) same ∙ q in
      let m : (kind_at (a ++ s) at ≡ block_kind.number → ⊥) = subst (λ (x : ℕ). kind_at (a ++ s) x ≡ block_kind.number → ⊥) (sym here) other in
      let z = other_taken (a ++ r) (a ++ s) at done last last' p (eqb-false (kind_at (a ++ r) at) block_kind.number t.0) m (subst (λ (x : ℕ). record_reply (last' ∷ []) (a ++ s) x ≡ read tt) (sym here) next) in
      (rw (z, ne_eqb (kind_at (a ++ s) at) block_kind.number m) (ap₂ (λ (bs : List BlockAt) (x : ℕ). read (deck_at (a ++ s) bs x)) (ap (λ (x : Deck). x.blocks) same) here), subst (Each (Standing a)) (ap (λ (x : Deck). x.blocks) same) h))
      (chosen (eqb (kind_at (a ++ r) at) block_kind.number) _ _ f)

  pub carried : {k : Deck} → blocks_reply last (a ++ r) ≡ read k → k.assembly ≡ length a
      → (blocks_reply last' (a ++ s) ≡ read (deck_at (a ++ s) k.blocks (length a))) × Each (Standing a) k.blocks
  unfolding blocks_reply Each
  carried e q = carried_from (suc most_blocks) 0 [] tt e q

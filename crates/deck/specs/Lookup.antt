-- Laws. The part that the lookup of a block hands back is empty exactly when the deck is refused in both forms or has no such block. Assumes nothing.
use Rattle.std.specs.Prelude.{ℕ, zero, suc, ◌+◌, ◌*◌, ◌<◌, Bool, true, false, not, cond, List, [], ◌∷◌, ◌↔◌, ◌≡◌, eqb, length, take, drop, get_or}
use Rattle.std.proofs.Math.Path.{refl}
use Rattle.std.proofs.Common.{sym, ◌∙◌, ap, subst, arith, ne_eqb, eqb-true, length-take, length-drop}
use Rattle.std.proofs.lemmas.Bool.{eqb-false, not-true}
use Rattle.graph.specs.Bonds.{both, both_true}
use Rattle.graph.specs.Distance as distance
use Rattle.reply.specs.Read.{Read, refused, read}
use Rattle.reply.specs.Chain.{not_read}
use Rattle.records.specs.Bytes.{part}
use Rattle.records.specs.Records.{block_kind}
use Rattle.assembly.specs.Book.{no_block, find, is_numbered, used}
use Rattle.assembly.specs.declared.BlockAt.{BlockAt}
use Rattle.deck.specs.Deck.{Deck, deck_reply, nowhere, payload, payload_or, block_span, block_part}
use Rattle.deck.specs.Kept.{Each, Standing}
use Rattle.deck.specs.Sound.{parts, whole, found}
use Rattle.deck.specs.declared.Form.{Form}
use Rattle.deck.specs.declared.Form.TheVariants.{Composed, Judged}

-- a block of the list has the number
pub record BlockListed (bs : List BlockAt) (x : ℕ) : Type 0 where
  pub index : ℕ
  pub within : index < length bs
  pub number : (get_or bs index no_block).number ≡ x

listed : (bs : List BlockAt) (x : ℕ) → used bs x ≡ true → BlockListed bs x
unfolding find
listed [] x u =
    let (p, q) = both (not (eqb x 0)) (eqb 0 x) u in
    absurd (eqb-false x 0 (not-true (eqb x 0) p) (sym (eqb-true 0 x q)))
listed (b ∷ bs) x u = go (eqb b.number x) refl u (listed bs x)
  where
    go : (t : Bool) → eqb b.number x ≡ t → is_numbered (cond t b (find bs x)) x ≡ true → (used bs x ≡ true → BlockListed bs x) → BlockListed (b ∷ bs) x
    go true e v more = record { index = 0; within = omega arith; number = eqb-true b.number x e }
    go false e v more = let r = more v in record { index = suc r.index; within = omega (arith, r.within); number = r.number }

-- where each block has a number that is not 0, its number is found
listed_used : (d : List ℕ) (bs : List BlockAt) (x : ℕ) → Each (Standing d) bs → BlockListed bs x → used bs x ≡ true
unfolding Each find
listed_used d [] x s l = absurd (omega (arith, l.within))
listed_used d (b ∷ bs) x s l = go (eqb b.number x) refl (listed_used d bs x s.1)
  where
    at : (i : ℕ) → i < length (b ∷ bs) → (get_or (b ∷ bs) i no_block).number ≡ x → eqb b.number x ≡ false → BlockListed bs x
    at zero h n e = absurd (eqb-false b.number x e n)
    at (suc i) h n e = record { index = i; within = omega arith; number = n }

    go : (t : Bool) → eqb b.number x ≡ t → (BlockListed bs x → used bs x ≡ true) → is_numbered (cond t b (find bs x)) x ≡ true
    go true e more =
        let q = eqb-true b.number x e in
        both_true (not (eqb x 0)) (eqb b.number x) (ap not (ne_eqb x 0 (λ z. s.0.numbered (q ∙ z)))) e
    go false e more = more (at l.index l.within l.number e)

-- the payload of a block that is there is not empty
payload_some : (d : List ℕ) (bs : List BlockAt) (x : ℕ) → Each (Standing d) bs → used bs x ≡ true → part d (payload bs x).from (payload bs x).len ≡ [] → ⊥
unfolding payload
payload_some d bs x s u e =
    let b = find bs x in
    let w = (found d bs x s u).within in
    let n : length (take (block_kind.fixed + block_kind.item * b.bonds) (drop b.start d)) ≡ 0 = ap length (rw u at e) in
    omega (arith, simp (length-take, length-drop) at n)

payload_none : (d : List ℕ) (bs : List BlockAt) (x : ℕ) → used bs x ≡ false → part d (payload bs x).from (payload bs x).len ≡ []
unfolding payload
payload_none d bs x u = rw u

module _ (d : List ℕ) (x : ℕ) where
  -- no form in which the deck is read has a block of this number
  abbrev pub Absent : Type 0
  Absent = (form : Form) (k : Deck) → deck_reply form d ≡ read k → BlockListed k.blocks x → ⊥

  unused : Absent → (form : Form) (k : Deck) → deck_reply form d ≡ read k → used k.blocks x ≡ false
  unused h form k e = distance.not_true (used k.blocks x) (λ u. h form k e (listed k.blocks x u))

  empty_when : Absent → block_part d x ≡ []
  unfolding block_span
  empty_when h = go (deck_reply Composed d) refl (deck_reply Judged d) refl
    where
      go : (c : Read Deck) → deck_reply Composed d ≡ c → (j : Read Deck) → deck_reply Judged d ≡ j → (let s = payload_or x c (payload_or x j nowhere) in part d s.from s.len ≡ [])
      go (read k) e j f = payload_none d k.blocks x (unused h Composed k e)
      go (refused r) e (read k) f = payload_none d k.blocks x (unused h Judged k f)
      go (refused r) e (refused q) f = refl

  -- a deck says the same in both forms
  same : (f g : Form) (k l : Deck) → deck_reply f d ≡ read k → deck_reply g d ≡ read l → k ≡ l
  same f g k l p q =
      let a = (parts f d k p).blocks in
      let b = (parts g d l q).blocks in
      cc

  some : (form : Form) (k : Deck) → deck_reply form d ≡ read k → BlockListed k.blocks x → (other : Form) (l : Deck) → deck_reply other d ≡ read l → part d (payload l.blocks x).from (payload l.blocks x).len ≡ [] → ⊥
  some form k e m other l f p =
      let b = (whole other d l f).blocks in
      payload_some d l.blocks x b (listed_used d l.blocks x b (subst (λ (z : Deck). BlockListed z.blocks x) (same form other k l e f) m)) p

  empty_only : block_part d x ≡ [] → Absent
  unfolding block_span
  empty_only h form k e m = go (deck_reply Composed d) refl (deck_reply Judged d) refl h form e
    where
      go : (c : Read Deck) → deck_reply Composed d ≡ c → (j : Read Deck) → deck_reply Judged d ≡ j → (let s = payload_or x c (payload_or x j nowhere) in part d s.from s.len ≡ []) → (form : Form) → deck_reply form d ≡ read k → ⊥
      go (read l) ec j ej p f q = some form k e m Composed l ec p
      go (refused r) ec (read l) ej p f q = some form k e m Judged l ej p
      go (refused r) ec (refused s) ej p Composed q = not_read (sym ec ∙ q)
      go (refused r) ec (refused s) ej p Judged q = not_read (sym ej ∙ q)

  pub empty_exactly : (block_part d x ≡ []) ↔ Absent
  empty_exactly = (empty_only, empty_when)

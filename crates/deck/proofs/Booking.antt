-- A book filled from blocks says what they say: the summaries of the molecules of a deck's book. Assumes nothing.
use Prim.Native.Nat.{ℕ, zero, suc, ◌+◌, ◌*◌, ◌≤◌, ◌<◌}
use mathlib.Core.Bool.{Bool, true, false, true≢false}
use mathlib.Core.List.{List, [], ◌∷◌}
use mathlib.Core.Logic.{◌⊎◌, inl, inr, ⊎_elim}
use mathlib.Core.Path.{◌≡◌, refl, sym, ◌∙◌, ap, subst}
use native.Mathlib.Nat.{eq-or-lt_of_le}
use native.Mathlib.Omega.{arith}
use borrow.Author.Tests.{eq-eqb, ne_eqb, eqb-true, eqb-false, lt-ltb, le-ltb}
use lib.Dec.{eqb, ltb}
use lib.ListN.{length, take, length-take}
use lib.Seq.{sets, take-length, get_or-take}
use Rattle.reply.specs.Read.{read}
use Rattle.records.specs.Bytes.{little, le16}
use Rattle.records.specs.Stored.{little_kept, little-part, part_kept, part_put, part-part}
use Rattle.block.specs.Block.{block_reply}
use Rattle.block.specs.Told.{molecule}
use Rattle.assembly.specs.Book.{no_block, find, used, bond_bytes, book_of}
use Rattle.assembly.specs.declared.BlockAt.{BlockAt}
use Rattle.summary.specs.Layout.{summary_bytes}
use Rattle.summary.specs.Back.{summary_fits, summary_told, ends_told, number_told}
use Rattle.shelf.specs.Shelf.{places_in, summary_at, place_from, place_of, shelf_in}
use Rattle.shelf.specs.Places.{place_here, place_next, place_none, place_zero, place_some}
use Rattle.summaries.specs.Written.{HonestBook}
use Rattle.deck.specs.Booked.{block_in, summary_in, Blank, HoldsBlock, Booked}

-- nothing is filled
pub booked_none : {d : List ℕ} {bs : List BlockAt} {count : ℕ} {b : List ℕ} → Blank d bs count b → Booked d bs b 0
unfolding little
booked_none {b = b} B = record {
  holds = λ i l. absurd (omega arith);
  empty = λ i l. omega (arith, B.zero (summary_bytes * i), B.zero (summary_bytes * i + 1));
}

-- a block more
module _ (d : List ℕ) (bs : List BlockAt) (b : List ℕ) (k : ℕ) (fine : block_reply (block_in bs k).atoms (bond_bytes d (block_in bs k)) ≡ read tt)
    (small : (block_in bs k).number < 65536) (room : summary_bytes * k + summary_bytes ≤ length b) where
  abbrev s : List ℕ
  s = summary_in d (block_in bs k)

  fits : length s ≤ summary_bytes
  fits = summary_fits (block_in bs k).number (block_in bs k).atoms (bond_bytes d (block_in bs k)) fine

  put : take (length s) (summary_at (sets b (summary_bytes * k) s) k) ≡ s
  put =
      let z : summary_bytes * k + 0 ≡ summary_bytes * k = omega arith in
      part-part (sets b (summary_bytes * k) s) (summary_bytes * k) summary_bytes 0 (length s) (omega (arith, fits))
      ∙ part_put s b (summary_bytes * k) 0 (length s) (omega (arith, fits)) (omega arith)
      ∙ take-length s

  pub booked_more : Booked d bs b k → Booked d bs (sets b (summary_bytes * k) (summary_in d (block_in bs k))) (k + 1)
  booked_more B = record {
    holds = λ i l. ⊎_elim (λ e. now i e) (λ h. before i h) (eq-or-lt_of_le {n = i} {m = k} (omega arith));
    empty = λ i l. little_kept 2 s b (summary_bytes * k) (summary_bytes * i) (inr (omega (arith, fits))) ∙ B.empty i (omega arith);
  }
    where
      now : (i : ℕ) → i ≡ k → HoldsBlock d (sets b (summary_bytes * k) s) i (block_in bs i)
      now i e = subst (λ (j : ℕ). HoldsBlock d (sets b (summary_bytes * k) s) j (block_in bs j)) (sym e) (record { small = small; begins = put })

      before : (i : ℕ) → i < k → HoldsBlock d (sets b (summary_bytes * k) s) i (block_in bs i)
      before i h = let H = B.holds i h in record {
        small = H.small;
        begins = ap (take (length (summary_in d (block_in bs i)))) (part_kept s b (summary_bytes * k) (summary_bytes * i) summary_bytes (omega arith) (inl (omega arith))) ∙ H.begins;
      }

-- the number at a place is that of the block that it holds
module _ {d b : List ℕ} {i : ℕ} {c : BlockAt} (fine : block_reply c.atoms (bond_bytes d c) ≡ read tt) (H : HoldsBlock d b i c) where
  number_at : le16 b (summary_bytes * i) ≡ c.number
  number_at =
      let z : summary_bytes * i + 0 ≡ summary_bytes * i = omega arith in
      sym (little-part 2 b (summary_bytes * i) summary_bytes 0 (omega arith) ∙ ap (little 2 b) z)
      ∙ number_told c.number c.atoms (bond_bytes d c) fine (summary_at b i) H.begins H.small

-- where a number stands in a book whose places from i on hold the blocks of a list, and behind them no number
module _ (d b : List ℕ) (x : ℕ) (some : x ≡ 0 → ⊥) where
  pub record Found (cs : List BlockAt) (i left : ℕ) : Type 0 where
    pub number : (find cs x).number ≡ x
    pub place : place_from b x i left < i + left
    pub fine : block_reply (find cs x).atoms (bond_bytes d (find cs x)) ≡ read tt
    pub held : HoldsBlock d b (place_from b x i left) (find cs x)

  pub record Missed (cs : List BlockAt) (i left : ℕ) : Type 0 where
    pub none : find cs x ≡ no_block
    pub place : place_from b x i left ≡ i + left

  no_number : (i left : ℕ) → ((j : ℕ) → i ≤ j → le16 b (summary_bytes * j) ≡ 0) → place_from b x i left ≡ i + left
  no_number i zero h = place_none b x i ∙ omega arith
  no_number i (suc left) h = place_next b x i left (λ e. some (sym e ∙ h i (omega arith))) ∙ no_number (suc i) left (λ j l. h j (omega arith)) ∙ omega arith

  sought : (cs : List BlockAt) (i left : ℕ) → length cs ≤ left
      → ((j : ℕ) → j < length cs → (block_reply (block_in cs j).atoms (bond_bytes d (block_in cs j)) ≡ read tt) × HoldsBlock d b (i + j) (block_in cs j))
      → ((j : ℕ) → i + length cs ≤ j → le16 b (summary_bytes * j) ≡ 0) → Found cs i left ⊎ Missed cs i left
  unfolding find
  sought [] i left l h e = inr (record { none = refl; place = no_number i left (λ j m. e j (omega arith)) })
  sought (c ∷ cs) i zero l h e = absurd (omega arith)
  sought (c ∷ cs) i (suc left) l h e = go (eqb c.number x) refl (sought cs (suc i) left (omega arith) (λ j m. next j (h (suc j) (omega arith))) (λ j m. e j (omega arith)))
    where
      next : (j : ℕ) → (block_reply (block_in cs j).atoms (bond_bytes d (block_in cs j)) ≡ read tt) × HoldsBlock d b (i + suc j) (block_in cs j)
          → (block_reply (block_in cs j).atoms (bond_bytes d (block_in cs j)) ≡ read tt) × HoldsBlock d b (suc i + j) (block_in cs j)
      next j (f, H) = let q : i + suc j ≡ suc i + j = omega arith in (f, subst (λ (p : ℕ). HoldsBlock d b p (block_in cs j)) q H)

      here : (block_reply c.atoms (bond_bytes d c) ≡ read tt) × HoldsBlock d b i c
      here = let q : i + 0 ≡ i = omega arith in let (f, H) = h 0 (omega arith) in (f, subst (λ (p : ℕ). HoldsBlock d b p c) q H)

      go : (t : Bool) → eqb c.number x ≡ t → Found cs (suc i) left ⊎ Missed cs (suc i) left
          → Found (c ∷ cs) i (suc left) ⊎ Missed (c ∷ cs) i (suc left)
      go true q more =
          let n = eqb-true c.number x q in
          let p : place_from b x i (suc left) ≡ i = place_here b x i left (number_at here.0 here.1 ∙ n) in
          let f : find (c ∷ cs) x ≡ c = rw q refl in
          inl (record {
            number = rw f n;
            place = omega (arith, p);
            fine = rw f here.0;
            held = rw (f, p) here.1;
          })
      go false q more =
          let p : place_from b x i (suc left) ≡ place_from b x (suc i) left = place_next b x i left (λ e. eqb-false c.number x q (sym (number_at here.0 here.1) ∙ e)) in
          let f : find (c ∷ cs) x ≡ find cs x = rw q refl in
          ⊎_elim
          (λ F. inl (record { number = rw f F.number; place = omega (arith, p, F.place); fine = rw f F.fine; held = rw (f, p) F.held }))
          (λ M. inr (record { none = f ∙ M.none; place = omega (arith, p, M.place) }))
          more

-- A BOOK FILLED FROM A DECK'S BLOCKS is honest
module _ (d : List ℕ) (bs : List BlockAt) (count : ℕ) (b : List ℕ) (few : count ≤ length bs) (room : summary_bytes * count ≤ length b)
    (fine : (i : ℕ) → i < count → block_reply (block_in bs i).atoms (bond_bytes d (block_in bs i)) ≡ read tt) (B : Booked d bs b count) where
  long : length (take count bs) ≡ count
  long = length-take count bs ∙ omega arith

  first : (j : ℕ) → j < count → block_in (take count bs) j ≡ block_in bs j
  first j l = get_or-take count bs j no_block l

  places : count ≤ places_in b
  places = omega arith

  at : (x : ℕ) → (some : x ≡ 0 → ⊥) → Found d b x some (take count bs) 0 (places_in b) ⊎ Missed d b x some (take count bs) 0 (places_in b)
  at x some =
      sought d b x some (take count bs) 0 (places_in b) (omega (arith, long, places))
      (λ j l. let e = first j (omega (arith, long)) in let z : 0 + j ≡ j = omega arith in rw (e, z) (fine j (omega (arith, long)), B.holds j (omega (arith, long))))
      (λ j l. B.empty j (omega (arith, long)))

  has_is : (x : ℕ) → (shelf_in b).has x ≡ used (take count bs) x
  has_is x = go (eqb x 0) refl
    where
      go : (t : Bool) → eqb x 0 ≡ t → ltb (place_of b x) (places_in b) ≡ used (take count bs) x
      go true e = rw (place_zero b x (eqb-true x 0 e), le-ltb (places_in b) (places_in b) (omega arith), e) refl
      go false e =
          let s = eqb-false x 0 e in
          ⊎_elim
          (λ F. rw (place_some b x s, lt-ltb (place_from b x 0 (places_in b)) (places_in b) (omega (arith, F.place)), e, eq-eqb (find (take count bs) x).number x F.number) refl)
          (λ M. rw (place_some b x s, le-ltb (place_from b x 0 (places_in b)) (places_in b) (omega (arith, M.place)), e, M.none, ne_eqb 0 x (λ q. s (sym q))) refl)
          (at x s)

  -- a number that a block has is found at its place
  pub record Stands (x : ℕ) : Type 0 where
    pub some : x ≡ 0 → ⊥
    pub found : Found d b x some (take count bs) 0 (places_in b)
    pub place : place_of b x ≡ place_from b x 0 (places_in b)

  there : (x : ℕ) → used (take count bs) x ≡ true → Stands x
  there x u = go (eqb x 0) refl
    where
      go : (t : Bool) → eqb x 0 ≡ t → Stands x
      go true e = absurd (true≢false (sym u ∙ rw e refl))
      go false e =
          let s = eqb-false x 0 e in
          ⊎_elim
          (λ F. record { some = s; found = F; place = place_some b x s })
          (λ M. absurd (true≢false (sym u ∙ rw (e, M.none, ne_eqb 0 x (λ q. s (sym q))) refl)))
          (at x s)

  pub honest_book : HonestBook b (book_of d (take count bs))
  unfolding book_of
  honest_book = record {
    has = has_is;
    molecules = λ x u. let S = there x u in let F = S.found in molecule (find (take count bs) x).atoms (bond_bytes d (find (take count bs) x)) F.fine;
    told = λ x u. let S = there x u in let F = S.found in rw S.place (summary_told (find (take count bs) x).number (find (take count bs) x).atoms (bond_bytes d (find (take count bs) x)) F.fine (summary_at b (place_from b x 0 (places_in b))) F.held.begins);
    ends = λ x a u w. let S = there x u in let F = S.found in rw S.place (ends_told (find (take count bs) x).number (find (take count bs) x).atoms (bond_bytes d (find (take count bs) x)) F.fine (summary_at b (place_from b x 0 (places_in b))) F.held.begins a w);
  }

-- Laws. What a queue is told depends on its own calls only: whatever the other queue calls in between, the answers are those that its own calls have by
-- themselves; and no call changes a byte outside the caller's places. Assumes nothing.
use Rattle.std.specs.Prelude.{ℕ, ◌+◌, ◌*◌, ◌≤◌, ◌<◌, Bool, ◌≡◌, leb, length, get_or, take, drop, replicate}
use Rattle.std.proofs.Math.Bool.{true, false}
use mathlib.Core.List.{List, [], ◌∷◌, ◌++◌}
use Rattle.std.proofs.Math.Path.{refl, ap, ap₂}
use Rattle.std.proofs.Common.{sym, ◌∙◌, arith, lt-ltb, le-ltb, leb-true, leb-false, length-append, length-take, length-drop, take-append-drop, length-take-le, take_at, drop_at, get_or-take, get_or-drop}
use Rattle.std.proofs.lemmas.List.{length-replicate, get_or-replicate}
use Rattle.std.proofs.Math.ListN.{get_or-eq_default}
use Rattle.std.proofs.lemmas.List.Edits.{sets}
use Rattle.std.proofs.Math.Seq.{length-sets}
use Rattle.reply.specs.Read.{Read, refused, read, ◌then◌, refuse_if, refusal}
use Rattle.queues.specs.Shelf.{place_holding, unless, zero_number, add_reply, added, look_reply, drop_reply, dropped}
use Rattle.queues.specs.Table.{shelf_bytes, table_bytes, shelf, with_shelf, table_after, zeroed, emptied}
use Rattle.queues.specs.Calls.{Trade, Call, add, look, drop as remove, compose, Answer, done, fields, sheet, Sent, mine, cons_if, own, answer, after, answers, table_answer, table_left, answers_to, table_all}
use Rattle.queues.specs.Model.{Entry, Meaning, left, told_all, left_all}
use Rattle.records.specs.Stored.{byte_put}
use Rattle.queues.specs.Keeps.{HonestTrade}
use Rattle.queues.proofs.Kept.{KeptPlaces, keeps_empty, same_answer, same_left}
use Rattle.queues.specs.declared.Queue.{Queue}
use Rattle.queues.specs.declared.Queue.TheVariants.{Day, Night}

unless-length : {A : Type 0} (r : Read A) (s t : List ℕ) → length t ≡ length s → length (unless r s t) ≡ length s
unless-length (refused r) s t e = refl
unless-length (read a) s t e = e

-- two parts of a table, for any length of a part
module _ (n : ℕ) (t : List ℕ) (long : n + n ≤ length t) where
  first_size : length (take n (drop 0 t)) ≡ n
  first_size = length-take-le n t (omega arith)

  second_size : length (take n (drop n t)) ≡ n
  second_size = length-take-le n (drop n t) (rw (length-drop n t) (omega arith))

  module _ (s : List ℕ) (size : length s ≡ n) where
    first_own : take n (drop 0 (take 0 t ++ (s ++ drop n (drop 0 t)))) ≡ s
    first_own = take_at s (drop n t) n size

    first_other : take n (drop n (take 0 t ++ (s ++ drop n (drop 0 t)))) ≡ take n (drop n t)
    first_other = ap (take n) (drop_at s (drop n t) n size)

    second_own : take n (drop n (take n t ++ (s ++ drop n (drop n t)))) ≡ s
    second_own = ap (take n) (drop_at (take n t) (s ++ drop n (drop n t)) n (length-take-le n t (omega arith))) ∙ take_at s (drop n (drop n t)) n size

    second_other : take n (drop 0 (take n t ++ (s ++ drop n (drop n t)))) ≡ take n (drop 0 t)
    second_other = take_at (take n t) (s ++ drop n (drop n t)) n (length-take-le n t (omega arith))

    first_length : length (take 0 t ++ (s ++ drop n (drop 0 t))) ≡ length t
    first_length = length-append s (drop n t) ∙ omega (arith, size, length-drop n t)

    second_length : length (take n t ++ (s ++ drop n (drop n t))) ≡ length t
    second_length =
        length-append (take n t) (s ++ drop n (drop n t))
        ∙ omega (arith, length-take-le n t (omega arith), length-append s (drop n (drop n t)), size, length-drop n (drop n t), length-drop n t)

mine_same : (q r : Queue) → mine q r ≡ true → r ≡ q
mine_same Day Day e = refl
mine_same Day Night e = let z : ◌≡◌ {A = ℕ} 0 1 = cc in absurd (omega arith)
mine_same Night Day e = let z : ◌≡◌ {A = ℕ} 0 1 = cc in absurd (omega arith)
mine_same Night Night e = refl

module _ {G F O S T : Type 0} (trade : Trade G F O S T) where
  abbrev w : ℕ
  w = trade.width

  -- a call keeps the length of a shelf
  after-length : (s : List ℕ) (c : Call G O) → length (after trade s c) ≡ length s
  unfolding added dropped
  after-length s (add x g) = unless-length (add_reply w s x.value (trade.check g)) s _ (length-sets s (w * place_holding w s 0) (trade.stored x.value g))
  after-length s (look x) = refl
  after-length s (remove x) = unless-length (drop_reply w s x) s _ (length-sets s (w * place_holding w s x) zero_number)
  after-length s (compose o) = refl

  module _ (t : List ℕ) (long : table_bytes w ≤ length t) where
    pub shelf_size : (q : Queue) → length (shelf w q t) ≡ shelf_bytes w
    shelf_size Day = first_size (shelf_bytes w) t long
    shelf_size Night = second_size (shelf_bytes w) t long

    same_shelf : (q : Queue) → t ≡ with_shelf w q t (shelf w q t)
    same_shelf Day = sym (take-append-drop (shelf_bytes w) t)
    same_shelf Night = sym (ap (λ (l : List ℕ). take (shelf_bytes w) t ++ l) (take-append-drop (shelf_bytes w) (drop (shelf_bytes w) t)) ∙ take-append-drop (shelf_bytes w) t)

    -- at the table a call is told what its shelf tells, and only the shelf changes
    pub table_answer_lem : (q : Queue) (c : Call G O) → table_answer trade q t c ≡ answer trade (shelf w q t) c
    table_answer_lem q (add x g) = ap (λ (b : Bool). done (refuse_if b 9 0 then λ _. add_reply w (shelf w q t) x.value (trade.check g))) (le-ltb (length t) (table_bytes w) long)
    table_answer_lem q (look x) = ap (λ (b : Bool). fields (refuse_if b 9 0 then λ _. look_reply w (shelf w q t) trade.fields_of x)) (le-ltb (length t) (table_bytes w) long)
    table_answer_lem q (remove x) = ap (λ (b : Bool). done (refuse_if b 9 0 then λ _. drop_reply w (shelf w q t) x)) (le-ltb (length t) (table_bytes w) long)
    table_answer_lem q (compose o) = ap (λ (b : Bool). sheet (trade.said o (refuse_if b 9 0 then λ _. trade.composed (shelf w q t) o))) (le-ltb (length t) (table_bytes w) long)

    long_after : (q : Queue) (s : List ℕ) → table_after w q t s ≡ with_shelf w q t s
    long_after q s = ap (λ (b : Bool). unless (refuse_if b 9 0) t (with_shelf w q t s)) (le-ltb (length t) (table_bytes w) long)

    pub table_left_lem : (q : Queue) (c : Call G O) → table_left trade q t c ≡ with_shelf w q t (after trade (shelf w q t) c)
    table_left_lem q (add x g) = long_after q (after trade (shelf w q t) (add x g))
    table_left_lem q (look x) = same_shelf q
    table_left_lem q (remove x) = long_after q (after trade (shelf w q t) (remove x))
    table_left_lem q (compose o) = same_shelf q

    module _ (s : List ℕ) (size : length s ≡ shelf_bytes w) where
      with_own : (q : Queue) → shelf w q (with_shelf w q t s) ≡ s
      with_own Day = first_own (shelf_bytes w) t long s size
      with_own Night = second_own (shelf_bytes w) t long s size

      with_other : (q r : Queue) → mine q r ≡ false → shelf w q (with_shelf w r t s) ≡ shelf w q t
      with_other Day Day e = let z : ◌≡◌ {A = ℕ} 0 1 = cc in absurd (omega arith)
      with_other Day Night e = second_other (shelf_bytes w) t long s size
      with_other Night Day e = first_other (shelf_bytes w) t long s size
      with_other Night Night e = let z : ◌≡◌ {A = ℕ} 0 1 = cc in absurd (omega arith)

      with_length : (q : Queue) → length (with_shelf w q t s) ≡ length t
      with_length Day = first_length (shelf_bytes w) t long s size
      with_length Night = second_length (shelf_bytes w) t long s size

    after_size : (q : Queue) (c : Call G O) → length (after trade (shelf w q t) c) ≡ shelf_bytes w
    after_size q c = after-length (shelf w q t) c ∙ shelf_size q

    -- NO CALL CHANGES A BYTE OF THE OTHER QUEUE'S PLACES
    pub own_after : (q : Queue) (c : Call G O) → shelf w q (table_left trade q t c) ≡ after trade (shelf w q t) c
    own_after q c = ap (shelf w q) (table_left_lem q c) ∙ with_own (after trade (shelf w q t) c) (after_size q c) q

    pub other_after : (q r : Queue) (c : Call G O) → mine q r ≡ false → shelf w q (table_left trade r t c) ≡ shelf w q t
    other_after q r c e = ap (shelf w q) (table_left_lem r c) ∙ with_other (after trade (shelf w r t) c) (after_size r c) q r e

    pub left_length : (q : Queue) (c : Call G O) → length (table_left trade q t c) ≡ length t
    left_length q c = ap length (table_left_lem q c) ∙ with_length (after trade (shelf w q t) c) (after_size q c) q

    left_long : (q : Queue) (c : Call G O) → table_bytes w ≤ length (table_left trade q t c)
    left_long q c = omega (arith, long, left_length q c)

  -- LOOKING UP AND COMPOSING CHANGE NO BYTE
  pub look_leaves : (q : Queue) (t : List ℕ) (x : ℕ) → table_left trade q t (look x) ≡ t
  look_leaves q t x = refl

  pub compose_leaves : (q : Queue) (t : List ℕ) (o : O) → table_left trade q t (compose o) ≡ t
  compose_leaves q t o = refl

  -- ON A SHORT TABLE every call is told 9, and no byte changes
  abbrev pub nine : Call G O → Answer F T
  nine (add x g) = done (refused (refusal 9 0))
  nine (look x) = fields (refused (refusal 9 0))
  nine (remove x) = done (refused (refusal 9 0))
  nine (compose o) = sheet (trade.said o (refused (refusal 9 0)))

  module _ (q : Queue) (t : List ℕ) (short : length t < table_bytes w) where
    pub short_told : (c : Call G O) → table_answer trade q t c ≡ nine c
    short_told (add x g) = rw (lt-ltb (length t) (table_bytes w) short)
    short_told (look x) = rw (lt-ltb (length t) (table_bytes w) short)
    short_told (remove x) = rw (lt-ltb (length t) (table_bytes w) short)
    short_told (compose o) = rw (lt-ltb (length t) (table_bytes w) short)

    pub short_left : (c : Call G O) → table_left trade q t c ≡ t
    short_left (add x g) = rw (lt-ltb (length t) (table_bytes w) short)
    short_left (look x) = refl
    short_left (remove x) = rw (lt-ltb (length t) (table_bytes w) short)
    short_left (compose o) = refl

  -- on any bytes, the answers to a queue are those of its own calls on its own shelf
  pub alone : (q : Queue) (t : List ℕ) → table_bytes w ≤ length t → (cs : List (Sent G O)) → answers_to trade q t cs ≡ answers trade (shelf w q t) (own q cs)
  unfolding answers_to answers own
  alone q t long [] = refl
  alone q t long (c ∷ cs) = go (mine q c.queue) refl (alone q (table_left trade c.queue t c.call) (left_long t long c.queue c.call) cs)
    where
      go : (b : Bool) → mine q c.queue ≡ b → answers_to trade q (table_left trade c.queue t c.call) cs ≡ answers trade (shelf w q (table_left trade c.queue t c.call)) (own q cs)
          → cons_if b (table_answer trade c.queue t c.call) (answers_to trade q (table_left trade c.queue t c.call) cs) ≡ answers trade (shelf w q t) (cons_if b c.call (own q cs))
      go true e more =
          let r = mine_same q c.queue e in
          ap₂ (λ (a : Answer F T) (l : List (Answer F T)). a ∷ l)
          (table_answer_lem t long c.queue c.call ∙ ap (λ (v : Queue). answer trade (shelf w v t) c.call) r)
          (more ∙ ap (λ (l : List ℕ). answers trade l (own q cs)) (ap (λ (v : Queue). shelf w q (table_left trade v t c.call)) r ∙ own_after t long q c.call))
      go false e more = more ∙ ap (λ (l : List ℕ). answers trade l (own q cs)) (other_after t long q c.queue c.call e)

-- every byte of a shelf is 0 when the table was made empty
zero_part : (n len : ℕ) (t : List ℕ) → len ≤ length t → (from : ℕ) → from + n ≤ len → (i : ℕ) → get_or (take n (drop from (sets t 0 (replicate len 0)))) i 0 ≡ 0
zero_part n len t l from h i = go (leb n i) refl
  where
    go : (b : Bool) → leb n i ≡ b → get_or (take n (drop from (sets t 0 (replicate len 0)))) i 0 ≡ 0
    go true e = get_or-eq_default (take n (drop from (sets t 0 (replicate len 0)))) 0 (omega (arith, leb-true n i e, length-take n (drop from (sets t 0 (replicate len 0)))))
    go false e =
        let m = leb-false n i e in
        let z : from + i ≡ 0 + (from + i) = omega arith in
        get_or-take n (drop from (sets t 0 (replicate len 0))) i 0 m
        ∙ get_or-drop from (sets t 0 (replicate len 0)) i 0
        ∙ ap (λ (j : ℕ). get_or (sets t 0 (replicate len 0)) j 0) z
        ∙ byte_put (replicate len 0) t 0 (from + i) (omega (arith, length-replicate {A = ℕ} len 0)) (omega (arith, length-replicate {A = ℕ} len 0))
        ∙ get_or-replicate len (from + i) 0 0 (omega arith)

module _ (w : ℕ) (t : List ℕ) (long : table_bytes w ≤ length t) where
  emptied_is : emptied w t ≡ zeroed w t
  emptied_is = ap (λ (b : Bool). unless (refuse_if b 9 0) t (zeroed w t)) (le-ltb (length t) (table_bytes w) long)

  emptied_long : table_bytes w ≤ length (zeroed w t)
  unfolding zeroed
  emptied_long = rw (length-sets t 0 (replicate (table_bytes w) 0)) long

  zero_shelf : (q : Queue) (i : ℕ) → get_or (shelf w q (zeroed w t)) i 0 ≡ 0
  unfolding zeroed
  zero_shelf Day i = zero_part (shelf_bytes w) (table_bytes w) t long 0 (omega arith) i
  zero_shelf Night i = zero_part (shelf_bytes w) (table_bytes w) t long (shelf_bytes w) (omega arith) i

-- where the bytes say what the goods mean
module _ {G F O S T : Type 0} {trade : Trade G F O S T} {m : Meaning G F O T} (h : HonestTrade trade m) where
  -- on a shelf that holds what a queue holds, the answers are the queue's
  told_alone : {s : List ℕ} {held : List (Entry G)} → KeptPlaces h s held → (cs : List (Call G O)) → answers trade s cs ≡ told_all m held cs
  unfolding answers told_all
  told_alone k [] = refl
  told_alone {s = s} {held = held} k (c ∷ cs) = ap₂ (λ (a : Answer F T) (l : List (Answer F T)). a ∷ l) (same_answer h k c) (told_alone {s = after trade s c} (same_left h k c) cs)

  -- a table that was made empty holds nothing, for either queue
  keeps_emptied : (t : List ℕ) → table_bytes trade.width ≤ length t → (q : Queue) → KeptPlaces h (shelf trade.width q (zeroed trade.width t)) []
  keeps_emptied t long q =
      keeps_empty h (shelf trade.width q (zeroed trade.width t)) (shelf_size trade (zeroed trade.width t) (emptied_long trade.width t long) q) (zero_shelf trade.width t long q)

  -- WHAT A QUEUE IS TOLD DEPENDS ONLY ON ITS OWN CALLS since the table was made empty, whatever was there and whatever the other queue calls
  pub own_calls_only : (q : Queue) (t : List ℕ) → table_bytes trade.width ≤ length t → (cs : List (Sent G O)) → answers_to trade q (emptied trade.width t) cs ≡ told_all m [] (own q cs)
  own_calls_only q t long cs =
      ap (λ (l : List ℕ). answers_to trade q l cs) (emptied_is trade.width t long)
      ∙ alone trade q (zeroed trade.width t) (emptied_long trade.width t long) cs
      ∙ told_alone (keeps_emptied t long q) (own q cs)

  -- and after any calls of both, its places hold what its own calls left
  keeps_all : (q : Queue) (t : List ℕ) → table_bytes trade.width ≤ length t → (held : List (Entry G)) → KeptPlaces h (shelf trade.width q t) held → (cs : List (Sent G O))
      → KeptPlaces h (shelf trade.width q (table_all trade t cs)) (left_all m held (own q cs))
  unfolding table_all left_all own
  keeps_all q t long held k [] = k
  keeps_all q t long held k (c ∷ cs) =
      let next = table_left trade c.queue t c.call in
      go (mine q c.queue) refl (λ l r. keeps_all q next (left_long trade t long c.queue c.call) l r cs)
    where
      go : (b : Bool) → mine q c.queue ≡ b
          → ((l : List (Entry G)) → KeptPlaces h (shelf trade.width q (table_left trade c.queue t c.call)) l
          → KeptPlaces h (shelf trade.width q (table_all trade (table_left trade c.queue t c.call) cs)) (left_all m l (own q cs)))
          → KeptPlaces h (shelf trade.width q (table_all trade (table_left trade c.queue t c.call) cs)) (left_all m held (cons_if b c.call (own q cs)))
      go true e more =
          let r = mine_same q c.queue e in
          let s : shelf trade.width q (table_left trade c.queue t c.call) ≡ after trade (shelf trade.width q t) c.call
          = ap (λ (v : Queue). shelf trade.width q (table_left trade v t c.call)) r ∙ own_after trade t long q c.call in
          more (left m held c.call) (rw s (same_left h k c.call))
      go false e more = more held (rw (other_after trade t long q c.queue c.call e) k)

  pub keeps_own : (q : Queue) (t : List ℕ) → table_bytes trade.width ≤ length t → (cs : List (Sent G O))
      → KeptPlaces h (shelf trade.width q (table_all trade (emptied trade.width t) cs)) (left_all m [] (own q cs))
  keeps_own q t long cs =
      rw (emptied_is trade.width t long) (keeps_all q (zeroed trade.width t) (emptied_long trade.width t long) [] (keeps_emptied t long q) cs)

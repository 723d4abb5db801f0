-- Laws. Each call on a shelf that holds what a queue holds is told what the queue is told, and leaves a shelf that holds what the queue holds then. Assumes nothing.
use Rattle.std.specs.Prelude.{ℕ, ◌*◌, ◌≤◌, ◌<◌, Bool, not, cond, ◌≡◌, eqb, ltb, leb, length, get_or, take, drop as rest}
use Rattle.std.proofs.Math.Bool.{true, false}
use mathlib.Core.List.{List, [], ◌∷◌}
use Rattle.std.proofs.Math.Path.{refl, ap}
use Rattle.std.proofs.Common.{◌∙◌, subst, arith, take-take}
use borrow.Author.Tests.{eqb-false, leb-false}
use Rattle.std.proofs.lemmas.List.Edits.{sets}
use Rattle.reply.specs.Read.{Read, refused, read, ◌then◌, refuse_if}
use Rattle.reply.specs.Chain.{then-read, if_read}
use Rattle.records.specs.Bytes.{part}
use Rattle.queues.specs.Shelf.{places, number_in, place_holding, place_at, unless, zero_number, room_reply, add_reply, added, look_reply, drop_reply, dropped}
use Rattle.queues.specs.Calls.{CallNumber, Trade, Call, add, look, drop, compose, done, fields, sheet, answer, after}
use Rattle.queues.specs.Model.{Entry, lookup, has, without, Meaning, told_add, told_look, told_drop, told, left}
use Rattle.queues.specs.Seeks.{taken_most}
use Rattle.queues.specs.Entries.{has_positive, has-number}
use Rattle.queues.specs.Storage.{Storable, stores_empty, stores_added, stores_dropped}
use Rattle.queues.specs.Room.{room_by}
use Rattle.queues.specs.Keeps.{Proper, AllProper, stored, KeepsQueue, HonestTrade}

-- what stands under a number
module _ {G F O S T : Type 0} (trade : Trade G F O S T) (m : Meaning G F O T) (wide : 2 ≤ trade.width) where
  -- what is looked up is proper
  pub lookup_proper : (q : List (Entry G)) (x : ℕ) → AllProper trade m q → 1 ≤ x → (lookup m.nothing q x).number ≡ x → Proper trade m (lookup m.nothing q x)
  unfolding lookup
  lookup_proper [] x k p e = absurd (omega arith)
  lookup_proper (e ∷ q) x k p n = go (eqb e.number x) n (lookup_proper q x k.1 p)
    where
      go : (t : Bool) → (cond t e (lookup m.nothing q x)).number ≡ x → ((lookup m.nothing q x).number ≡ x → Proper trade m (lookup m.nothing q x)) → Proper trade m (cond t e (lookup m.nothing q x))
      go true n more = k.0
      go false n more = more n

  module _ {s : List ℕ} {q : List (Entry G)} (k : KeepsQueue trade m wide s q) (x : ℕ) (e : has m.nothing q x ≡ true) where
    pub proper_at : Proper trade m (lookup m.nothing q x)
    proper_at = lookup_proper q x k.proper (has_positive m.nothing q x e) (has-number m.nothing q x e)

    -- the place of a number that is held begins with what was stored
    pub stands : let b = trade.stored x (lookup m.nothing q x).goods in take (length b) (place_at trade.width s (place_holding trade.width s x)) ≡ b
    stands =
        let g = (lookup m.nothing q x).goods in
        let from = trade.width * place_holding trade.width s x in
        subst (λ (y : ℕ). take (length (trade.stored y g)) (part s from trade.width) ≡ trade.stored y g) (has-number m.nothing q x e)
        (take-take (length (trade.stored (lookup m.nothing q x).number g)) trade.width (rest from s) (k.stores.each x e).fits ∙ k.stores.bytes x e)

module _ {G F O S T : Type 0} {trade : Trade G F O S T} {m : Meaning G F O T} (h : HonestTrade trade m) where
  abbrev pub KeptPlaces : List ℕ → List (Entry G) → Type 0
  KeptPlaces s q = KeepsQueue trade m h.wide s q

  module _ {s : List ℕ} {q : List (Entry G)} (k : KeptPlaces s q) where
    -- there is no room exactly where eight are held
    pub same_room : not (ltb (place_holding trade.width s 0) places) ≡ leb places (length q)
    same_room = room_by trade.width s ∙ ap (leb places) k.stores.count

    pub same_add : (x : ℕ) (g : G) → add_reply trade.width s x (trade.check g) ≡ told_add m q x g
    unfolding add_reply room_reply told_add
    same_add x g = rw (h.check g, k.stores.numbers x, same_room)

    pub same_drop : (x : ℕ) → drop_reply trade.width s x ≡ told_drop m q x
    unfolding drop_reply told_drop
    same_drop x = rw (k.stores.numbers x)

    pub same_look : (x : ℕ) → look_reply trade.width s trade.fields_of x ≡ told_look m q x
    unfolding look_reply told_look
    same_look x = rw (k.stores.numbers x) (go (has m.nothing q x) refl)
      where
        go : (t : Bool) → has m.nothing q x ≡ t
            → (refuse_if (not t) 30 0 then λ _. read (trade.fields_of (place_at trade.width s (place_holding trade.width s x)))) ≡ (refuse_if (not t) 30 0 then λ _. read (m.fields_of (lookup m.nothing q x).goods))
        go true e =
            let b = place_at trade.width s (place_holding trade.width s x) in
            ap read (h.fields x (lookup m.nothing q x).goods b (proper_at trade m h.wide k x e).fine (stands trade m h.wide k x e))
        go false e = refl

    -- never more than eight
    pub at_most_eight : length q ≤ places
    at_most_eight = omega (arith, k.stores.count, taken_most (number_in trade.width s) places)

  -- the empty shelf
  pub keeps_empty : (s : List ℕ) → length s ≡ trade.width * places → ((i : ℕ) → get_or s i 0 ≡ 0) → KeptPlaces s []
  keeps_empty s size z = record { stores = stores_empty m.nothing trade.width h.wide (stored trade m) s size z; proper = tt }

  -- goods are added
  module _ {s : List ℕ} {q : List (Entry G)} (k : KeptPlaces s q) (x : CallNumber) (g : G) (told_fine : told_add m q x.value g ≡ read tt) where
    abbrev entry : Entry G
    entry = record { number = x.value; goods = g }

    pub record Passes : Type 0 where
      pub fine : m.fine g ≡ read tt
      pub positive : 1 ≤ x.value
      pub new : has m.nothing q x.value ≡ false
      pub room : length q < places

    pub passes : Passes
    unfolding told_add
    passes =
        let (t, a, f) = then-read (m.fine g) _ told_fine in
        let (u, b, i) = then-read (refuse_if (eqb x.value 0) 14 0) _ f in
        let (v, c, j) = then-read (refuse_if (has m.nothing q x.value) 29 0) _ i in
        record {
          fine = a;
          positive = omega (arith, eqb-false x.value 0 (if_read _ 14 0 b));
          new = if_read _ 29 0 c;
          room = leb-false places (length q) (if_read _ 28 0 j);
        }

    storable : Storable m.nothing trade.width h.wide (stored trade m) entry
    storable = record {
      fits = h.fits x.value g passes.fine;
      two = h.two x.value g;
      number = h.number x.value g x.small;
      positive = passes.positive;
    }

    pub keeps_added : KeptPlaces (sets s (trade.width * place_holding trade.width s 0) (trade.stored x.value g)) (record { number = x.value; goods = g } ∷ q)
    keeps_added = record {
      stores = stores_added m.nothing trade.width h.wide (stored trade m) k.stores entry storable passes.new passes.room;
      proper = (record { positive = passes.positive; small = x.small; fine = passes.fine }, k.proper);
    }

  -- goods are dropped
  proper_without : (q : List (Entry G)) (x : ℕ) → AllProper trade m q → AllProper trade m (without q x)
  unfolding without
  proper_without [] x k = k
  proper_without (e ∷ q) x k = go (eqb e.number x) (proper_without q x k.1)
    where
      go : (t : Bool) → AllProper trade m (without q x) → AllProper trade m (cond t q (e ∷ without q x))
      go true more = k.1
      go false more = (k.0, more)

  pub keeps_dropped : {s : List ℕ} {q : List (Entry G)} → KeptPlaces s q → (x : ℕ) → has m.nothing q x ≡ true → KeptPlaces (sets s (trade.width * place_holding trade.width s x) zero_number) (without q x)
  keeps_dropped {s} {q} k x held =
      record { stores = stores_dropped m.nothing trade.width h.wide (stored trade m) k.stores x held; proper = proper_without q x k.proper }

  -- one call
  module _ {s : List ℕ} {q : List (Entry G)} (k : KeptPlaces s q) where
    pub same_answer : (c : Call G O) → answer trade s c ≡ told m q c
    same_answer (add x g) = ap done (same_add k x.value g)
    same_answer (look x) = ap fields (same_look k x)
    same_answer (drop x) = ap done (same_drop k x)
    same_answer (compose o) = ap sheet (h.composed s q k o)

    pub same_left : (c : Call G O) → KeptPlaces (after trade s c) (left m q c)
    unfolding added dropped told_drop
    same_left (add x g) = rw (same_add k x.value g) (go (told_add m q x.value g) refl)
      where
        go : (r : Read (Unit {0})) → told_add m q x.value g ≡ r
            → KeptPlaces (unless r s (sets s (trade.width * place_holding trade.width s 0) (trade.stored x.value g))) (unless r q (record { number = x.value; goods = g } ∷ q))
        go (refused r) e = k
        go (read u) e = keeps_added k x g e
    same_left (look x) = k
    same_left (drop x) = rw (same_drop k x) (go (has m.nothing q x) refl)
      where
        go : (t : Bool) → has m.nothing q x ≡ t → KeptPlaces (unless (refuse_if (not t) 30 0) s (sets s (trade.width * place_holding trade.width s x) zero_number)) (unless (refuse_if (not t) 30 0) q (without q x))
        go true e = keeps_dropped k x e
        go false e = k
    same_left (compose o) = k

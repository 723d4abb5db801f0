-- Steps of the loops over blocks, bonds and joins: what is left to do gives the answer. Assumes nothing.
use Prim.Native.Nat.{ℕ, zero, suc, ◌+◌, ◌*◌, ◌-◌, ◌<◌, ◌≤◌}
use mathlib.Core.Bool.{Bool, true, false, ◌&&◌, cond}
use mathlib.Core.List.{List, ◌∷◌}
use mathlib.Core.Path.{◌≡◌, refl}
use native.Mathlib.Decide.{dec_lt}
use native.Mathlib.Numerals.{add-one}
use native.Mathlib.Omega.{arith}
use borrow.Author.Tests.{ne_eqb, eqb-true, eqb-false, lt-ltb, le-ltb}
use lib.Dec.{eqb}
use lib.ListN.{length, take, drop, get_or, get_or-eq_default, drop_of_length-le, length-take}
use lib.Seq.{drop-cons, get_or-take}
use Rattle.graph.specs.Assembly.{Join}
use Rattle.reply.specs.Read.{is_outside}
use Rattle.records.specs.Records.{assembly_kind}
use Rattle.assembly.specs.Book.{no_block, find}
use Rattle.assembly.specs.Placements.{placement_at, join_ends, joins_on}
use Rattle.assembly.specs.Work.{own_on}
use Rattle.assembly.specs.Degrees.{joins-suc}
use Rattle.assembly.specs.declared.BlockAt.{BlockAt}

-- the blocks from i on of the first `count` of a table
module _ (t : List BlockAt) (count x i : ℕ) where
  abbrev left : List BlockAt
  left = drop i (take count t)

  pub find_over : length (take count t) ≤ i → find left x ≡ no_block
  unfolding find
  find_over h = rw (drop_of_length-le (take count t) h)

  module _ (h : i < length (take count t)) where
    next : left ≡ get_or t i no_block ∷ drop (i + 1) (take count t)
    next =
        let k : i < count = omega (arith, length-take count t) in
        rw (drop-cons (take count t) i no_block h, get_or-take count t i no_block k, add-one)

    pub find_here : eqb (get_or t i no_block).number x ≡ true → find left x ≡ get_or t i no_block
    unfolding find
    find_here e = rw (next, e)

    pub find_next : eqb (get_or t i no_block).number x ≡ false → find left x ≡ find (drop (i + 1) (take count t)) x
    unfolding find
    find_next e = rw (next, e)

-- no number is among none, and one is among one more only where it is the last
all_outside : (v : ℕ) → is_outside 0 v ≡ true
all_outside zero = refl
all_outside (suc v) = rw (ne_eqb (suc v) 0 (omega arith), lt-ltb 0 (suc v) (omega arith))

still_outside : (k v : ℕ) → (v ≡ suc k → ⊥) → is_outside (suc k) v ≡ is_outside k v
still_outside k v h = go (dec_lt k v)
  where
    go : Dec (k < v) → is_outside (suc k) v ≡ is_outside k v
    go (yes l) = rw (lt-ltb k v l, lt-ltb (suc k) v (omega arith))
    go (no l) = rw (le-ltb k v (omega arith), le-ltb (suc k) v (omega arith))

module _ (joins : ℕ → Join) (p a : ℕ) where
  pub own_none : own_on joins 0 p a ≡ 0
  unfolding own_on
  own_none = rw (all_outside (p - 1))

  own_next : (k : ℕ) → own_on joins (suc k) p a ≡ own_on joins k p a + cond (eqb (suc (suc k)) p && eqb (joins (suc k)).own a) 1 0
  unfolding own_on
  own_next k = go (eqb (suc (suc k)) p) refl
    where
      go : (t : Bool) → eqb (suc (suc k)) p ≡ t → own_on joins (suc k) p a ≡ own_on joins k p a + cond (t && eqb (joins (suc k)).own a) 1 0
      go true t =
          let e : p - 1 ≡ suc k = omega (arith, eqb-true (suc (suc k)) p t) in
          rw (e, ne_eqb (suc k) 0 (omega arith), le-ltb (suc k) (suc k) (omega arith), lt-ltb k (suc k) (omega arith)) (omega arith)
      go false t = rw (still_outside k (p - 1) (λ e. eqb-false (suc (suc k)) p t (omega arith))) (omega arith)

  -- the ends of one join more: that of its parent's side, and those of the own side
  pub joins_next : (k : ℕ) → let j = joins (k + 1) in
      joins_on joins (k + 1) p a + own_on joins k p a ≡ joins_on joins k p a + own_on joins (k + 1) p a + cond (eqb j.parent p && eqb j.site a) 1 0
  unfolding join_ends
  joins_next k = rw (add-one k) (omega (arith, own_next k, joins-suc joins k p a))

-- before a placement whose parent's atom is not 0 all bytes are there
pub stands : (xs : List ℕ) (k : ℕ) → ((placement_at xs k).site ≡ 0 → ⊥) → assembly_kind.fixed + assembly_kind.item * k ≤ length xs
unfolding placement_at
stands xs k h = go (dec_lt (length xs) (assembly_kind.fixed + assembly_kind.item * k))
  where
    go : Dec (length xs < assembly_kind.fixed + assembly_kind.item * k) → assembly_kind.fixed + assembly_kind.item * k ≤ length xs
    go (yes l) = absurd (h (get_or-eq_default xs 0 (omega arith)))
    go (no l) = omega arith

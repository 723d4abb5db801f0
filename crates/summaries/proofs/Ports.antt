-- The joins of placed summaries: where their atoms are, how far those are apart, what is counted from them, and how small all of it is. Assumes nothing.
use Prim.Native.Nat.{ℕ, ◌+◌, ◌*◌, ◌-◌, ◌^◌, ◌≤◌, ◌<◌}
use mathlib.Core.List.{List, []}
use native.Mathlib.Decide.{dec_lt}
use lib.ListN.{get_or, take, drop, length-take, get_or-eq_default}
use lib.Seq.{get_or-take, get_or-drop}
use mathlib.Core.Path.{◌≡◌, sym}
use native.Mathlib.Omega.{arith}
use Rattle.graph.specs.Graph.{Within}
use Rattle.records.specs.Bytes.{part}
use Rattle.records.specs.Words.{little_small}
use Rattle.assembly.specs.Placements.{most_placements}
use Rattle.block.specs.declared.Indices.{Indices}
use Rattle.block.specs.declared.Vertex.{Vertex}
use Rattle.joining.specs.Parts.{sight_in, six_in, grow, join_six}
use Rattle.joining.specs.Table.{Fits}
use Rattle.joining.proofs.Climb.{far_same, far_later, far_earlier, sight_here, sight_there, six_here}
use Rattle.joining.specs.Bounds.{SmallSight, SixHeld, SixBytes, SmallPart, far_most, sight_held, six_held}
use Rattle.joining.specs.Small.{SmallCounts, SmallFields}
use Rattle.summary.specs.Layout.{summary_bytes, stored_atoms, stored_fields, vertex_at, far_at, kept_of}
use Rattle.shelf.specs.Shelf.{summary_at}
use Rattle.summaries.specs.Ready.{place_in, kept_in, joins_in, LentBytes, ReadyShelf, StepsKnown, between, sight_from}
use Rattle.summaries.proofs.Small.{vertex_bytes, far_few}

-- a part of bytes is of bytes
pub lent_part : {b : List ℕ} (from n : ℕ) → LentBytes b → LentBytes (part b from n)
lent_part {b} from n l = record {
  byte = λ i. elim (dec_lt i n) [
    | yes h ↦ omega (arith, get_or-take n (drop from b) i 0 h, get_or-drop from b i 0, l.byte (from + i))
    | no h ↦ omega (arith, get_or-eq_default (take n (drop from b)) 0 {n = i} (omega (arith, length-take n (drop from b))))
  ];
}

-- what a summary says is small
module _ {s : List ℕ} (lent : LentBytes s) where
  far_byte : (i j : ℕ) → far_at s i j < 2 ^ 8
  far_byte i j = omega (arith, far_few s i j)

  pub fields_bytes : SixBytes (stored_fields s)
  unfolding stored_fields
  fields_bytes = let four = little_small s lent.byte 4 in record { atoms = omega arith; w = omega (arith, four 4, four 8); even = four 4; odd = four 8; polarity = four 12; largest = lent.byte 3 }

  kept : SmallPart (kept_of s)
  kept = record { six = fields_bytes; sight = vertex_bytes s; far = far_byte }

pub small_held : {n : ℕ} {v : Vertex} → n ≤ 32 → SmallSight n v → SmallCounts v
small_held h p = omega (arith, p)

pub room_held : {n : ℕ} {x : Indices} → n ≤ 32 → SixHeld n x → SmallFields x
room_held h p = omega (arith, p)

pub room_bytes : {x : Indices} → SixBytes x → SmallFields x
room_bytes p = omega (arith, p)

-- whatever the bytes are
pub seen_small : (s : List ℕ) (i : ℕ) → SmallCounts (vertex_at s i)
seen_small s i = omega (arith, vertex_bytes s i)

module _ {b ls : List ℕ} {count : ℕ} (r : ReadyShelf b ls count) where
  all : (k : ℕ) → SmallPart (kept_in b ls k)
  all k = kept (lent_part (summary_bytes * place_in b ls k) summary_bytes r.lent)

  pub own_small : (p i : ℕ) → SmallCounts (vertex_at (summary_at b p) i)
  own_small p i = seen_small (summary_at b p) i

  pub block_room : (p : ℕ) → SmallFields (stored_fields (summary_at b p))
  block_room p = room_bytes (kept (lent_part (summary_bytes * p) summary_bytes r.lent)).six

  pub far_small : (p i j : ℕ) → far_at (summary_at b p) i j < 2 ^ 8
  far_small p i j = (kept (lent_part (summary_bytes * p) summary_bytes r.lent)).far i j

  pub from_small : (m k : ℕ) → m ≤ most_placements → SmallCounts (sight_from b ls m k)
  from_small m k h = small_held (omega arith) (sight_held (joins_in ls) all (m - 1) ((joins_in ls k).parent - 1) (joins_in ls k).site (omega arith))

  pub six_room : (k : ℕ) → k < most_placements → SmallFields (six_in (kept_in b ls) (joins_in ls) k)
  six_room k h = room_held (omega arith) (six_held (joins_in ls) all k (omega arith))

  pub between_small : (x y : ℕ) → between b ls x y < 2 ^ 14
  between_small x y = far_most (joins_in ls) all 31 ((joins_in ls x).parent - 1) (joins_in ls x).site ((joins_in ls y).parent - 1) (joins_in ls y).site

  module _ {x : ℕ} (w : Within (count - 1) x) where
    pub fit : Fits (λ k. stored_atoms (summary_at b (place_in b ls k))) (joins_in ls) x
    fit = r.fits x w.low (omega (arith, w.high))

    pub small : x < most_placements
    small = omega (arith, w.high, r.few)

    pub earlier : Within x (joins_in ls x).parent
    earlier = fit.parent

    pub parent_small : (joins_in ls x).parent - 1 < most_placements
    parent_small = omega (arith, earlier, small)

    -- a parent that is not the first is joined itself
    pub above : 1 < (joins_in ls x).parent → Within (count - 1) ((joins_in ls x).parent - 1)
    above h = omega (arith, earlier, w.high)

  module _ {x y : ℕ} (w : Within (count - 1) x) (v : Within (count - 1) y) where
    pub between_same : (joins_in ls x).parent ≡ (joins_in ls y).parent → between b ls x y ≡ far_at (summary_at b (place_in b ls ((joins_in ls x).parent - 1))) (joins_in ls x).site (joins_in ls y).site
    between_same e =
        let p : (joins_in ls y).parent - 1 ≡ (joins_in ls x).parent - 1 = omega arith in
        rw p (far_same (kept_in b ls) (joins_in ls) 31 ((joins_in ls x).parent - 1) (joins_in ls x).site (joins_in ls y).site (omega (arith, parent_small w)))

    pub between_first : (joins_in ls y).parent < (joins_in ls x).parent
        → between b ls x y ≡ far_at (summary_at b (place_in b ls ((joins_in ls x).parent - 1))) (joins_in ls ((joins_in ls x).parent - 1)).own (joins_in ls x).site + 1 + between b ls ((joins_in ls x).parent - 1) y
    between_first h =
        let u = above w (omega (arith, earlier v)) in
        far_later (kept_in b ls) (joins_in ls) 31 ((joins_in ls x).parent - 1) (joins_in ls x).site ((joins_in ls y).parent - 1) (joins_in ls y).site (omega (arith, parent_small w)) (omega (arith, earlier v)) (earlier u)

    pub between_second : (joins_in ls x).parent < (joins_in ls y).parent
        → between b ls x y ≡ between b ls ((joins_in ls y).parent - 1) x + 1 + far_at (summary_at b (place_in b ls ((joins_in ls y).parent - 1))) (joins_in ls ((joins_in ls y).parent - 1)).own (joins_in ls y).site
    between_second h =
        let u = above v (omega (arith, earlier w)) in
        far_earlier (kept_in b ls) (joins_in ls) 31 ((joins_in ls x).parent - 1) (joins_in ls x).site ((joins_in ls y).parent - 1) (joins_in ls y).site (omega (arith, parent_small v)) (omega (arith, earlier w)) (earlier u)

  -- the row of a parent that is joined itself says the steps from its own atom to the one that is joined to it
  pub step_own : {rs : List (List ℕ)} {x : ℕ} → StepsKnown b ls rs count → Within (count - 1) x → Within (count - 1) ((joins_in ls x).parent - 1)
      → get_or (get_or rs ((joins_in ls x).parent - 1) []) x 0 ≡ far_at (summary_at b (place_in b ls ((joins_in ls x).parent - 1))) (joins_in ls ((joins_in ls x).parent - 1)).own (joins_in ls x).site
  step_own {rs} {x} s v w = s.own ((joins_in ls x).parent - 1) x w.low (omega (arith, w)) v.low (omega (arith, v)) (omega (arith, w))

  module _ {k : ℕ} (w : Within (count - 1) k) where
    -- as far as the parent: the first placement, or one that is joined itself
    pub begun_first : (joins_in ls k).parent - 1 ≡ 0 → vertex_at (summary_at b (place_in b ls ((joins_in ls k).parent - 1))) (joins_in ls k).site ≡ sight_from b ls (joins_in ls k).parent k
    unfolding sight_in
    begun_first e = rw e

    pub begun_later : (1 ≤ (joins_in ls k).parent - 1) → let a = (joins_in ls k).parent - 1 in let s = summary_at b (place_in b ls a) in
        grow (vertex_at s (joins_in ls k).site) (far_at s (joins_in ls a).own (joins_in ls k).site) (sight_from b ls a a) ≡ sight_from b ls (joins_in ls k).parent k
    begun_later h = sym (sight_here (kept_in b ls) (joins_in ls) ((joins_in ls k).parent - 1) (joins_in ls k).site h)

    -- a placement more
    pub from_next : (m : ℕ) → (joins_in ls k).parent ≤ m → m < k → grow (sight_from b ls m k) (between b ls m k) (vertex_at (summary_at b (place_in b ls m)) (joins_in ls m).own) ≡ sight_from b ls (m + 1) k
    from_next m h l =
        let e : m + 1 - 1 ≡ m = omega arith in
        let u : Within (count - 1) m = omega (arith, earlier w, w.high) in
        sym (rw e (sight_there (kept_in b ls) (joins_in ls) 31 m ((joins_in ls k).parent - 1) (joins_in ls k).site (omega (arith, earlier w)) (omega (arith, small w)) (omega (arith, earlier w)) (earlier u)))

    pub six_next : let s = summary_at b (place_in b ls k) in
        join_six (six_in (kept_in b ls) (joins_in ls) (k - 1)) (stored_fields s) (sight_from b ls k k) (vertex_at s (joins_in ls k).own) ≡ six_in (kept_in b ls) (joins_in ls) k
    six_next = sym (six_here (kept_in b ls) (joins_in ls) k w.low)

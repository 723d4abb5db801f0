-- Work. Numbers that are not cut down: there joining is by the rules themselves.
use Rattle.std.specs.Prelude.{ℕ, ◌+◌, ◌%◌, ◌^◌, ◌≤◌, ◌≡◌}
use Rattle.std.proofs.Common.{mod-eq_of_lt, arith}
use Rattle.joining.specs.Parts.{grow, join_six}
use Rattle.block.specs.declared.Indices.{Indices}
use Rattle.block.specs.declared.Vertex.{Vertex}
use Rattle.joining.specs.Joining.{most_counted, most_field, cut_counts, cut_fields, grown_of, joined_of}

-- each number that is counted is no more than n
pub record AtMost (n : ℕ) (v : Vertex) : Type 0 where
  pub sum : v.sum ≤ n
  pub even : v.even ≤ n
  pub odd : v.odd ≤ n
  pub evens : v.evens ≤ n
  pub odds : v.odds ≤ n
  pub ones : v.ones ≤ n
  pub twos : v.twos ≤ n
  pub farthest : v.farthest ≤ n

abbrev pub SmallCounts : Vertex → Type 0
SmallCounts v = AtMost most_counted v

-- with room for a sum
abbrev pub Low : Vertex → Type 0
Low v = AtMost (2 ^ 60) v

pub record SmallFields (x : Indices) : Type 0 where
  pub atoms : x.atoms ≤ most_field
  pub w : x.w ≤ most_field
  pub even : x.even ≤ most_field
  pub odd : x.odd ≤ most_field
  pub polarity : x.polarity ≤ most_field
  pub largest : x.largest ≤ most_field

-- what is small stays as it is
whole : {a n : ℕ} → a ≤ n → a % (n + 1) ≡ a
whole h = mod-eq_of_lt (omega arith)

small_counted : {v : Vertex} → SmallCounts v → cut_counts v ≡ v
small_counted s = rw (whole s.sum, whole s.even, whole s.odd, whole s.evens, whole s.odds, whole s.ones, whole s.twos, whole s.farthest)

room_held : {x : Indices} → SmallFields x → cut_fields x ≡ x
room_held r = rw (whole r.atoms, whole r.w, whole r.even, whole r.odd, whole r.polarity, whole r.largest)

pub grown_small : {v o : Vertex} {d : ℕ} → SmallCounts v → d ≤ most_counted → SmallCounts o → grown_of v d o ≡ grow v d o
unfolding grown_of
grown_small s h t = rw (small_counted s, whole h, small_counted t)

pub joined_small : {x y : Indices} {c o : Vertex} → SmallFields x → SmallFields y → SmallCounts c → SmallCounts o → joined_of x y c o ≡ join_six x y c o
unfolding joined_of
joined_small p q s t = rw (room_held p, room_held q, small_counted s, small_counted t)

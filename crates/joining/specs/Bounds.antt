-- Laws. Numbers of a byte or two, composed, stay small whatever they are. Assumes nothing.
use Prim.Native.Nat.{ℕ, zero, suc, ◌+◌, ◌*◌, ◌-◌, ◌^◌, ◌≤◌, ◌<◌, max}
use Rattle.std.specs.Prelude.{Bool, cond, ◌≡◌}
use Rattle.std.proofs.Math.Bool.{true, false}
use Rattle.std.proofs.Math.Path.{refl}
use Rattle.std.proofs.Common.{mul-le-mul, arith}
use Rattle.std.proofs.Math.Dec.{eqb}
use Rattle.graph.specs.Graph.{Within, is_even, is_at}
use Rattle.graph.specs.Assembly.{Join}
use Rattle.joining.specs.Parts.{Part, even_beyond, odd_beyond, beyond, both, grow, even_across, odd_across, join_six, far_in, sight_in, six_in}
use Rattle.block.specs.declared.Indices.{Indices}
use Rattle.block.specs.declared.Vertex.{Vertex}

-- what an atom counts is below some numbers: its sum, the parts of it, the counts, and the farthest
pub record Below (sums parts counts far : ℕ) (v : Vertex) : Type 0 where
  pub sum : v.sum < sums
  pub even : v.even < parts
  pub odd : v.odd < parts
  pub evens : v.evens < counts
  pub odds : v.odds < counts
  pub ones : v.ones < counts
  pub twos : v.twos < counts
  pub farthest : v.farthest < far

-- of n placements; and of one, where the counts are bytes and the sums are of two bytes
abbrev pub SmallSight : ℕ → Vertex → Type 0
SmallSight n = Below (2 ^ 24 * n) (2 ^ 23 * n) (2 ^ 8 * n) (2 ^ 9 * n)

abbrev pub Bytes : Vertex → Type 0
Bytes = Below (2 ^ 17) (2 ^ 16) (2 ^ 8) (2 ^ 8)

-- the same of six fields
pub record SixBelow (few sums parts far : ℕ) (x : Indices) : Type 0 where
  pub atoms : x.atoms < few
  pub w : x.w < sums
  pub even : x.even < parts
  pub odd : x.odd < parts
  pub polarity : x.polarity < parts
  pub largest : x.largest < far

abbrev pub SixHeld : ℕ → Indices → Type 0
SixHeld n = SixBelow (2 ^ 8 * n) (2 ^ 46 * n) (2 ^ 45 * n) (2 ^ 10 * n)

abbrev pub SixBytes : Indices → Type 0
SixBytes = SixBelow (2 ^ 8) (2 ^ 33) (2 ^ 32) (2 ^ 8)

pub record SmallPart (p : Part) : Type 0 where
  pub six : SixBytes p.six
  pub sight : (i : ℕ) → Bytes (p.sight i)
  pub far : (i j : ℕ) → p.far i j < 2 ^ 8

either : (t : Bool) (x y n : ℕ) → x < n → y < n → cond t x y < n
either true x y n p q = p
either false x y n p q = q

at_most : (k d : ℕ) → is_at k d ≤ 1
unfolding is_at
at_most k d = go (eqb d k)
  where
    go : (t : Bool) → cond {A = ℕ} t 1 0 ≤ 1
    go true = omega arith
    go false = omega arith

at_times : (d x : ℕ) → is_at 0 d * x ≤ x
at_times d x = omega (arith, mul-le-mul (at_most 0 d) (le x))
  where
    le : (x : ℕ) → x ≤ x
    le x = omega arith

times : (x y a b : ℕ) → x < a → y < b → x * y ≤ a * b
times x y a b p q = mul-le-mul (omega arith) (omega arith)

-- what is counted of both sides of a join
grown_below : {s e c f S E C F d D : ℕ} {v o : Vertex} → d < D → Below s e c f v → Below S E C F o → Below (s + (D * C + E) + (D * C + E)) (e + (D * C + E)) (c + C) (max f (D + F)) (grow v d o)
unfolding grow both beyond even_beyond odd_beyond
grown_below {s} {e} {c} {f} {S} {E} {C} {F} {d} {D} {v} {o} h p q =
    let x : (d + 1) * o.odds ≤ D * C = mul-le-mul (omega arith) (omega (arith, q.odds)) in
    let y : (d + 1) * o.evens ≤ D * C = mul-le-mul (omega arith) (omega (arith, q.evens)) in
    let even = either (is_even d) ((d + 1) * o.odds + o.odd) ((d + 1) * o.evens + o.even) (D * C + E) (omega (arith, q.odd)) (omega (arith, q.even)) in
    let odd = either (is_even d) ((d + 1) * o.evens + o.even) ((d + 1) * o.odds + o.odd) (D * C + E) (omega (arith, q.even)) (omega (arith, q.odd)) in
    record {
      sum = omega (arith, p.sum, even, odd);
      even = omega (arith, p.even, even);
      odd = omega (arith, p.odd, odd);
      evens = omega (arith, p.evens, either (is_even d) o.odds o.evens C q.odds q.evens);
      odds = omega (arith, p.odds, either (is_even d) o.evens o.odds C q.evens q.odds);
      ones = omega (arith, p.ones, at_most 0 d, q.ones);
      twos = omega (arith, p.twos, at_times d o.ones, at_most 1 d, q.ones);
      farthest = omega (arith, p.farthest, q.farthest);
    }

-- a placement more that is seen from its own atoms, and from those that were there
held_new : {n d : ℕ} {v o : Vertex} → Within 31 n → d < 2 ^ 8 → Bytes v → SmallSight n o → SmallSight (suc n) (grow v d o)
held_new w h b q = let g = grown_below h b q in omega (arith, g)

held_old : {n d : ℕ} {v o : Vertex} → Within 31 n → d < 2 ^ 9 * n → SmallSight n v → Bytes o → SmallSight (suc n) (grow v d o)
held_old w h q b = let g = grown_below h q b in omega (arith, g)

-- the fields of a join: the sums of one parity, from both ends
across_most : (e s o z a p b q : ℕ) → e < 2 ^ 28 → s < 2 ^ 13 → o < 2 ^ 28 → z < 2 ^ 13 → a < 2 ^ 8 → p < 2 ^ 16 → b < 2 ^ 8 → q < 2 ^ 16
    → e * a + s * a + s * p + o * b + z * b + z * q < 2 ^ 44
across_most e s o z a p b q he hs ho hz ha hp hb hq =
    omega (arith, times e a (2 ^ 28) (2 ^ 8) he ha, times s a (2 ^ 13) (2 ^ 8) hs ha, times s p (2 ^ 13) (2 ^ 16) hs hp, times o b (2 ^ 28) (2 ^ 8) ho hb, times z b (2 ^ 13) (2 ^ 8) hz hb, times z q (2 ^ 13) (2 ^ 16) hz hq)

even_most : {c o : Vertex} → SmallSight 32 c → Bytes o → even_across c o < 2 ^ 44
unfolding even_across
even_most p q = across_most _ _ _ _ _ _ _ _ p.even p.evens p.odd p.odds q.odds q.odd q.evens q.even

odd_most : {c o : Vertex} → SmallSight 32 c → Bytes o → odd_across c o < 2 ^ 44
unfolding odd_across
odd_most p q = across_most _ _ _ _ _ _ _ _ p.even p.evens p.odd p.odds q.evens q.even q.odds q.odd

held_six : {n : ℕ} {x y : Indices} {c o : Vertex} → Within 31 n → SixHeld n x → SixBytes y → SmallSight n c → Bytes o → SixHeld (suc n) (join_six x y c o)
unfolding join_six
held_six {n} {x} {y} {c} {o} w p q h b =
    let k : SmallSight 32 c = omega (arith, h) in
    let even = even_most k b in
    let odd = odd_most k b in
    record {
      atoms = omega (arith, p.atoms, q.atoms);
      w = omega (arith, p.even, q.even, even, p.odd, q.odd, odd);
      even = omega (arith, p.even, q.even, even);
      odd = omega (arith, p.odd, q.odd, odd);
      polarity = omega (arith, p.polarity, q.polarity, times c.ones o.ones (2 ^ 13) (2 ^ 8) k.ones b.ones, k.twos, b.twos);
      largest = omega (arith, p.largest, q.largest, h.farthest, b.farthest);
    }

module _ {parts : ℕ → Part} (joins : ℕ → Join) (kept : (k : ℕ) → SmallPart (parts k)) where
  pub far_most : (m k i l j : ℕ) → far_in parts joins m k i l j < 2 ^ 9 * suc m
  unfolding far_in
  far_most zero k i l j = omega (arith, (kept 0).far i j)
  far_most (suc m) k i l j = go (far_most m) (eqb k (suc m)) refl (eqb l (suc m)) refl
    where
      go : ((k i l j : ℕ) → far_in parts joins m k i l j < 2 ^ 9 * suc m) → (x : Bool) → eqb k (suc m) ≡ x → (y : Bool) → eqb l (suc m) ≡ y
          → far_in parts joins (suc m) k i l j < 2 ^ 9 * suc (suc m)
      go h true e true g = rw (e, far_in) (rw g (omega (arith, (kept (suc m)).far i j)))
      go h true e false g = rw (e, far_in) (rw g (omega (arith, (kept (suc m)).far (joins (suc m)).own i, h ((joins (suc m)).parent - 1) (joins (suc m)).site l j)))
      go h false e true g = rw (e, far_in) (rw g (omega (arith, (kept (suc m)).far (joins (suc m)).own j, h ((joins (suc m)).parent - 1) (joins (suc m)).site k i)))
      go h false e false g = rw (e, far_in) (rw g (omega (arith, h k i l j)))

  pub sight_held : (m k i : ℕ) → m ≤ 31 → SmallSight (suc m) (sight_in parts joins m k i)
  unfolding sight_in
  sight_held zero k i p = omega (arith, (kept 0).sight i)
  sight_held (suc m) k i p = go (λ k i. sight_held m k i (omega arith)) (eqb k (suc m)) refl
    where
      go : ((k i : ℕ) → SmallSight (suc m) (sight_in parts joins m k i)) → (x : Bool) → eqb k (suc m) ≡ x → SmallSight (suc (suc m)) (sight_in parts joins (suc m) k i)
      go h true e = rw (e, sight_in) (held_new (omega arith) ((kept (suc m)).far (joins (suc m)).own i) ((kept (suc m)).sight i) (h ((joins (suc m)).parent - 1) (joins (suc m)).site))
      go h false e = rw (e, sight_in) (held_old (omega arith) (far_most m ((joins (suc m)).parent - 1) (joins (suc m)).site k i) (h k i) ((kept (suc m)).sight (joins (suc m)).own))

  pub six_held : (m : ℕ) → m ≤ 31 → SixHeld (suc m) (six_in parts joins m)
  unfolding six_in
  six_held zero p = omega (arith, (kept 0).six)
  six_held (suc m) p =
      held_six (omega arith) (six_held m (omega arith)) (kept (suc m)).six (sight_held m ((joins (suc m)).parent - 1) (joins (suc m)).site (omega arith)) ((kept (suc m)).sight (joins (suc m)).own)

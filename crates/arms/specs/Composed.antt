-- Laws. Arms joined one by one to a core give what composing gives for placements that are all joined to the first. Assumes nothing.
use Prim.Native.Nat.{ℕ, zero, suc, ◌-◌, ◌≤◌, ◌<◌}
use Rattle.std.specs.Prelude.{List, ◌≡◌, get_or}
use Rattle.std.proofs.Math.Path.{refl, ap}
use Rattle.std.proofs.Common.{sym, ◌∙◌, arith}
use Rattle.graph.specs.Assembly.{Join}
use Rattle.block.specs.declared.Indices.{Indices}
use Rattle.block.specs.declared.Vertex.{Vertex}
use Rattle.joining.specs.Parts.{Part, grow, join_six, far_in, sight_in, six_in}
use Rattle.joining.proofs.Whole.{far_old, sight_old}
use Rattle.joining.specs.Bounds.{SmallPart, SixBytes, sight_held, six_held}
use Rattle.joining.specs.Joining.{grown_of, joined_of}
use Rattle.joining.specs.Small.{SmallCounts, grown_small, joined_small}
use Rattle.summary.specs.Layout.{stored_fields, vertex_at, far_at, kept_of}
use Rattle.summaries.proofs.Small.{vertex_bytes, far_few}
use Rattle.summaries.proofs.Ports.{small_held, room_held, room_bytes}
use Rattle.arms.specs.Arms.{most_arms, no_port, no_arm, arm_in, sight_from, sight_of, six_of}
use Rattle.arms.specs.declared.Arm.{Arm}
use Rattle.arms.specs.declared.Core.{Core}

-- placements joined to the first, by the summaries of their blocks, and what is kept of these
pub record Keeps (s : ℕ → List ℕ) (joins : ℕ → Join) (n : ℕ) (core : Core) (arms : List Arm) : Type 0 where
  pub few : n ≤ most_arms
  pub small : (k : ℕ) → SixBytes (stored_fields (s k))
  pub first : (k : ℕ) → k < n → (joins (suc k)).parent ≡ 1
  pub six : core.six ≡ stored_fields (s 0)
  pub sights : (k : ℕ) → k < n → (get_or core.ends k no_port).counts ≡ vertex_at (s 0) (joins (suc k)).site
  pub near : (m k : ℕ) → m < n → k < n → get_or (get_or core.ends m no_port).near k 0 ≡ far_at (s 0) (joins (suc m)).site (joins (suc k)).site
  pub ends : (k : ℕ) → k < n → get_or arms k no_arm ≡ arm_in (s (suc k)) (joins (suc k)).own

grown_same : {v w o p : Vertex} {d e : ℕ} → v ≡ w → d ≡ e → o ≡ p → grown_of v d o ≡ grown_of w e p
grown_same q r h = rw (q, r, h)

joined_same : {x y z w : Indices} {c d o p : Vertex} → x ≡ y → z ≡ w → c ≡ d → o ≡ p → joined_of x z c o ≡ joined_of y w d p
joined_same q r h i = rw (q, r, h, i)

module _ {s : ℕ → List ℕ} {joins : ℕ → Join} {n : ℕ} {core : Core} {arms : List Arm} (t : Keeps s joins n core arms) where
  abbrev parts : ℕ → Part
  parts k = kept_of (s k)

  kept : (k : ℕ) → SmallPart (parts k)
  kept k = record { six = t.small k; sight = vertex_bytes (s k); far = λ i j. omega (arith, far_few (s k) i j) }

  -- the core's atoms are as far apart as in the core
  far_core : (m i j : ℕ) → far_in parts joins m 0 i 0 j ≡ (parts 0).far i j
  unfolding far_in
  far_core zero i j = refl
  far_core (suc m) i j = far_old parts joins m 0 i 0 j (omega arith) (omega arith) ∙ far_core m i j

  counts : (m i : ℕ) → m ≤ n → SmallCounts (sight_in parts joins m 0 i)
  counts m i h = small_held (omega (arith, t.few)) (sight_held joins kept m 0 i (omega (arith, t.few)))

  own_counts : (k i : ℕ) → SmallCounts ((parts k).sight i)
  own_counts k i = omega (arith, (kept k).sight i)

  sight_next : (m i : ℕ) → m < n → grow (sight_in parts joins m 0 i) ((parts 0).far (joins (suc m)).site i) ((parts (suc m)).sight (joins (suc m)).own) ≡ sight_in parts joins (suc m) 0 i
  sight_next m i h =
      let z : (joins (suc m)).parent - 1 ≡ 0 = omega (arith, t.first m h) in
      sym (sight_old parts joins m 0 i (omega arith)
      ∙ ap (λ (p : ℕ). grow (sight_in parts joins m 0 i) (far_in parts joins m p (joins (suc m)).site 0 i) ((parts (suc m)).sight (joins (suc m)).own)) z
      ∙ ap (λ (d : ℕ). grow (sight_in parts joins m 0 i) d ((parts (suc m)).sight (joins (suc m)).own)) (far_core m (joins (suc m)).site i))

  pub sight_composed : (m : ℕ) → m ≤ n → (k : ℕ) → k < n → sight_of core arms m k ≡ sight_in parts joins m 0 (joins (suc k)).site
  unfolding sight_from sight_in
  sight_composed zero h k l = t.sights k l
  sight_composed (suc m) h k l =
      grown_same (sight_composed m (omega arith) k l) (t.near m k (omega arith) l) (ap (λ (x : Arm). x.end) (t.ends m (omega arith)))
      ∙ (grown_small (counts m (joins (suc k)).site (omega arith)) (omega (arith, far_few (s 0) (joins (suc m)).site (joins (suc k)).site)) (own_counts (suc m) (joins (suc m)).own)
      ∙ sight_next m (joins (suc k)).site (omega arith))

  -- WHAT COMPOSING GIVES, arm by arm
  pub six_composed : (m : ℕ) → m ≤ n → six_of core arms m ≡ six_in parts joins m
  unfolding six_of six_in
  six_composed zero h = t.six
  six_composed (suc m) h =
      let z : (joins (suc m)).parent - 1 ≡ 0 = omega (arith, t.first m (omega arith)) in
      joined_same (six_composed m (omega arith)) (ap (λ (x : Arm). x.six) (t.ends m (omega arith))) (sight_composed m (omega arith) m (omega arith)) (ap (λ (x : Arm). x.end) (t.ends m (omega arith)))
      ∙ (joined_small (room_held (omega (arith, t.few)) (six_held joins kept m (omega (arith, t.few)))) (room_bytes (t.small (suc m))) (counts m (joins (suc m)).site (omega arith)) (own_counts (suc m) (joins (suc m)).own)
      ∙ ap (λ (p : ℕ). join_six (six_in parts joins m) (stored_fields (s (suc m))) (sight_in parts joins m p (joins (suc m)).site) ((parts (suc m)).sight (joins (suc m)).own)) (sym z))

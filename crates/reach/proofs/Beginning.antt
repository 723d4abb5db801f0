-- What a drawn block begins with: each atom and its neighbours, which are the atoms at most one bond away. Assumes nothing.
use Prim.Native.Nat.{ℕ, ◌+◌, ◌*◌, ◌/◌, ◌<◌, min}
use mathlib.Core.Bool.{Bool, true, false, ◌||◌, cond, true≢false}
use mathlib.Core.List.{List}
use mathlib.Core.Path.{◌≡◌, refl, sym, ap, ap₂, subst, ◌∙◌}
use native.Mathlib.Decide.{ℕ_discrete, dec_lt}
use native.Mathlib.Omega.{arith}
use borrow.Author.Tests.{eq-eqb, ne_eqb, le-leb, lt-leb}
use lib.Bits.{or_lt}
use lib.Dec.{eqb, leb}
use lib.ListN.{length}
use lib.Pow.{pow-lt}
use Rattle.graph.specs.Graph.{Graph, Bond, Within, Sound, any_joins, bonded, distance, sum}
use Rattle.graph.specs.Bonds.{any_none}
use Rattle.graph.specs.Distance.{distance_self, sound_zero, sound_bond, sound_parent}
use Rattle.graph.specs.Ends.{plain_degree, plain_ends}
use Rattle.graph.specs.Sets.{has, alone}
use Rattle.graph.specs.SetLaws.{has_or, has-alone}
use Rattle.graph.specs.Sums.{sum_cong, sum_add, sum_const, sum_pick}
use Rattle.reply.specs.Read.{read}
use Rattle.block.specs.Block.{most_atoms, bonds_of, graph_of, drawn_reply}
use Rattle.block.specs.Drawn.{neighbour_fits, has_neighbour}
use Rattle.block.specs.Near.{around}
use Rattle.block.specs.Numbered.{bond_at, bonds_short, bond_listed, drawn_within, drawn_bytes, ends_apart}
use Rattle.block.specs.Opened.{neighbours_of}
use Rattle.block.specs.Told.{drawn_atoms, drawn_sound, drawn_plain}
use Rattle.reach.specs.Reach.{WithNeighbours, Reach, first_level, up_to}
use Rattle.reach.proofs.Summing.{short, short_in, short_out, sum_mixed}

-- two atoms are the same, one bond apart, or more than d bonds apart
data Two (g : Graph) (d i j : ℕ) : Type 0 where
  same : i ≡ j → bonded g i j ≡ false → distance g i j ≡ 0 → Two g d i j
  next : (i ≡ j → ⊥) → bonded g i j ≡ true → distance g i j ≡ 1 → d ≡ 1 → Two g d i j
  far : (i ≡ j → ⊥) → bonded g i j ≡ false → d < distance g i j → Two g d i j

module _ (n : ℕ) (xs : List ℕ) (drawn : drawn_reply n xs ≡ read tt) where
  abbrev g : Graph
  g = graph_of n xs

  abbrev d : ℕ
  d = first_level xs

  sound : Sound g
  sound = drawn_sound n xs drawn

  few : Within most_atoms n
  few = drawn_atoms n xs drawn

  one_apart : {i : ℕ} → Within n i → (j : ℕ) → bonded g i j ≡ true → distance g i j ≡ 1
  one_apart {i} w j b =
      let apart : distance g i j ≡ 0 → ⊥ = λ z. ends_apart n xs drawn i j b (sound_zero sound w j z) in
      omega (arith, sound_bond sound w i j b, distance_self sound w)

  -- where there is a bond, there are two atoms, and some pair is one bond apart
  pub first_bond : (0 < length xs) → (1 < n) × ((i : ℕ) × (j : ℕ) × Within n i × Within n j × (distance g i j ≡ 1))
  unfolding bonded
  first_bond h =
      let l : 0 < length xs / 2 = omega (arith, (drawn_bytes n xs drawn).1) in
      let (a, b) = drawn_within n xs drawn 0 l in
      let j = bond_listed xs 0 l in
      let ne = ends_apart n xs drawn (bond_at xs 0).one (bond_at xs 0).two j in
      (omega arith, ((bond_at xs 0).one, (bond_at xs 0).two, a, b, one_apart a (bond_at xs 0).two j))

  pub first_below : d < n
  first_below = elim (dec_lt 0 (length xs)) [ yes h ↦ omega (arith, (first_bond h).0) | no h ↦ omega (arith, few) ]

  pub first_deep : ((i j : ℕ) → Within n i → Within n j → distance g i j ≡ d → ⊥) → ⊥
  first_deep none = elim (dec_lt 0 (length xs)) [
    | yes h ↦ let (i, j, w, v, e) = (first_bond h).1 in none i j w v (omega arith)
    | no h ↦ let w : Within n 1 = omega (arith, few) in none 1 1 w w (omega (arith, distance_self sound w))
  ]

  two : (i j : ℕ) → Within n i → Two g d i j
  unfolding bonded
  two i j w = go (bonded g i j) refl (ℕ_discrete i j) (dec_lt d (distance g i j))
    where
      some : any_joins (bonds_of xs) i j ≡ true → 0 < length xs
      some b = elim (dec_lt 0 (length xs)) [ yes h ↦ h | no h ↦ absurd (any_none i j (subst (λ (bs : List Bond). any_joins bs i j ≡ true) (bonds_short xs (omega arith)) b)) ]

      go : (t : Bool) → bonded g i j ≡ t → Dec (i ≡ j) → Dec (d < distance g i j) → Two g d i j
      go true b e l = next (ends_apart n xs drawn i j b) b (one_apart w j b) (omega (arith, some b))
      go false b (yes e) l = same e b (ap (distance g i) (sym e) ∙ distance_self sound w)
      go false b (no ne) (yes l) = far ne b l
      go false b (no ne) (no l) =
          let (p, q, z) = sound_parent sound w j ne (omega (arith, first_below)) in
          let e = sound_zero sound w p (omega arith) in
          absurd (true≢false (sym q ∙ rw (← e) b))

  pub reach_first : (near sets : List ℕ) → near ≡ neighbours_of g → WithNeighbours n near sets → Reach g d sets
  reach_first near sets e W = record {
    fits = λ v a. rw (W.set_is v a) (or_lt n (around near v) (alone v) (rw e (neighbour_fits g v (omega (arith, few)))) (pow-lt (omega arith)));
    holds = λ v w a b.
        ap (λ (x : ℕ). has x w) (W.set_is v a)
        ∙ has_or (around near v) (alone v) w
        ∙ ap₂ ◌||◌ (ap (λ (l : List ℕ). has (around l v) w) e ∙ has_neighbour g v w (omega (arith, few)) b) (has-alone v w a.low b.low)
        ∙ at v w (two v w a);
  }
    where
      at : (v w : ℕ) → Two g d v w → (bonded g v w || eqb w v) ≡ leb (distance g v w) d
      at v w (same e b z) = rw (b, eq-eqb w v (sym e)) (sym (le-leb (distance g v w) d (omega arith)))
      at v w (next ne b z o) = rw b (sym (le-leb (distance g v w) d (omega arith)))
      at v w (far ne b l) = rw (b, ne_eqb w v (λ e. ne (sym e))) (sym (lt-leb (distance g v w) d l))

  -- as many ordered pairs are one bond apart as the bonds have ends
  ends : sum n (λ i. sum n (λ j. cond (bonded g i j) 1 0)) ≡ length xs
  unfolding bonded
  ends =
      let plain = drawn_plain n xs drawn in
      sum_cong n (λ i w. plain_degree n (bonds_of xs) plain i) ∙ plain_ends n (bonds_of xs) plain ∙ (drawn_bytes n xs drawn).1

  pub up_first : (f : ℕ → ℕ) → up_to g f d ≡ n * f 0 + f 1 * length xs
  unfolding up_to
  up_first f =
      sum_cong n (λ i w.
      sum_cong n (λ j v. at i j (two i j w))
      ∙ sum_mixed n (f 1) (λ j. cond (eqb i j) (f 0) 0) (λ j. cond (bonded g i j) 1 0)
      ∙ ap (λ (x : ℕ). x + f 1 * sum n (λ j. cond (bonded g i j) 1 0)) (sum_pick n i (λ j. f 0) w))
      ∙ sum_mixed n (f 1) (λ i. f 0) (λ i. sum n (λ j. cond (bonded g i j) 1 0))
      ∙ ap₂ (λ (x y : ℕ). x + f 1 * y) (sum_const n (f 0)) ends
    where
      at : (i j : ℕ) → Two g d i j → short f d (distance g i j) ≡ cond (eqb i j) (f 0) 0 + f 1 * cond (bonded g i j) 1 0
      at i j (same e b z) = short_in f d (distance g i j) (omega arith) ∙ rw (eq-eqb i j e, b, z) (omega arith)
      at i j (next ne b z o) = short_in f d (distance g i j) (omega arith) ∙ rw (ne_eqb i j ne, b, z) (omega arith)
      at i j (far ne b l) = short_out f d (distance g i j) l ∙ rw (ne_eqb i j ne, b) (omega arith)

  -- each atom is within its own reach
  pub first_wanting : (v : ℕ) → Within n v → d + sum n (λ w. min (distance g v w) d) ≡ n * d
  first_wanting v a =
      omega (
        arith,
        sum_pick n v (λ w. d) a,
        sum_add n (λ w. cond (eqb v w) d 0) (λ w. min (distance g v w) d),
        sum_cong n (λ w b. at w (two v w a)),
        sum_const n d,
      )
    where
      at : (w : ℕ) → Two g d v w → cond (eqb v w) d 0 + min (distance g v w) d ≡ d
      at w (same e b z) = rw (eq-eqb v w e) (omega arith)
      at w (next ne b z o) = rw (ne_eqb v w ne) (omega arith)
      at w (far ne b l) = rw (ne_eqb v w ne) (omega arith)

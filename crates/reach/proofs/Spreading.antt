-- The atoms within reach, one bond farther: what the sets have taken in while the bonds are gone through. Assumes nothing.
use Prim.Native.Nat.{ℕ, zero, suc, ◌+◌, ◌-◌, ◌/◌, ◌^◌, ◌≤◌, ◌<◌}
use mathlib.Core.Bool.{true}
use mathlib.Core.List.{List, [], ◌∷◌}
use mathlib.Core.Logic.{◌⊎◌, inl, inr, ⊎_elim, ⊎_map}
use mathlib.Core.Path.{◌≡◌, refl, sym, ap, subst, subst⁻¹, ◌∙◌}
use native.Mathlib.Decide.{ℕ_discrete, dec_lt}
use native.Mathlib.Numerals.{add-one}
use native.Mathlib.Omega.{arith}
use borrow.Author.Tests.{le-leb, leb-true}
use lib.Bits.{bit_or, or_lt}
use lib.Dec.{leb}
use lib.ListN.{length, get_or, length-set}
use lib.Seq.{get_or-set_same, get_or-set_other}
use Rattle.graph.specs.Graph.{Graph, Bond, bond, Within, Sound, any_joins, bonded, distance}
use Rattle.graph.specs.Bonds.{Joins, one_of, first_of, second_of, same_test, any_out, any_none, bonded_sym}
use Rattle.graph.specs.Distance.{distance_self, sound_sym, sound_bond, sound_parent}
use Rattle.graph.specs.Walk.{far_end}
use Rattle.graph.specs.Sets.{has}
use Rattle.graph.specs.SetLaws.{has_or}
use Rattle.reply.specs.Read.{read}
use Rattle.block.specs.Block.{most_atoms, bonds_of, graph_of, drawn_reply}
use Rattle.block.specs.Near.{around}
use Rattle.block.specs.Numbered.{bond_at, bonds_length, bonds_at, bond_listed}
use Rattle.block.specs.Told.{drawn_atoms, drawn_sound}
use Rattle.reach.specs.Reach.{Fit, Reach, Inner, taking, exchanged}

-- w is in the set of v
abbrev pub In : List ℕ → ℕ → ℕ → Type 0
In sets v w = has (around sets v) w ≡ true

-- the set of v took in what u reached, wherever P v u, and nothing but what neighbours reached
pub record Took (g : Graph) (near old sets : List ℕ) (P : ℕ → ℕ → Type 0) : Type 0 where
  pub size : length sets ≡ length old
  pub fits : Fit g.atoms near → Fit g.atoms old → Fit g.atoms sets
  pub keeps : (v w : ℕ) → Within g.atoms v → In old v w → In sets v w
  pub takes : (v u w : ℕ) → Within g.atoms v → P v u → In near u w → In sets v w
  pub only : (v w : ℕ) → Within g.atoms v → In sets v w → In old v w ⊎ ((u : ℕ) × (bonded g v u ≡ true) × In near u w)

took_more : {g : Graph} {near old mid new : List ℕ} {P Q : ℕ → ℕ → Type 0} → Took g near old mid P → Took g near mid new Q → Took g near old new (λ v u. P v u ⊎ Q v u)
took_more X Y = record {
  size = Y.size ∙ X.size;
  fits = λ f o. Y.fits f (X.fits f o);
  keeps = λ v w h e. Y.keeps v w h (X.keeps v w h e);
  takes = λ v u w h p e. ⊎_elim (λ x. Y.keeps v w h (X.takes v u w h x e)) (λ y. Y.takes v u w h y e) p;
  only = λ v w h e. ⊎_elim (X.only v w h) inr (Y.only v w h e);
}

-- a takes in what its neighbour b reached
took_one : (g : Graph) → Sound g → (near sets : List ℕ) → g.atoms ≤ length sets → (a b : ℕ) → bonded g a b ≡ true → Took g near sets (taking near a b sets) (λ v u. (a ≡ v) × (b ≡ u))
took_one g s near sets l a b j = record {
  size = length-set sets (a - 1) more;
  fits = λ f o. all (λ y x. x < 2 ^ g.atoms) (or_lt g.atoms (around sets a) (around near b) (o a wa) (f b (far_end s a b j))) (λ y ne. o y);
  keeps = λ v w. all (λ y x. In sets y w → has x w ≡ true) (λ e. has_or (around sets a) (around near b) w ∙ first_of (has (around sets a) w) (has (around near b) w) e) (λ y ne h e. e) v;
  takes = λ v u w h (p, q) e. all (λ y x. a ≡ y → has x w ≡ true)
      (λ r. has_or (around sets a) (around near b) w ∙ second_of (has (around sets a) w) (has (around near b) w) (ap (λ (y : ℕ). has (around near y) w) q ∙ e))
      (λ y ne k r. absurd (ne (sym r))) v h p;
  only = λ v w. all (λ y x. has x w ≡ true → In sets y w ⊎ ((u : ℕ) × (bonded g y u ≡ true) × In near u w))
      (λ e. ⊎_map (λ x. x) (λ x. (b, j, x)) (one_of (has (around sets a) w) (has (around near b) w) (sym (has_or (around sets a) (around near b) w) ∙ e))) (λ y ne h e. inl e) v;
}
  where
    more : ℕ
    more = bit_or (around sets a) (around near b)

    wa : Within g.atoms a
    wa = s.ends a b j

    -- what holds of the set of a, and of the others as they were
    all : (P : ℕ → ℕ → Type 0) → P a more → ((v : ℕ) → (v ≡ a → ⊥) → Within g.atoms v → P v (around sets v)) → (v : ℕ) → Within g.atoms v → P v (around (taking near a b sets) v)
    all P here other v h = elim (ℕ_discrete v a) [
      | yes e ↦ subst⁻¹ (λ (y : ℕ). P y (around (taking near a b sets) y)) e (subst⁻¹ (P a) (get_or-set_same sets (a - 1) more 0 (omega (arith, wa))) here)
      | no ne ↦ subst⁻¹ (P v) (get_or-set_other sets (a - 1) (v - 1) more 0 (omega (arith, wa))) (other v ne h)
    ]

-- a bond of a list stands at some place
any_at : (bs : List Bond) (u v : ℕ) → any_joins bs u v ≡ true → (k : ℕ) × (k < length bs) × Joins (get_or bs k (bond 0 0)) u v
any_at [] u v j = absurd (any_none u v j)
any_at (b ∷ bs) u v j = ⊎_elim (λ s. (0, omega arith, s)) (λ q. let (k, l, s) = any_at bs u v q in (suc k, omega arith, s)) (any_out b bs u v j)

module _ (n : ℕ) (xs : List ℕ) where
  abbrev g : Graph
  g = graph_of n xs

  abbrev half : ℕ
  half = length xs / 2 / 2

  -- v and u are the ends of bond k; or of one of the first k of either half
  abbrev pub Ends : ℕ → ℕ → ℕ → Type 0
  Ends k v u = (((bond_at xs k).one ≡ v) × ((bond_at xs k).two ≡ u)) ⊎ (((bond_at xs k).two ≡ v) × ((bond_at xs k).one ≡ u))

  abbrev pub Gone : ℕ → ℕ → ℕ → Type 0
  Gone zero v u = ⊥
  Gone (suc k) v u = (Gone k v u ⊎ Ends k v u) ⊎ Ends (k + half) v u

  gone : (v u k j : ℕ) → j < k → Ends j v u ⊎ Ends (j + half) v u → Gone k v u
  gone v u zero j l s = absurd (omega arith)
  gone v u (suc k) j l s = elim (ℕ_discrete j k) [
    | yes e ↦ ⊎_elim (λ x. inl (inr x)) inr (subst (λ (i : ℕ). Ends i v u ⊎ Ends (i + half) v u) e s)
    | no ne ↦ inl (inl (gone v u k j (omega arith) s))
  ]

  pub took_none : (near old : List ℕ) → Took g near old old (Gone 0)
  took_none near old = record { size = refl; fits = λ f o. o; keeps = λ v w h e. e; takes = λ v u w h p e. absurd p; only = λ v w h e. inl e }

  module _ (drawn : drawn_reply n xs ≡ read tt) where
    took_bond : (near sets : List ℕ) → n ≤ length sets → (k : ℕ) → k < length xs / 2 → Took g near sets (exchanged near (bond_at xs k).one (bond_at xs k).two sets) (Ends k)
    unfolding bonded
    took_bond near sets h k l =
        let a = (bond_at xs k).one in
        let b = (bond_at xs k).two in
        let s = drawn_sound n xs drawn in
        let j = bond_listed xs k l in
        let one = took_one g s near sets h a b j in
        took_more one (took_one g s near (taking near a b sets) (omega (arith, one.size)) b a (bonded_sym g a b j))

    pub took_next : {near old sets : List ℕ} → length old ≡ most_atoms → (k : ℕ) → k < length xs / 2 - half → Took g near old sets (Gone k)
        → let j = k + half in Took g near old (exchanged near (bond_at xs j).one (bond_at xs j).two (exchanged near (bond_at xs k).one (bond_at xs k).two sets)) (Gone (k + 1))
    took_next {near} {old} {sets} e k l T =
        let few = (drawn_atoms n xs drawn).high in
        let one = took_more T (took_bond near sets (omega (arith, T.size)) k (omega arith)) in
        rw (add-one k) (took_more one (took_bond near (exchanged near (bond_at xs k).one (bond_at xs k).two sets) (omega (arith, one.size)) (k + half) (omega arith)))

    -- ONE BOND FARTHER: an atom is at most d + 1 bonds away exactly where it is here or at most d bonds away from a neighbour
    pub took_all : {near old sets : List ℕ} (k : ℕ) → length xs / 2 - half ≤ k → Took g near old sets (Gone k) → (d : ℕ) → suc d < n → Reach g d near → Inner g d old → Reach g (suc d) sets
    unfolding bonded
    took_all {near} {old} {sets} m over T d shallow N O = record {
      fits = T.fits N.fits O.fits;
      holds = λ v w a b. same_test (has (around sets v) w) (leb (distance g v w) (suc d)) (λ e. le-leb (distance g v w) (suc d) (up v w a b e)) (down v w a b);
    }
      where
        s : Sound g
        s = drawn_sound n xs drawn

        up : (v w : ℕ) → Within n v → Within n w → In sets v w → distance g v w ≤ suc d
        up v w a b e =
            ⊎_elim (λ h. omega (arith, O.near v w a b h))
            (λ (u, j, y).
            let hu = far_end s v u j in
            omega (
              arith,
              leb-true (distance g u w) d (sym (N.holds u w hu b) ∙ y),
              sound_bond s b u v (bonded_sym g v u j),
              sound_sym s b hu,
              sound_sym s b a,
            ))
            (T.only v w a e)

        all_gone : (v u : ℕ) → any_joins (bonds_of xs) v u ≡ true → Gone m v u
        all_gone v u j =
            let (k, l, p) = any_at (bonds_of xs) v u j in
            let h : k < length xs / 2 = omega (arith, bonds_length xs) in
            let ends : Ends k v u = ⊎_elim inl (λ (x, y). inr (y, x)) (subst (λ (b : Bond). Joins b v u) (bonds_at xs k h) p) in
            elim (dec_lt k m) [
              | yes i ↦ gone v u m k i (inl ends)
              | no i ↦ let e : k - half + half ≡ k = omega arith in gone v u m (k - half) (omega arith) (inr (subst⁻¹ (λ (i : ℕ). Ends i v u) e ends))
            ]

        down : (v w : ℕ) → Within n v → Within n w → leb (distance g v w) (suc d) ≡ true → In sets v w
        down v w a b e = elim (ℕ_discrete w v) [
          | yes h ↦ subst⁻¹ (In sets v) h (T.keeps v v a (O.own v a))
          | no h ↦
              let l = leb-true (distance g v w) (suc d) e in
              let (u, j, q) = sound_parent s b v h (omega (arith, sound_sym s b a)) in
              let hu = s.ends u v j in
              T.takes v u w a (all_gone v u (bonded_sym g u v j)) (N.holds u w hu b ∙ le-leb (distance g u w) d (omega (arith, q, sound_sym s b hu, sound_sym s b a)))
        ]

-- the sets of a level are inner ones
pub reach_inner : {g : Graph} → Sound g → {d e : ℕ} → d ≤ e → {sets : List ℕ} → Reach g d sets → Inner g e sets
reach_inner {g} s {d} {e} l R = record {
  fits = R.fits;
  own = λ v a. R.holds v v a a ∙ le-leb (distance g v v) d (omega (arith, distance_self s a));
  near = λ v w a b h. omega (arith, leb-true (distance g v w) d (sym (R.holds v w a b) ∙ h));
}

-- Laws. In a tree with numbers δ that grow away from its root, an atom other than the root that has one bond left is merged into its neighbour: the weighted count stays, and
-- as long as a bond is left there is such an atom. Assumes nothing.
use Prim.Native.Nat.{ℕ, zero, suc, ◌+◌, ◌*◌, ◌≤◌, ◌<◌}
use mathlib.Core.Bool.{Bool, true, false, ◌||◌, cond}
use mathlib.Core.List.{List, [], ◌∷◌, ◌++◌}
use mathlib.Core.Logic.{◌⊎◌, inl, inr, ⊎_elim}
use mathlib.Core.Path.{◌≡◌, refl, sym, ap, ap₂, subst, ◌∙◌}
use native.Mathlib.Decide.{ℕ_discrete, dec_lt}
use native.Mathlib.Nat.{mul-le-mul, mul-le-mul_right}
use native.Mathlib.Omega.{arith}
use lib.Dec.{eqb}
use lib.ListN.{length}
use borrow.Author.Tests.{eq-eqb, ne_eqb}
use Rattle.graph.specs.Graph.{Bond, Within, any_joins, sum_bonds}
use Rattle.graph.specs.Bonds.{Joins}
use Rattle.graph.specs.Tree.{level, arrives}
use Rattle.sets.specs.Sets.{touches}
use Rattle.sets.specs.Merging.{weight, taken, nothing, Good, unit, mark, tally}
use Rattle.sets.proofs.Weigh.{mix, whole, scaled, at_one, at_two, gone, weigh, to_front, leaf, factor_below, product_cong, product_mix, product_ones}
use Rattle.sets.proofs.Leaves.{length_middle, bonds_middle, joins_middle, joins_others, mark_end, mark_none, Leaf, leaf_of, arrives_none, arrives_end, no_arrival, one_bond, few_marks, Top, top}
use Rattle.sets.specs.declared.Weight.{Weight}

-- the step at its two ends: whichever of them is merged, the other gets what `taken` says
first_merged : (κ : Bool) (p q : Weight)
    → mix (whole κ (scaled κ (at_one κ false) q)) (scaled κ (at_two κ false) p) (whole κ (scaled κ (at_one κ true) q)) (scaled κ (at_two κ true) p) ≡ taken κ p q
first_merged true p q = ap₂ weight (omega arith) (omega arith)
first_merged false p q = ap₂ weight (omega arith) (omega arith)

second_merged : (κ : Bool) (p q : Weight)
    → mix (whole κ (scaled κ (at_two κ false) q)) (scaled κ (at_one κ false) p) (whole κ (scaled κ (at_two κ true) q)) (scaled κ (at_one κ true) p) ≡ taken κ p q
second_merged true p q = ap₂ weight (omega arith) (omega arith)
second_merged false p q = ap₂ weight (omega arith) (omega arith)

at_one_lem : (κ way : Bool) (b : Bond) (p : Weight) → (b.one ≡ b.two → ⊥) → gone κ way b b.one p ≡ scaled κ (at_one κ way) p
unfolding gone
at_one_lem κ way b p ne = rw (eq-eqb b.one b.one refl, ne_eqb b.two b.one (λ e. ne (sym e)))

at_two_lem : (κ way : Bool) (b : Bond) (p : Weight) → (b.one ≡ b.two → ⊥) → gone κ way b b.two p ≡ scaled κ (at_two κ way) p
unfolding gone
at_two_lem κ way b p ne = rw (eq-eqb b.two b.two refl, ne_eqb b.one b.two ne)

merged : (κ : Bool) (b : Bond) (u v : ℕ) (p q : Weight) → (u ≡ v → ⊥) → Joins b u v
    → mix (whole κ (gone κ false b u q)) (gone κ false b v p) (whole κ (gone κ true b u q)) (gone κ true b v p) ≡ taken κ p q
merged κ b u v p q ne (inl (e, f)) =
    let d : b.one ≡ b.two → ⊥ = λ z. ne (sym e ∙ z ∙ f) in
    rw (← e, ← f, at_one_lem κ false b q d, at_one_lem κ true b q d, at_two_lem κ false b p d, at_two_lem κ true b p d) (first_merged κ p q)
merged κ b u v p q ne (inr (e, f)) =
    let d : b.one ≡ b.two → ⊥ = λ z. ne (sym f ∙ sym z ∙ e) in
    rw (← e, ← f, at_one_lem κ false b p d, at_one_lem κ true b p d, at_two_lem κ false b q d, at_two_lem κ true b q d) (second_merged κ p q)

taken_good : (κ : Bool) (p q : Weight) → Good p → Good q → Good (taken κ p q)
taken_good true p q (a, b) (c, d) =
    let e : 1 * 1 ≤ p.x * q.x = mul-le-mul a c in
    let f : p.y * q.x ≤ p.x * q.x = mul-le-mul_right q.x b in
    (omega arith, omega arith)
taken_good false p q (a, b) (c, d) =
    let e : 1 * 1 ≤ p.x * q.x = mul-le-mul a c in
    let f : p.y * q.x ≤ p.x * q.x = mul-le-mul_right q.x b in
    (omega arith, omega arith)

unit_whole : (κ : Bool) → whole κ nothing ≡ 1
unit_whole true = refl
unit_whole false = refl

-- The bonds bs are left, and what the atoms weigh counts the sets of the whole tree. From each atom but the root a bond still leads down, or it was merged.
pub record Peeling (n root : ℕ) (δ : ℕ → ℕ) (total : Bool → ℕ) (bs : List Bond) (w : Bool → ℕ → Weight) : Type 0 where
  pub ends : (u v : ℕ) → any_joins bs u v ≡ true → Within n u × Within n v × (δ u ≡ δ v → ⊥)
  pub once : (v : ℕ) → Within n v → (root ≡ v → ⊥) → sum_bonds bs (arrives δ v) ≤ 1
  pub waits : (v : ℕ) → Within n v → (root ≡ v → ⊥) → (1 ≤ sum_bonds bs (arrives δ v)) ⊎ ((tally bs v ≡ 0) × ((κ : Bool) → w κ v ≡ nothing))
  pub is : (κ : Bool) → weigh κ n bs (w κ) ≡ total κ
  pub good : (κ : Bool) (v : ℕ) → Within n v → Good (w κ v)

module _ {n root : ℕ} {δ : ℕ → ℕ} {total : Bool → ℕ} {bs : List Bond} {w : Bool → ℕ → Weight} (s : Peeling n root δ total bs w) where
  -- an atom u other than the root that has one bond left, to p
  module _ (u p : ℕ) (hu : Within n u) (ne : root ≡ u → ⊥) (e : tally bs u ≡ unit + p) (l : p < unit) where
    abbrev pub at : Leaf bs u p
    at = leaf_of bs u p e l

    abbrev b : Bond
    b = at.cut

    abbrev pub rest : List Bond
    rest = at.front ++ at.back

    joined : any_joins bs u p ≡ true
    joined = subst (λ (cs : List Bond). any_joins cs u p ≡ true) (sym at.is) (joins_middle at.front b at.back u p at.joins)

    pub parent_within : Within n p
    parent_within = (s.ends u p joined).1

    pub differ : u ≡ p → ⊥
    differ z = (s.ends u p joined).2 (ap δ z)

    fewer : (h : Bond → ℕ) → sum_bonds bs h ≡ h b + sum_bonds rest h
    fewer h = ap (λ (cs : List Bond). sum_bonds cs h) at.is ∙ bonds_middle h at.front b at.back

    swapped : Joins b p u
    swapped = ⊎_elim (λ q. inr (q.0, q.1)) (λ q. inl (q.0, q.1)) at.joins

    -- the bond leads down from u
    down : δ p < δ u
    down = elim (dec_lt (δ p) (δ u)) [
      | yes h ↦ h
      | no h ↦ absurd (⊎_elim
          (λ q. omega (arith, q, fewer (arrives δ u), no_arrival δ rest u at.alone, arrives_end δ b p u swapped (λ z. differ (sym z)), level δ p u (omega arith)))
          (λ q. omega (arith, q.0, e)) (s.waits u hu ne))
    ]

    -- and rises to no other atom
    arrives_other : (v : ℕ) → (v ≡ u → ⊥) → arrives δ v b ≡ 0
    arrives_other v f = elim (ℕ_discrete p v) [
      | yes q ↦ subst (λ (z : ℕ). arrives δ z b ≡ 0) q (arrives_end δ b u p at.joins differ ∙ level δ u p (omega (arith, down)))
      | no g ↦ ⊎_elim (λ j. arrives_none δ b v (λ z. f (sym z ∙ j.0)) (λ z. g (sym j.1 ∙ z))) (λ j. arrives_none δ b v (λ z. g (sym j.0 ∙ z)) (λ z. f (sym z ∙ j.1))) at.joins
    ]

    pub fewer_bonds : length bs ≡ suc (length rest)
    fewer_bonds = ap (λ (cs : List Bond). length cs) at.is ∙ length_middle at.front b at.back

    -- the keys of the bonds that are left
    pub key_child : tally rest u ≡ 0
    key_child = at.alone

    pub key_parent : tally bs p ≡ unit + u + tally rest p
    key_parent = omega (arith, fewer (mark p), mark_end b u p at.joins differ)

    pub key_other : (v : ℕ) → (v ≡ u → ⊥) → (v ≡ p → ⊥) → tally rest v ≡ tally bs v
    key_other v f g =
        let z : mark v b ≡ 0 = ⊎_elim (λ j. mark_none b v (λ q. f (sym q ∙ j.0)) (λ q. g (sym q ∙ j.1))) (λ j. mark_none b v (λ q. g (sym q ∙ j.0)) (λ q. f (sym q ∙ j.1))) at.joins in
        omega (arith, fewer (mark v))

    module _ (x : Bool → ℕ → Weight) (at_u : (κ : Bool) → x κ u ≡ nothing) (at_p : (κ : Bool) → x κ p ≡ taken κ (w κ p) (w κ u))
        (others : (κ : Bool) (t : ℕ) → Within n t → (t ≡ u → ⊥) → (t ≡ p → ⊥) → x κ t ≡ w κ t) where
      after : (κ : Bool) → weigh κ n rest (x κ) ≡ total κ
      unfolding touches
      after κ =
          sym (leaf κ n b rest u p (w κ) (x κ) hu parent_within differ at.alone outside (ap (whole κ) (at_u κ) ∙ unit_whole κ)
          (at_p κ ∙ sym (merged κ b u p (w κ p) (w κ u) differ at.joins)))
          ∙ sym (to_front κ n b at.front at.back (w κ))
          ∙ ap (λ (cs : List Bond). weigh κ n cs (w κ)) (sym at.is) ∙ s.is κ
        where
          outside : (t : ℕ) → Within n t → (t ≡ u → ⊥) → (t ≡ p → ⊥) → ((eqb b.one t || eqb b.two t) ≡ false) × (x κ t ≡ w κ t)
          outside t i f g = (
            ⊎_elim (λ j. rw (ne_eqb b.one t (λ q. f (sym q ∙ j.0)), ne_eqb b.two t (λ q. g (sym q ∙ j.1))))
                (λ j. rw (ne_eqb b.one t (λ q. g (sym q ∙ j.0)), ne_eqb b.two t (λ q. f (sym q ∙ j.1)))) at.joins,
            others κ t i f g,
          )

      -- THE STEP
      pub turn : Peeling n root δ total rest x
      turn = record {
        ends = λ v t j. s.ends v t (subst (λ (cs : List Bond). any_joins cs v t ≡ true) (sym at.is) (joins_others at.front b at.back v t j));
        once = λ v h q. omega (arith, fewer (arrives δ v), s.once v h q);
        waits = λ v h q. elim (ℕ_discrete v u) [
          | yes z ↦ inr (subst (λ (t : ℕ). tally rest t ≡ 0) (sym z) at.alone, λ κ. ap (x κ) z ∙ at_u κ)
          | no f ↦ ⊎_elim (λ k. inl (omega (arith, fewer (arrives δ v), arrives_other v f)))
              (λ k.
              let g : v ≡ p → ⊥ = λ z. (let o : tally bs p ≡ 0 = subst (λ (t : ℕ). tally bs t ≡ 0) z k.0 in omega (arith, key_parent)) in
              inr (key_other v f g ∙ k.0, λ κ. others κ v h f g ∙ k.1 κ)) (s.waits v h q)
        ];
        is = after;
        good = λ κ v h. by_place (λ t. Good (x κ t)) v (rw (at_u κ) (omega arith)) (rw (at_p κ) (taken_good κ (w κ p) (w κ u) (s.good κ p parent_within) (s.good κ u hu))) (λ f g. rw (others κ v h f g) (s.good κ v h));
      }
        where
          by_place : (P : ℕ → Type 0) (v : ℕ) → P u → P p → ((v ≡ u → ⊥) → (v ≡ p → ⊥) → P v) → P v
          by_place P v a b c = elim (ℕ_discrete v u) [ yes e ↦ rw e a | no f ↦ elim (ℕ_discrete v p) [ yes e ↦ rw e b | no g ↦ c f g ] ]

    -- the weights once u is merged into p
    unfoldable pub merging : Bool → ℕ → Weight
    merging κ t = cond (eqb t u) nothing (cond (eqb t p) (taken κ (w κ p) (w κ u)) (w κ t))

    merging_child : (κ : Bool) → merging κ u ≡ nothing
    unfolding merging
    merging_child κ = rw (eq-eqb u u refl)

    pub merging_parent : (κ : Bool) → merging κ p ≡ taken κ (w κ p) (w κ u)
    unfolding merging
    merging_parent κ = rw (ne_eqb p u (λ z. differ (sym z)), eq-eqb p p refl)

    pub merging_other : (κ : Bool) (t : ℕ) → Within n t → (t ≡ u → ⊥) → (t ≡ p → ⊥) → merging κ t ≡ w κ t
    unfolding merging
    merging_other κ t i f g = rw (ne_eqb t u f, ne_eqb t p g)

    pub merged_turn : Peeling n root δ total rest merging
    merged_turn = turn merging merging_child merging_parent merging_other

    -- no product is above the whole count
    pub fits : (κ : Bool) → (taken κ (w κ p) (w κ u)).x ≤ total κ
    fits κ =
        let q = merged_turn in
        let l = factor_below κ n rest (merging κ) p parent_within (λ v h. (q.good κ v h).0) in
        omega (arith, q.is κ, ap (λ (z : Weight). z.x) (merging_parent κ))

  -- as long as a bond is left there is such an atom: the highest
  pub some_leaf : n < unit → δ root ≡ 0 → (b : Bond) (cs : List Bond) → bs ≡ b ∷ cs → (v : ℕ) × Within n v × (root ≡ v → ⊥) × (unit ≤ tally bs v) × (tally bs v < 2 * unit)
  some_leaf few low b cs is = (t.up, k.1, far, one_bond δ bs t.down t.up (λ z. k.2 (ap δ z)) j, least)
    where
      t : Top δ (b ∷ cs)
      t = top δ b cs

      most : (u v : ℕ) → any_joins bs u v ≡ true → δ u ≤ δ t.up
      most u v i = t.most u v (subst (λ (ds : List Bond). any_joins ds u v ≡ true) is i)

      j : any_joins bs t.down t.up ≡ true
      j = subst (λ (ds : List Bond). any_joins ds t.down t.up ≡ true) (sym is) t.joined

      k : Within n t.down × Within n t.up × (δ t.down ≡ δ t.up → ⊥)
      k = s.ends t.down t.up j

      below : (u : ℕ) → any_joins bs u t.up ≡ true → (u ≤ n) × (δ u < δ t.up)
      below u i = let (p, q, r) = s.ends u t.up i in (p.high, lt (δ u) (δ t.up) (most u t.up i) r)
        where
          lt : (x y : ℕ) → x ≤ y → (x ≡ y → ⊥) → x < y
          lt x y p q = omega arith

      far : root ≡ t.up → ⊥
      far z = omega (arith, below t.down j, ap δ z)

      least : tally bs t.up < 2 * unit
      least = few_times n (sum_bonds bs (arrives δ t.up)) few (few_marks δ n t.up bs below) (s.once t.up k.1 far)
        where
          few_times : (n a : ℕ) {m : ℕ} → n < unit → m ≤ (unit + n) * a → a ≤ 1 → m < 2 * unit
          few_times n zero l h k = omega arith
          few_times n (suc zero) l h k = omega arith
          few_times n (suc (suc a)) l h k = absurd (omega arith)

  -- at the end only the root counts
  pub last_one : Within n root → bs ≡ [] → (κ : Bool) → whole κ (w κ root) ≡ total κ
  unfolding weigh sum_bonds
  last_one h none κ =
      sym (product_cong n same
      ∙ product_mix n root f (λ v. 1) (λ v. 1) (whole κ (w κ root)) 0 h (λ v i ne. (one v ne, one v ne)) (rw (eq-eqb root root refl) (omega arith))
      ∙ rw (product_ones n (λ v. 1) (λ v w. refl)) (omega arith))
      ∙ ap (λ (cs : List Bond). weigh κ n cs (w κ)) (sym none) ∙ s.is κ
    where
      f : ℕ → ℕ
      f v = cond (eqb v root) (whole κ (w κ root)) 1

      one : (v : ℕ) → (v ≡ root → ⊥) → f v ≡ 1
      one v ne = rw (ne_eqb v root ne)

      no_arrivals : (v : ℕ) → sum_bonds bs (arrives δ v) ≡ 0
      no_arrivals v = ap (λ (cs : List Bond). sum_bonds cs (arrives δ v)) none

      same : (v : ℕ) → Within n v → whole κ (w κ v) ≡ f v
      same v x = elim (ℕ_discrete v root) [
        | yes e ↦ rw (eq-eqb v root e, e)
        | no ne ↦ ⊎_elim (λ q. absurd (omega (arith, q, no_arrivals v))) (λ q. ap (whole κ) (q.1 κ) ∙ unit_whole κ ∙ sym (one v ne)) (s.waits v x (λ z. ne (sym z)))
      ]

-- Laws. Weights on atoms, and the weighted count of both kinds of sets over a list of bonds: what is left when an atom with one bond is merged into its neighbour. Assumes nothing.
-- The kind is true for sets of bonds, false for sets of atoms.
use Prim.Native.Nat.{ℕ, zero, suc, ◌+◌, ◌*◌, ◌≤◌}
use mathlib.Core.Bool.{Bool, true, false, cond}
use mathlib.Core.List.{List, [], ◌∷◌, ◌++◌}
use mathlib.Core.Logic.{⊎_elim}
use mathlib.Core.Path.{◌≡◌, refl, sym, ap, ap₂, subst, ◌∙◌}
use native.Mathlib.Nat.{le-suc_iff, le_refl, le_trans, mul-le-mul, le-mul_of_pos_right, mul_comm}
use native.Mathlib.Decide.{ℕ_discrete}
use borrow.Author.Tests.{eq-eqb, ne_eqb}
use native.Mathlib.Omega.{arith}
use lib.Dec.{eqb}
use Rattle.graph.specs.Graph.{Bond, Within, sum_bonds}
use Rattle.graph.specs.Sums.{wider, last}
use Rattle.reply.specs.Chain.{neither}
use Rattle.sets.specs.Sets.{touches}
use Rattle.sets.specs.Merging.{weight, unit, mark, tally}
use Rattle.sets.specs.declared.Weight.{Weight}

-- k times p and l times q
abbrev pub mix : ℕ → Weight → ℕ → Weight → Weight
mix k p l q = weight (k * p.x + l * q.x) (k * p.y + l * q.y)

-- what an atom with no bonds counts
abbrev pub whole : Bool → Weight → ℕ
whole true p = p.x
whole false p = p.x + p.y

-- a weight changed by a factor
abbrev pub scaled : Bool → Weight → Weight → Weight
scaled true c p = weight (c.x * p.x + c.y * p.y) (c.x * p.y)
scaled false c p = weight (c.x * p.x) (c.y * p.y)

linear : (κ : Bool) (c p q : Weight) (k l : ℕ) → scaled κ c (mix k p l q) ≡ mix k (scaled κ c p) l (scaled κ c q)
linear true c p q k l = ap₂ weight (omega arith) (omega arith)
linear false c p q k l = ap₂ weight (omega arith) (omega arith)

commute : (κ : Bool) (c d p : Weight) → scaled κ c (scaled κ d p) ≡ scaled κ d (scaled κ c p)
commute true c d p = ap₂ weight (omega arith) (omega arith)
commute false c d p = ap₂ weight (omega arith) (omega arith)

whole-mix : (κ : Bool) (p q : Weight) (k l : ℕ) → whole κ (mix k p l q) ≡ k * whole κ p + l * whole κ q
whole-mix true p q k l = refl
whole-mix false p q k l = omega arith

-- a factor where a test holds
abbrev pub where_so : Bool → Bool → Weight → Weight → Weight
where_so κ true c p = scaled κ c p
where_so κ false c p = p

-- The two ways of a bond, and its factors at its first and at its second end. Sets of bonds: it is left out (false), or it is in (true), and both ends are used.
-- Sets of atoms: its first end is out, or it is in, and the second is out.
abbrev pub at_one : Bool → Bool → Weight
at_one κ false = weight 1 0
at_one κ true = weight 0 1

abbrev pub at_two : Bool → Bool → Weight
at_two true false = weight 1 0
at_two true true = weight 0 1
at_two false false = weight 1 1
at_two false true = weight 1 0

unfoldable pub gone : Bool → Bool → Bond → ℕ → Weight → Weight
gone κ way b v p = where_so κ (eqb b.one v) (at_one κ way) (where_so κ (eqb b.two v) (at_two κ way) p)

unfoldable pub product : ℕ → (ℕ → ℕ) → ℕ
product zero f = 1
product (suc n) f = product n f * f (suc n)

-- the weighted count on the atoms 1 to n: each bond goes both ways
unfoldable pub weigh : Bool → ℕ → List Bond → (ℕ → Weight) → ℕ
weigh κ n [] w = product n (λ v. whole κ (w v))
weigh κ n (b ∷ bs) w = weigh κ n bs (λ v. gone κ false b v (w v)) + weigh κ n bs (λ v. gone κ true b v (w v))

so_linear : (κ t : Bool) (c p q : Weight) (k l : ℕ) → where_so κ t c (mix k p l q) ≡ mix k (where_so κ t c p) l (where_so κ t c q)
so_linear κ true c p q k l = linear κ c p q k l
so_linear κ false c p q k l = refl

so_commute : (κ s t : Bool) (c d p : Weight) → where_so κ s c (where_so κ t d p) ≡ where_so κ t d (where_so κ s c p)
so_commute κ true true c d p = commute κ c d p
so_commute κ true false c d p = refl
so_commute κ false true c d p = refl
so_commute κ false false c d p = refl

pub gone_linear : (κ way : Bool) (b : Bond) (v : ℕ) (p q : Weight) (k l : ℕ) → gone κ way b v (mix k p l q) ≡ mix k (gone κ way b v p) l (gone κ way b v q)
unfolding gone
gone_linear κ way b v p q k l =
    ap (where_so κ (eqb b.one v) (at_one κ way)) (so_linear κ (eqb b.two v) (at_two κ way) p q k l)
    ∙ so_linear κ (eqb b.one v) (at_one κ way) _ _ k l

gone_commute : (κ s t : Bool) (b c : Bond) (v : ℕ) (p : Weight) → gone κ s b v (gone κ t c v p) ≡ gone κ t c v (gone κ s b v p)
unfolding gone
gone_commute κ s t b c v p =
    let f = where_so κ (eqb b.one v) (at_one κ s) in
    let g = where_so κ (eqb b.two v) (at_two κ s) in
    let h = where_so κ (eqb c.one v) (at_one κ t) in
    let i = where_so κ (eqb c.two v) (at_two κ t) in
    ap f (so_commute κ (eqb b.two v) (eqb c.one v) (at_two κ s) (at_one κ t) (i p))
    ∙ so_commute κ (eqb b.one v) (eqb c.one v) (at_one κ s) (at_one κ t) (g (i p))
    ∙ ap (λ (z : Weight). h (f z)) (so_commute κ (eqb b.two v) (eqb c.two v) (at_two κ s) (at_two κ t) p)
    ∙ ap h (so_commute κ (eqb b.one v) (eqb c.two v) (at_one κ s) (at_two κ t) (g p))

-- products
pub product_cong : (n : ℕ) {f g : ℕ → ℕ} → ((v : ℕ) → Within n v → f v ≡ g v) → product n f ≡ product n g
unfolding product
product_cong zero e = refl
product_cong (suc n) e = ap₂ ◌*◌ (product_cong n (λ v w. e v (wider w))) (e (suc n) (last n))

-- a product in one of its factors
pub product_mix : (n v : ℕ) (f g h : ℕ → ℕ) (k l : ℕ) → Within n v → ((u : ℕ) → Within n u → (u ≡ v → ⊥) → (f u ≡ g u) × (f u ≡ h u)) → f v ≡ k * g v + l * h v
    → product n f ≡ k * product n g + l * product n h
unfolding product
product_mix zero v f g h k l w e at = absurd (omega arith)
product_mix (suc n) v f g h k l w e at =
    ⊎_elim
    (λ q.
    let r = e (suc n) (last n) (λ z. omega arith) in
    let i = product_mix n v f g h k l (record { low = w.low; high = q }) (λ u x. e u (wider x)) at in
    let a : f (suc n) ≡ g (suc n) = r.0 in
    let b : f (suc n) ≡ h (suc n) = r.1 in
    rw (i, ← a, ← b) (spread (product n g) (product n h) (f (suc n)) k l))
    (λ q.
    let a : product n f ≡ product n g = product_cong n (λ u x. (e u (wider x) (λ z. omega arith)).0) in
    let b : product n f ≡ product n h = product_cong n (λ u x. (e u (wider x) (λ z. omega arith)).1) in
    let c : f (suc n) ≡ k * g (suc n) + l * h (suc n) = subst (λ (z : ℕ). f z ≡ k * g z + l * h z) q at in
    rw (c, ← a, ← b) (spread_last (product n f) (g (suc n)) (h (suc n)) k l))
    (le-suc_iff.0 w.high)
  where
    spread : (x y z k l : ℕ) → (k * x + l * y) * z ≡ k * (x * z) + l * (y * z)
    spread x y z k l = omega arith

    spread_last : (x y z k l : ℕ) → x * (k * y + l * z) ≡ k * (x * y) + l * (x * z)
    spread_last x y z k l = omega arith

pub product_ones : (n : ℕ) (f : ℕ → ℕ) → ((v : ℕ) → Within n v → f v ≡ 1) → product n f ≡ 1
unfolding product
product_ones zero f h = refl
product_ones (suc n) f h = rw (product_ones n f (λ v w. h v (wider w)), h (suc n) (last n))

-- each factor is at most the product, where none is 0
product_le : (n : ℕ) {f g : ℕ → ℕ} → ((v : ℕ) → Within n v → f v ≤ g v) → product n f ≤ product n g
unfolding product
product_le zero h = le_refl 1
product_le (suc n) h = mul-le-mul (product_le n (λ v w. h v (wider w))) (h (suc n) (last n))

product_pos : (n : ℕ) (f : ℕ → ℕ) → ((v : ℕ) → Within n v → 1 ≤ f v) → 1 ≤ product n f
unfolding product
product_pos zero f h = le_refl 1
product_pos (suc n) f h = mul-le-mul (product_pos n f (λ v w. h v (wider w))) (h (suc n) (last n))

factor_le : (n : ℕ) (f : ℕ → ℕ) (v : ℕ) → Within n v → ((u : ℕ) → Within n u → 1 ≤ f u) → f v ≤ product n f
unfolding product
factor_le zero f v w h = absurd (omega arith)
factor_le (suc n) f v w h =
    ⊎_elim
    (λ q. le_trans (factor_le n f v (record { low = w.low; high = q }) (λ u x. h u (wider x))) (le-mul_of_pos_right (product n f) (h (suc n) (last n))))
    (λ q. subst (λ (z : ℕ). f z ≤ product n f * f (suc n)) (sym q) (le_trans (le-mul_of_pos_right (f (suc n)) (product_pos n f (λ u x. h u (wider x)))) (omega (arith, mul_comm (f (suc n)) (product n f)))))
    (le-suc_iff.0 w.high)

whole_least : (κ : Bool) (p : Weight) → p.x ≤ whole κ p
whole_least true p = omega arith
whole_least false p = omega arith

-- a bond leaves an atom alone that is none of its ends
pub gone_off : (κ way : Bool) (b : Bond) (v : ℕ) (p : Weight) → eqb b.one v ≡ false → eqb b.two v ≡ false → gone κ way b v p ≡ p
unfolding gone
gone_off κ way b v p e f = rw (e, f)

pub off : (b : Bond) (bs : List Bond) (u : ℕ) → tally (b ∷ bs) u ≡ 0 → (eqb b.one u ≡ false) × (eqb b.two u ≡ false) × (tally bs u ≡ 0)
unfolding sum_bonds mark
off b bs u = go (eqb b.one u) (eqb b.two u)
  where
    go : (s t : Bool) → cond s (unit + b.two) 0 + cond t (unit + b.one) 0 + tally bs u ≡ 0 → (s ≡ false) × (t ≡ false) × (tally bs u ≡ 0)
    go true t e = absurd (omega arith)
    go false true e = absurd (omega arith)
    go false false e = (refl, refl, omega arith)

-- going the first way keeps the first part of a weight
kept : (κ : Bool) (b : Bond) (v : ℕ) (p : Weight) → (gone κ false b v p).x ≡ p.x
unfolding gone
kept κ b v p = so_kept κ (eqb b.one v) (at_one κ false) _ (keeps_one κ) ∙ so_kept κ (eqb b.two v) (at_two κ false) p (keeps_two κ)
  where
    so_kept : (κ t : Bool) (c p : Weight) → ((p : Weight) → (scaled κ c p).x ≡ p.x) → (where_so κ t c p).x ≡ p.x
    so_kept κ true c p h = h p
    so_kept κ false c p h = refl

    keeps_one : (κ : Bool) (p : Weight) → (scaled κ (at_one κ false) p).x ≡ p.x
    keeps_one true p = omega arith
    keeps_one false p = omega arith

    keeps_two : (κ : Bool) (p : Weight) → (scaled κ (at_two κ false) p).x ≡ p.x
    keeps_two true p = omega arith
    keeps_two false p = omega arith

module _ (κ : Bool) (n : ℕ) where
  pub weigh_cong : (bs : List Bond) {w x : ℕ → Weight} → ((v : ℕ) → Within n v → w v ≡ x v) → weigh κ n bs w ≡ weigh κ n bs x
  unfolding weigh
  weigh_cong [] e = product_cong n (λ v h. ap (whole κ) (e v h))
  weigh_cong (b ∷ bs) e = ap₂ ◌+◌ (weigh_cong bs (λ v h. ap (gone κ false b v) (e v h))) (weigh_cong bs (λ v h. ap (gone κ true b v) (e v h)))

  -- the count is linear in the weight of one atom
  pub weigh-mix : (bs : List Bond) (v : ℕ) (w p q : ℕ → Weight) (k l : ℕ) → Within n v → ((u : ℕ) → Within n u → (u ≡ v → ⊥) → (w u ≡ p u) × (w u ≡ q u)) → w v ≡ mix k (p v) l (q v)
      → weigh κ n bs w ≡ k * weigh κ n bs p + l * weigh κ n bs q
  unfolding weigh
  weigh-mix [] v w p q k l h e at =
      product_mix n v (λ u. whole κ (w u)) (λ u. whole κ (p u)) (λ u. whole κ (q u)) k l h (λ u i ne. (ap (whole κ) (e u i ne).0, ap (whole κ) (e u i ne).1))
      (ap (whole κ) at ∙ whole-mix κ (p v) (q v) k l)
  weigh-mix (b ∷ bs) v w p q k l h e at =
      let go : (way : Bool) → weigh κ n bs (λ u. gone κ way b u (w u)) ≡ k * weigh κ n bs (λ u. gone κ way b u (p u)) + l * weigh κ n bs (λ u. gone κ way b u (q u)) =
      λ way. weigh-mix bs v (λ u. gone κ way b u (w u)) (λ u. gone κ way b u (p u)) (λ u. gone κ way b u (q u)) k l h
      (λ u i ne. (ap (gone κ way b u) (e u i ne).0, ap (gone κ way b u) (e u i ne).1))
      (ap (gone κ way b v) at ∙ gone_linear κ way b v (p v) (q v) k l) in
      omega (arith, go false, go true)

  -- an atom that counts nothing
  pub weigh_none : (bs : List Bond) (v : ℕ) (w : ℕ → Weight) → Within n v → w v ≡ weight 0 0 → weigh κ n bs w ≡ 0
  weigh_none bs v w h e = weigh-mix bs v w w w 0 0 h (λ u i ne. (refl, refl)) (e ∙ ap₂ weight (omega arith) (omega arith)) ∙ omega arith

  -- the order of the bonds does not matter
  swap : (a b : Bond) (bs : List Bond) (w : ℕ → Weight) → weigh κ n (a ∷ (b ∷ bs)) w ≡ weigh κ n (b ∷ (a ∷ bs)) w
  unfolding weigh
  swap a b bs w =
      let e : (s t : Bool) → weigh κ n bs (λ v. gone κ t b v (gone κ s a v (w v))) ≡ weigh κ n bs (λ v. gone κ s a v (gone κ t b v (w v))) =
      λ s t. weigh_cong bs (λ v h. gone_commute κ t s b a v (w v)) in
      omega (arith, e false false, e false true, e true false, e true true)

  pub to_front : (a : Bond) (ps bs : List Bond) (w : ℕ → Weight) → weigh κ n (ps ++ (a ∷ bs)) w ≡ weigh κ n (a ∷ (ps ++ bs)) w
  unfolding weigh
  to_front a [] bs w = refl
  to_front a (p ∷ ps) bs w =
      ap₂ ◌+◌ (to_front a ps bs (λ v. gone κ false p v (w v))) (to_front a ps bs (λ v. gone κ true p v (w v))) ∙ swap p a (ps ++ bs) w

  -- an atom with no bond is a factor of its own
  alone : (bs : List Bond) (u : ℕ) (w x : ℕ → Weight) → Within n u → tally bs u ≡ 0 → ((v : ℕ) → Within n v → (v ≡ u → ⊥) → w v ≡ x v) → whole κ (x u) ≡ 1
      → weigh κ n bs w ≡ whole κ (w u) * weigh κ n bs x
  unfolding weigh
  alone [] u w x h d e one =
      product_mix n u (λ v. whole κ (w v)) (λ v. whole κ (x v)) (λ v. whole κ (x v)) (whole κ (w u)) 0 h (λ v i ne. (ap (whole κ) (e v i ne), ap (whole κ) (e v i ne)))
      (rw one (omega arith)) ∙ omega arith
  alone (b ∷ bs) u w x h d e one =
      let f = off b bs u d in
      let stays : (way : Bool) (p : Weight) → gone κ way b u p ≡ p = λ way p. gone_off κ way b u p f.0 f.1 in
      let go : (way : Bool) → weigh κ n bs (λ v. gone κ way b v (w v)) ≡ whole κ (w u) * weigh κ n bs (λ v. gone κ way b v (x v)) =
      λ way. alone bs u (λ v. gone κ way b v (w v)) (λ v. gone κ way b v (x v)) h f.2 (λ v i ne. ap (gone κ way b v) (e v i ne)) (ap (whole κ) (stays way (x u)) ∙ one)
      ∙ ap (λ (z : Weight). whole κ z * weigh κ n bs (λ v. gone κ way b v (x v))) (stays way (w u)) in
      omega (arith, go false, go true)

  -- THE LAW: an atom u whose only bond is b, to v, may be merged into v. What was at u counts nothing more there.
  pub leaf : (b : Bond) (bs : List Bond) (u v : ℕ) (w x : ℕ → Weight) → Within n u → Within n v → (u ≡ v → ⊥) → tally bs u ≡ 0
      → ((t : ℕ) → Within n t → (t ≡ u → ⊥) → (t ≡ v → ⊥) → (touches b t ≡ false) × (x t ≡ w t)) → whole κ (x u) ≡ 1
      → x v ≡ mix (whole κ (gone κ false b u (w u))) (gone κ false b v (w v)) (whole κ (gone κ true b u (w u))) (gone κ true b v (w v))
      → weigh κ n (b ∷ bs) w ≡ weigh κ n bs x
  unfolding weigh touches
  leaf b bs u v w x hu hv ne d others one at =
      omega (
        arith,
        alone bs u (λ t. gone κ false b t (w t)) (part false) hu d (same false) (at_u false),
        alone bs u (λ t. gone κ true b t (w t)) (part true) hu d (same true) (at_u true),
        weigh-mix bs v x (part false) (part true) (whole κ (gone κ false b u (w u))) (whole κ (gone κ true b u (w u))) hv (λ t i q. (elsewhere false t q, elsewhere true t q))
            (at ∙ ap₂ (λ (y z : Weight). mix (whole κ (gone κ false b u (w u))) y (whole κ (gone κ true b u (w u))) z) (sym (at_v false)) (sym (at_v true))),
      )
    where
      -- x, but at v as it is when b goes one way
      part : Bool → ℕ → Weight
      part way t = cond (eqb t v) (gone κ way b v (w v)) (x t)

      at_v : (way : Bool) → part way v ≡ gone κ way b v (w v)
      at_v way = ap (λ (z : Bool). cond z (gone κ way b v (w v)) (x v)) (eq-eqb v v refl)

      elsewhere : (way : Bool) (t : ℕ) → (t ≡ v → ⊥) → x t ≡ part way t
      elsewhere way t q = sym (ap (λ (z : Bool). cond z (gone κ way b v (w v)) (x t)) (ne_eqb t v q))

      at_u : (way : Bool) → whole κ (part way u) ≡ 1
      at_u way = ap (whole κ) (sym (elsewhere way u ne)) ∙ one

      same : (way : Bool) (t : ℕ) → Within n t → (t ≡ u → ⊥) → gone κ way b t (w t) ≡ part way t
      same way t i q = elim (ℕ_discrete t v) [
        | yes e ↦ subst (λ (z : ℕ). gone κ way b z (w z) ≡ part way z) (sym e) (sym (at_v way))
        | no f ↦
            let r = others t i q f in
            let s = neither (eqb b.one t) (eqb b.two t) r.0 in
            gone_off κ way b t (w t) s.0 s.1 ∙ sym r.1 ∙ elsewhere way t f
      ]

  -- no weight is above the count, where none is 0
  pub product_below : (bs : List Bond) (w : ℕ → Weight) → product n (λ v. (w v).x) ≤ weigh κ n bs w
  unfolding weigh
  product_below [] w = product_le n (λ v h. whole_least κ (w v))
  product_below (b ∷ bs) w =
      omega (arith, product_below bs (λ v. gone κ false b v (w v)), product_cong n (λ v h. kept κ b v (w v)))

  pub factor_below : (bs : List Bond) (w : ℕ → Weight) (v : ℕ) → Within n v → ((u : ℕ) → Within n u → 1 ≤ (w u).x) → (w v).x ≤ weigh κ n bs w
  factor_below bs w v h pos = le_trans (factor_le n (λ u. (w u).x) v h pos) (product_below bs w)

-- Laws. What the key of an atom tells: which atom has one bond left, and to which other one. Assumes nothing.
use Prim.Native.Nat.{ℕ, suc, ◌+◌, ◌*◌, ◌≤◌, ◌<◌}
use mathlib.Core.Bool.{Bool, true, false, cond}
use mathlib.Core.List.{List, [], ◌∷◌, ◌++◌}
use mathlib.Core.Logic.{inl, inr, ⊎_elim}
use mathlib.Core.Path.{◌≡◌, refl, sym, ap, ap₂, ◌∙◌}
use native.Mathlib.Decide.{ℕ_discrete, dec_lt}
use native.Mathlib.Omega.{arith}
use lib.Dec.{eqb}
use lib.ListN.{length}
use borrow.Author.Tests.{eq-eqb, ne_eqb, eqb-true}
use Rattle.graph.specs.Graph.{Bond, any_joins, sum_bonds}
use Rattle.graph.specs.Bonds.{Joins, any_out, any_head, any_tail, any_none, append_out, append_left, append_right}
use Rattle.graph.specs.Tree.{rises, rise, arrives}
use Rattle.sets.specs.Merging.{unit, mark, tally}
use Rattle.sets.proofs.Weigh.{off}

-- a bond out of the middle of a list
pub length_middle : (ps : List Bond) (b : Bond) (qs : List Bond) → length (ps ++ (b ∷ qs)) ≡ suc (length (ps ++ qs))
length_middle [] b qs = refl
length_middle (p ∷ ps) b qs = ap suc (length_middle ps b qs)

pub bonds_middle : (h : Bond → ℕ) (ps : List Bond) (b : Bond) (qs : List Bond) → sum_bonds (ps ++ (b ∷ qs)) h ≡ h b + sum_bonds (ps ++ qs) h
unfolding sum_bonds
bonds_middle h [] b qs = refl
bonds_middle h (p ∷ ps) b qs = omega (arith, bonds_middle h ps b qs)

pub joins_middle : (ps : List Bond) (b : Bond) (qs : List Bond) (u v : ℕ) → Joins b u v → any_joins (ps ++ (b ∷ qs)) u v ≡ true
joins_middle ps b qs u v j = append_right ps (b ∷ qs) u v (any_head b qs u v j)

pub joins_others : (ps : List Bond) (b : Bond) (qs : List Bond) (u v : ℕ) → any_joins (ps ++ qs) u v ≡ true → any_joins (ps ++ (b ∷ qs)) u v ≡ true
joins_others ps b qs u v j =
    ⊎_elim (λ e. append_left ps (b ∷ qs) u v e) (λ e. append_right ps (b ∷ qs) u v (any_tail b qs u v e)) (append_out ps qs u v j)

-- what a bond adds to the key of its one end, and of an atom that is no end
pub mark_end : (b : Bond) (u v : ℕ) → Joins b u v → (u ≡ v → ⊥) → mark v b ≡ unit + u
unfolding mark
mark_end b u v (inl (e, f)) ne = rw (ne_eqb b.one v (λ z. ne (sym e ∙ z)), eq-eqb b.two v f, e) (omega arith)
mark_end b u v (inr (e, f)) ne = rw (eq-eqb b.one v e, ne_eqb b.two v (λ z. ne (sym f ∙ z)), f) (omega arith)

pub mark_none : (b : Bond) (v : ℕ) → (b.one ≡ v → ⊥) → (b.two ≡ v → ⊥) → mark v b ≡ 0
unfolding mark
mark_none b v e f = rw (ne_eqb b.one v e, ne_eqb b.two v f)

-- a key below the unit is 0
small : (bs : List Bond) (u : ℕ) → tally bs u < unit → tally bs u ≡ 0
unfolding sum_bonds mark
small [] u l = refl
small (b ∷ bs) u l = go (eqb b.one u) (eqb b.two u) (small bs u) l
  where
    go : (s t : Bool) → (tally bs u < unit → tally bs u ≡ 0) → cond s (unit + b.two) 0 + cond t (unit + b.one) 0 + tally bs u < unit → cond s (unit + b.two) 0 + cond t (unit + b.one) 0 + tally bs u ≡ 0
    go true t h l = absurd (omega arith)
    go false true h l = absurd (omega arith)
    go false false h l = omega (arith, h (omega arith))

-- u has one bond, to p
pub record Leaf (bs : List Bond) (u p : ℕ) : Type 0 where
  pub front : List Bond
  pub cut : Bond
  pub back : List Bond
  pub is : bs ≡ front ++ (cut ∷ back)
  pub joins : Joins cut u p
  pub alone : tally (front ++ back) u ≡ 0

pub leaf_of : (bs : List Bond) (u p : ℕ) → tally bs u ≡ unit + p → p < unit → Leaf bs u p
unfolding sum_bonds mark
leaf_of [] u p e l = absurd (omega arith)
leaf_of (b ∷ bs) u p e l = go (eqb b.one u) refl (eqb b.two u) refl (λ f. leaf_of bs u p f l) e
  where
    go : (s : Bool) → eqb b.one u ≡ s → (t : Bool) → eqb b.two u ≡ t → (tally bs u ≡ unit + p → Leaf bs u p) → cond s (unit + b.two) 0 + cond t (unit + b.one) 0 + tally bs u ≡ unit + p → Leaf (b ∷ bs) u p
    go true x true y h e = absurd (omega arith)
    go true x false y h e =
        let z = small bs u (omega arith) in
        record { front = []; cut = b; back = bs; is = refl; joins = inl (eqb-true b.one u x, omega arith); alone = z }
    go false x true y h e =
        let z = small bs u (omega arith) in
        record { front = []; cut = b; back = bs; is = refl; joins = inr (omega arith, eqb-true b.two u y); alone = z }
    go false x false y h e =
        let r = h (omega arith) in
        record { front = b ∷ r.front; cut = r.cut; back = r.back; is = ap (◌∷◌ b) r.is; joins = r.joins; alone = rw (x, y) (omega (arith, r.alone)) }

-- Numbers δ for the atoms, and how many bonds rise to an atom.
module _ (δ : ℕ → ℕ) where
  pub arrives_none : (b : Bond) (v : ℕ) → (b.one ≡ v → ⊥) → (b.two ≡ v → ⊥) → arrives δ v b ≡ 0
  unfolding arrives
  arrives_none b v e f = rw (ne_eqb b.one v e, ne_eqb b.two v f)

  pub arrives_end : (b : Bond) (u v : ℕ) → Joins b u v → (u ≡ v → ⊥) → arrives δ v b ≡ rises δ u v
  unfolding arrives
  arrives_end b u v (inl (e, f)) ne = rw (ne_eqb b.one v (λ z. ne (sym e ∙ z)), eq-eqb b.two v f) (omega (arith, ap₂ (rises δ) e f))
  arrives_end b u v (inr (e, f)) ne = rw (eq-eqb b.one v e, ne_eqb b.two v (λ z. ne (sym f ∙ z))) (omega (arith, ap₂ (rises δ) f e))

  -- to an atom without a bond none does
  pub no_arrival : (bs : List Bond) (v : ℕ) → tally bs v ≡ 0 → sum_bonds bs (arrives δ v) ≡ 0
  unfolding sum_bonds arrives
  no_arrival [] v e = refl
  no_arrival (b ∷ bs) v e = let (p, q, r) = off b bs v e in rw (p, q) (omega (arith, no_arrival bs v r))

  -- a bond that joins v to another atom adds to its key
  pub one_bond : (bs : List Bond) (u v : ℕ) → (u ≡ v → ⊥) → any_joins bs u v ≡ true → unit ≤ tally bs v
  unfolding sum_bonds
  one_bond [] u v ne j = absurd (any_none u v j)
  one_bond (b ∷ bs) u v ne j = ⊎_elim (λ q. omega (arith, mark_end b u v q ne)) (λ q. omega (arith, one_bond bs u v ne q)) (any_out b bs u v j)

  -- where every bond at v rises to it, and no atom is above n, its key is bounded by how many rise
  pub few_marks : (n v : ℕ) (bs : List Bond) → ((u : ℕ) → any_joins bs u v ≡ true → (u ≤ n) × (δ u < δ v)) → tally bs v ≤ (unit + n) * sum_bonds bs (arrives δ v)
  unfolding sum_bonds
  few_marks n v [] h = omega arith
  few_marks n v (b ∷ bs) h = omega (arith, here, few_marks n v bs (λ u j. h u (any_tail b bs u v j)))
    where
      at : (u : ℕ) → Joins b u v → mark v b ≤ (unit + n) * arrives δ v b
      at u j =
          let (l, r) = h u (any_head b bs u v j) in
          let ne : u ≡ v → ⊥ = λ e. omega (arith, ap δ e) in
          rw (mark_end b u v j ne, arrives_end b u v j ne, rise δ u v r) (omega arith)

      here : mark v b ≤ (unit + n) * arrives δ v b
      here = elim (ℕ_discrete b.two v) [
        | yes e ↦ at b.one (inl (refl, e))
        | no f ↦ elim (ℕ_discrete b.one v) [
          | yes e ↦ at b.two (inr (e, refl))
          | no g ↦ rw (mark_none b v g f, arrives_none b v g f) (omega arith)
        ]
      ]

  -- the highest atom that has a bond
  pub record Top (bs : List Bond) : Type 0 where
    pub up : ℕ
    pub down : ℕ
    pub joined : any_joins bs down up ≡ true
    pub most : (u v : ℕ) → any_joins bs u v ≡ true → δ u ≤ δ up

  higher : (b : Bond) → (u v : ℕ) × Joins b u v × (δ b.one ≤ δ v) × (δ b.two ≤ δ v)
  higher b = elim (dec_lt (δ b.one) (δ b.two)) [
    | yes l ↦ (b.one, b.two, inl (refl, refl), omega arith, omega arith)
    | no l ↦ (b.two, b.one, inr (refl, refl), omega arith, omega arith)
  ]

  within : (b : Bond) (x y d : ℕ) → δ b.one ≤ d → δ b.two ≤ d → Joins b x y → δ x ≤ d
  within b x y d p q (inl (e, f)) = omega (arith, ap δ e)
  within b x y d p q (inr (e, f)) = omega (arith, ap δ f)

  pub top : (b : Bond) (bs : List Bond) → Top (b ∷ bs)
  top b [] =
      let (u, v, j, p, q) = higher b in
      record { up = v; down = u; joined = any_head b [] u v j; most = λ x y i. ⊎_elim (within b x y (δ v) p q) (λ z. absurd (any_none x y z)) (any_out b [] x y i) }
  top b (c ∷ bs) =
      let (u, v, j, p, q) = higher b in
      let t = top c bs in
      elim (dec_lt (δ t.up) (δ v)) [
        | yes l ↦ record {
          up = v;
          down = u;
          joined = any_head b (c ∷ bs) u v j;
          most = λ x y i. ⊎_elim (within b x y (δ v) p q) (λ z. omega (arith, t.most x y z)) (any_out b (c ∷ bs) x y i);
        }
        | no l ↦ record {
          up = t.up;
          down = t.down;
          joined = any_tail b (c ∷ bs) t.down t.up t.joined;
          most = λ x y i. ⊎_elim (within b x y (δ t.up) (omega arith) (omega arith)) (λ z. t.most x y z) (any_out b (c ∷ bs) x y i);
        }
      ]

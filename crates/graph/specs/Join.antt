-- Laws. Two molecules joined by one bond: distances inside are unchanged, and across they add up. Assumes nothing.
use Rattle.std.specs.Prelude.{ℕ, suc, ◌+◌, ◌-◌, ◌≤◌, Bool, true, false, cond, [], ◌∷◌, ◌++◌, ◌⊎◌, ◌≡◌, refl, leb}
use Rattle.std.proofs.Common.{inl, inr, sym, ◌∙◌, ap, subst₂, le-leb, leb-true, leb-false}
use Rattle.std.proofs.Math.Logic.{⊎_elim}
use Rattle.std.proofs.Math.Path.{subst}
use Rattle.std.proofs.Math.Nat.{add-sub_cancel_left}
use native.Mathlib.Omega.{arith}
use Rattle.std.proofs.lemmas.Bool.{lt-leb}
use Rattle.graph.specs.Graph.{Graph, bond, Walk, Within, Sound, Molecule, bonded, distance}
use Rattle.graph.specs.Assembly.{shifted, joined}
use Rattle.graph.specs.Graph.Walk.{stay, step}
use Rattle.graph.specs.Bonds.{any_out, any_head, any_none, append_out, append_left, append_right, shifted_out, shifted_in}
use Rattle.graph.specs.Walk.{far_end, concat, reverse}
use Rattle.graph.specs.Distance.{distance_by, distance_shortest, distance_self, distance_bond}

-- where a bond of the joined graph comes from
data Source (g h : Graph) (a b u v : ℕ) : Type 0 where
  first : bonded g u v ≡ true → Source g h a b u v
  second : (x y : ℕ) → u ≡ g.atoms + x → v ≡ g.atoms + y → bonded h x y ≡ true → Source g h a b u v
  there : u ≡ a → v ≡ g.atoms + b → Source g h a b u v
  back : u ≡ g.atoms + b → v ≡ a → Source g h a b u v

source : (g h : Graph) (a b u v : ℕ) → bonded (joined g h a b) u v ≡ true → Source g h a b u v
unfolding bonded joined
source g h a b u v e =
    ⊎_elim first
    (λ q. ⊎_elim
    (λ r. let t = shifted_out g.atoms h.bonds u v r in second t.0 t.1 t.2 t.3 t.4)
    (λ r. ⊎_elim
    (⊎_elim (λ x. there (sym x.0) (sym x.1)) (λ x. back (sym x.1) (sym x.0)))
    (λ t. absurd (any_none u v t))
    (any_out (bond a (g.atoms + b)) [] u v r))
    (append_out (shifted g.atoms h.bonds) (bond a (g.atoms + b) ∷ []) u v q))
    (append_out g.bonds (shifted g.atoms h.bonds ++ (bond a (g.atoms + b) ∷ [])) u v e)

-- the three kinds of bond are bonds of the joined graph
first_bond : (g h : Graph) (a b u v : ℕ) → bonded g u v ≡ true → bonded (joined g h a b) u v ≡ true
unfolding bonded joined
first_bond g h a b u v e = append_left g.bonds _ u v e

second_bond : (g h : Graph) (a b u v : ℕ) → bonded h u v ≡ true → bonded (joined g h a b) (g.atoms + u) (g.atoms + v) ≡ true
unfolding bonded joined
second_bond g h a b u v e =
    append_right g.bonds _ _ _ (append_left (shifted g.atoms h.bonds) _ _ _ (shifted_in g.atoms h.bonds u v e))

bridge : (g h : Graph) (a b : ℕ) → bonded (joined g h a b) a (g.atoms + b) ≡ true
unfolding bonded joined
bridge g h a b =
    let n = g.atoms in
    append_right g.bonds _ a (n + b)
    (append_right (shifted n h.bonds) _ a (n + b) (any_head (bond a (n + b)) [] a (n + b) (inl (refl, refl))))

-- a walk is carried along by a map of the atoms that keeps bonds
carry : {g k : Graph} {i j l : ℕ} (s : ℕ → ℕ) → ((u v : ℕ) → bonded g u v ≡ true → bonded k (s u) (s v) ≡ true) → Walk g i j l → Walk k (s i) (s j) l
carry s h stay = stay
carry s h (step {v = v} {w = w} p b) = step (carry s h p) (h v w b)

-- an atom of n + m is one of the first n, or one of the m that follow
either : (n m x : ℕ) → Within (n + m) x → Within n x ⊎ ((y : ℕ) × Within m y × (x ≡ n + y))
either n m x w = go (leb x n) refl
  where
    go : (t : Bool) → leb x n ≡ t → Within n x ⊎ ((y : ℕ) × Within m y × (x ≡ n + y))
    go true e = inl (record { low = w.low; high = leb-true x n e })
    go false e = let h = leb-false x n e in inr (x - n, record { low = omega arith; high = omega arith }, omega arith)

-- p on the first n, and q on those that follow
sides : ℕ → (ℕ → ℕ) → (ℕ → ℕ) → ℕ → ℕ
sides n p q x = cond (leb x n) (p x) (q (x - n))

sides_first : (n : ℕ) (p q : ℕ → ℕ) (x : ℕ) → x ≤ n → sides n p q x ≡ p x
unfolding sides
sides_first n p q x h = ap (λ (t : Bool). cond t (p x) (q (x - n))) (le-leb x n h)

sides_second : (n : ℕ) (p q : ℕ → ℕ) (y : ℕ) → 1 ≤ y → sides n p q (n + y) ≡ q y
unfolding sides
sides_second n p q y h =
    ap (λ (t : Bool). cond t (p (n + y)) (q (n + y - n))) (lt-leb (n + y) n (omega arith)) ∙ ap q (add-sub_cancel_left n y)

module _ {g h : Graph} {a b : ℕ} (mg : Molecule g) (mh : Molecule h) (ha : Within g.atoms a) (hb : Within h.atoms b) where
  joined_sound : Sound (joined g h a b)
  unfolding joined
  joined_sound = record { ends = λ u v e. go u v (source g h a b u v e) }
    where
      go : (u v : ℕ) → Source g h a b u v → Within (joined g h a b).atoms u
      go u v (first q) = let w = mg.sound.ends u v q in omega arith
      go u v (second x y p r q) = let w = mh.sound.ends x y q in omega arith
      go u v (there p r) = omega arith
      go u v (back p r) = omega arith

  first_walk : {i j k : ℕ} → Walk g i j k → Walk (joined g h a b) i j k
  first_walk p = carry (λ x. x) (first_bond g h a b) p

  second_walk : {i j k : ℕ} → Walk h i j k → Walk (joined g h a b) (g.atoms + i) (g.atoms + j) k
  second_walk p = carry (λ x. g.atoms + x) (second_bond g h a b) p

  cross_walk : {i j k l : ℕ} → Walk g i a k → Walk h b j l → Walk (joined g h a b) i (g.atoms + j) (k + 1 + l)
  cross_walk p q = concat (concat (first_walk p) (step stay (bridge g h a b))) (second_walk q)

  -- numbers on both sides that grow by at most one along each bond, the joining one too
  slopes : (p q : ℕ → ℕ) → ((v w : ℕ) → bonded g v w ≡ true → p w ≤ suc (p v)) → ((v w : ℕ) → bonded h v w ≡ true → q w ≤ suc (q v))
      → q b ≤ suc (p a) → p a ≤ suc (q b) → (v w : ℕ) → bonded (joined g h a b) v w ≡ true → sides g.atoms p q w ≤ suc (sides g.atoms p q v)
  slopes p q hp hq up down u v e = go (source g h a b u v e)
    where
      n : ℕ
      n = g.atoms

      at_first : (x : ℕ) → Within n x → sides n p q x ≡ p x
      at_first x w = sides_first n p q x w.high

      at_second : (x y : ℕ) → Within h.atoms y → x ≡ n + y → sides n p q x ≡ q y
      at_second x y w e = ap (sides n p q) e ∙ sides_second n p q y w.low

      go : Source g h a b u v → sides n p q v ≤ suc (sides n p q u)
      go (first r) = omega (arith, at_first u (mg.sound.ends u v r), at_first v (far_end mg.sound u v r), hp u v r)
      go (second x y s t r) = omega (arith, at_second u x (mh.sound.ends x y r) s, at_second v y (far_end mh.sound x y r) t, hq x y r)
      go (there s t) = omega (arith, ap (sides n p q) s, at_first a ha, at_second v b hb t)
      go (back s t) = omega (arith, ap (sides n p q) t, at_first a ha, at_second u b hb s)

  pub first_within : {i : ℕ} → Within g.atoms i → Within (joined g h a b).atoms i
  unfolding joined
  first_within w = omega arith

  pub second_within : {j : ℕ} → Within h.atoms j → Within (joined g h a b).atoms (g.atoms + j)
  unfolding joined
  second_within w = omega arith

  -- the distances from an atom of g, and from an atom of h, on both sides
  from_first : ℕ → ℕ → ℕ
  from_first i = sides g.atoms (distance g i) (λ y. distance g i a + 1 + distance h b y)

  from_second : ℕ → ℕ → ℕ
  from_second j = sides g.atoms (λ x. distance h j b + 1 + distance g a x) (distance h j)

  by_first : {i x : ℕ} → Within g.atoms i → Walk (joined g h a b) i x (from_first i x) → distance (joined g h a b) i x ≡ from_first i x
  unfolding from_first
  by_first {i} {x} hi w =
      distance_by (from_first i) joined_sound (first_within hi)
      (sides_first g.atoms (distance g i) (λ y. distance g i a + 1 + distance h b y) i hi.high ∙ distance_self mg.sound hi)
      (slopes (distance g i) (λ y. distance g i a + 1 + distance h b y) (distance_bond mg hi) (λ v w e. omega (arith, distance_bond mh hb v w e))
      (omega (arith, distance_self mh.sound hb)) (omega (arith, distance_self mh.sound hb))) w

  by_second : {j x : ℕ} → Within h.atoms j → Walk (joined g h a b) (g.atoms + j) x (from_second j x) → distance (joined g h a b) (g.atoms + j) x ≡ from_second j x
  unfolding from_second
  by_second {j} {x} hj w =
      distance_by (from_second j) joined_sound (second_within hj)
      (sides_second g.atoms (λ x. distance h j b + 1 + distance g a x) (distance h j) j hj.low ∙ distance_self mh.sound hj)
      (slopes (λ x. distance h j b + 1 + distance g a x) (distance h j) (λ v w e. omega (arith, distance_bond mg ha v w e)) (distance_bond mh hj)
      (omega (arith, distance_self mg.sound ha)) (omega (arith, distance_self mg.sound ha))) w

  pub distance_first : {i j : ℕ} → Within g.atoms i → Within g.atoms j → distance (joined g h a b) i j ≡ distance g i j
  unfolding from_first
  distance_first {i} {j} hi hj =
      let e = sides_first g.atoms (distance g i) (λ y. distance g i a + 1 + distance h b y) j hj.high in
      by_first hi (subst (Walk (joined g h a b) i j) (sym e) (first_walk (distance_shortest mg hi hj).walk)) ∙ e

  pub distance_cross : {i j : ℕ} → Within g.atoms i → Within h.atoms j → distance (joined g h a b) i (g.atoms + j) ≡ distance g i a + 1 + distance h b j
  unfolding from_first
  distance_cross {i} {j} hi hj =
      let e = sides_second g.atoms (distance g i) (λ y. distance g i a + 1 + distance h b y) j hj.low in
      by_first hi (subst (Walk (joined g h a b) i _) (sym e) (cross_walk (distance_shortest mg hi ha).walk (distance_shortest mh hb hj).walk)) ∙ e

  pub distance_second : {i j : ℕ} → Within h.atoms i → Within h.atoms j → distance (joined g h a b) (g.atoms + i) (g.atoms + j) ≡ distance h i j
  unfolding from_second
  distance_second {i} {j} hi hj =
      let e = sides_second g.atoms (λ x. distance h i b + 1 + distance g a x) (distance h i) j hj.low in
      by_second hi (subst (Walk (joined g h a b) (g.atoms + i) _) (sym e) (second_walk (distance_shortest mh hi hj).walk)) ∙ e

  pub joined_molecule : Molecule (joined g h a b)
  unfolding joined
  joined_molecule = record {
    sound = joined_sound;
    linked = λ i j wi wj. ⊎_elim
        (λ vi. ⊎_elim (λ vj. let r = mg.linked i j vi vj in (r.0, first_walk r.1)) (λ vj. cross i j vi vj) (either g.atoms h.atoms j wj))
        (λ vi. ⊎_elim (λ vj. let r = cross j i vj vi in (r.0, reverse r.1)) (λ vj. new i j vi vj) (either g.atoms h.atoms j wj))
        (either g.atoms h.atoms i wi);
  }
    where
      cross : (i j : ℕ) → Within g.atoms i → (y : ℕ) × Within h.atoms y × (j ≡ g.atoms + y) → (k : ℕ) × Walk (joined g h a b) i j k
      cross i j vi r =
          let p = mg.linked i a vi ha in
          let q = mh.linked b r.0 hb r.1 in
          (p.0 + 1 + q.0, subst (λ (x : ℕ). Walk (joined g h a b) i x (p.0 + 1 + q.0)) (sym r.2) (cross_walk p.1 q.1))

      new : (i j : ℕ) → (x : ℕ) × Within h.atoms x × (i ≡ g.atoms + x) → (y : ℕ) × Within h.atoms y × (j ≡ g.atoms + y) → (k : ℕ) × Walk (joined g h a b) i j k
      new i j p q =
          let r = mh.linked p.0 q.0 p.1 q.1 in
          (r.0, subst₂ (λ (x y : ℕ). Walk (joined g h a b) x y r.0) (sym p.2) (sym q.2) (second_walk r.1))

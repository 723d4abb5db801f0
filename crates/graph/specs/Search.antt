-- Laws. A search from atom i, level by level: what holds while it runs, and that its levels are the distances. Assumes nothing.
-- It is seen through five things, whatever holds them: which atoms are met; which of them wait, met at the deepest level with their neighbours not yet
-- looked at; which atoms were seen next to those that waited; the level of an atom; and the deepest level.
use Rattle.std.specs.Prelude.{ℕ, suc, ◌≤◌, ◌<◌, Bool, true, false, not, ◌&&◌, ◌||◌, cond, ◌⊎◌, ◌≡◌, refl, eqb}
use Rattle.std.proofs.Math.Bool.{and-false}
use Rattle.std.proofs.lemmas.Bool.{false≢true}
use Rattle.std.proofs.Common.{inl, inr, ⊎_elim, sym, ap, subst, ◌∙◌, arith, eq-eqb, ne_eqb, eqb-true}
use Rattle.std.proofs.Math.Path.{subst⁻¹}
use Rattle.std.proofs.Math.Decide.{ℕ_discrete, dec_lt}
use Rattle.graph.specs.Graph.{Graph, Within, Sound, bonded, Walk, Shortest, distance}
use Rattle.graph.specs.Graph.Walk.{stay, step}
use Rattle.graph.specs.Walk.{far_end}
use Rattle.graph.specs.Bonds.{both, one_of, first_of, second_of}
use Rattle.graph.specs.Distance.{shortest_below, search_found, search_missed}
use Rattle.graph.specs.Farthest.{farthest}
use Rattle.graph.specs.Largest.{farthest_is}

pub record State : Type 0 where
  pub met : ℕ → Bool
  pub waits : ℕ → Bool
  pub near : ℕ → Bool
  pub level : ℕ → ℕ
  pub depth : ℕ

module _ (g : Graph) (i : ℕ) where
  abbrev Atom : ℕ → Type 0
  Atom v = Within g.atoms v

  pub record Seen (s : State) : Type 0 where
    pub start : Atom i
    pub origin : s.met i ≡ true
    pub zeroth : s.level i ≡ 0
    pub walks : (v : ℕ) → Atom v → s.met v ≡ true → Walk g i v (s.level v)
    pub deepest : (v : ℕ) → Atom v → s.met v ≡ true → s.level v ≤ s.depth
    pub front : (v : ℕ) → Atom v → s.waits v ≡ true → (s.met v ≡ true) × (s.level v ≡ s.depth)
    pub passed : (v w : ℕ) → s.met v ≡ true → s.waits v ≡ false → bonded g v w ≡ true
        → ((s.met w ≡ true) × (s.level w ≤ suc (s.level v))) ⊎ ((s.near w ≡ true) × (s.level v ≡ s.depth))
    pub ahead : (w : ℕ) → Atom w → s.near w ≡ true → Walk g i w (suc s.depth)

  -- t is s after the neighbours of u were looked at
  pub record Looks (s t : State) (u : ℕ) : Type 0 where
    pub met : (v : ℕ) → Atom v → t.met v ≡ s.met v
    pub waits : (v : ℕ) → Atom v → t.waits v ≡ (s.waits v && not (eqb v u))
    pub near : (v : ℕ) → Atom v → t.near v ≡ (s.near v || bonded g u v)
    pub level : (v : ℕ) → Atom v → t.level v ≡ s.level v
    pub depth : t.depth ≡ s.depth

  -- t is s one level deeper: what was seen and not met is met now, and waits
  pub record Deepens (s t : State) : Type 0 where
    pub met : (v : ℕ) → Atom v → t.met v ≡ (s.met v || s.near v)
    pub waits : (v : ℕ) → Atom v → t.waits v ≡ (s.near v && not (s.met v))
    pub near : (v : ℕ) → Atom v → t.near v ≡ false
    pub level : (v : ℕ) → Atom v → t.level v ≡ cond (t.waits v) (suc s.depth) (s.level v)
    pub depth : t.depth ≡ suc s.depth

  -- before the first turn only i is met, and it waits
  pub begin : (s : State) → Atom i → ((v : ℕ) → Atom v → s.met v ≡ eqb v i) → ((v : ℕ) → Atom v → s.waits v ≡ eqb v i) → ((v : ℕ) → Atom v → s.near v ≡ false)
      → s.level i ≡ 0 → s.depth ≡ 0 → Sound g → Seen s
  begin s a m w n z d sound = record {
    start = a;
    origin = m i a ∙ itself;
    zeroth = z;
    walks = λ v b k. subst⁻¹ (λ (x : ℕ). Walk g i x (s.level x)) (only v b k) (subst⁻¹ (λ (x : ℕ). Walk g i i x) z stay);
    deepest = λ v b k. subst⁻¹ (λ (x : ℕ). s.level x ≤ s.depth) (only v b k) (omega arith);
    front = λ v b k. let e = eqb-true v i (sym (w v b) ∙ k) in (m v b ∙ sym (w v b) ∙ k, ap s.level e ∙ z ∙ sym d);
    passed = λ v x k l b.
        let c = sound.ends v x b in
        absurd (false≢true (sym l ∙ w v c ∙ sym (m v c) ∙ k));
    ahead = λ v b k. absurd (false≢true (sym (n v b) ∙ k));
  }
    where
      itself : eqb i i ≡ true
      itself = eq-eqb i i refl

      only : (v : ℕ) → Atom v → s.met v ≡ true → v ≡ i
      only v b k = eqb-true v i (sym (m v b) ∙ k)

  module _ (sound : Sound g) (s : State) (S : Seen s) where
    -- the end of a walk no longer than the deepest level is met, at most as deep
    pub within_reach : {v k : ℕ} → Walk g i v k → k ≤ s.depth → (s.met v ≡ true) × (s.level v ≤ k)
    within_reach stay l = (S.origin, omega (arith, S.zeroth))
    within_reach (step {v = v} {w = w} {k = k} p b) l = go (s.waits v) refl (within_reach p (omega arith))
      where
        go : (t : Bool) → s.waits v ≡ t → (s.met v ≡ true) × (s.level v ≤ k) → (s.met w ≡ true) × (s.level w ≤ suc k)
        go true e (m, h) = absurd (omega (arith, (S.front v (sound.ends v w b) e).1))
        go false e (m, h) = ⊎_elim (λ (x, y). (x, omega arith)) (λ (x, y). absurd (omega arith)) (S.passed v w m e b)

    module _ (v : ℕ) (a : Atom v) where
      -- while an atom waits, the deepest level is its distance, and so below the atom count
      pub depth_below : s.waits v ≡ true → s.depth < g.atoms
      depth_below w = shortest_below sound S.start shortest
        where
          shortest : Shortest g i v s.depth
          shortest =
              let (m, e) = S.front v a w in
              record {
                walk = subst (λ (x : ℕ). Walk g i v x) e (S.walks v a m);
                least = λ k p. elim (dec_lt k s.depth) [ yes h ↦ omega (arith, (within_reach p (omega arith)).1) | no h ↦ omega arith ];
              }

    pub looked : (t : State) (u : ℕ) → Atom u → s.waits u ≡ true → Looks s t u → Seen t
    looked t u a w L = record {
      start = S.start;
      origin = L.met i S.start ∙ S.origin;
      zeroth = L.level i S.start ∙ S.zeroth;
      walks = λ v b k. subst⁻¹ (λ (x : ℕ). Walk g i v x) (L.level v b) (S.walks v b (old v b k));
      deepest = λ v b k. omega (arith, L.level v b, L.depth, S.deepest v b (old v b k));
      front = λ v b k.
          let (m, e) = S.front v b (both (s.waits v) (not (eqb v u)) (sym (L.waits v b) ∙ k)).0 in
          (L.met v b ∙ m, L.level v b ∙ e ∙ sym L.depth);
      passed = λ v x k l b.
          let c = sound.ends v x b in
          let d = far_end sound v x b in
          elim (ℕ_discrete v u) [
            | yes e ↦ inr (
              L.near x d ∙ found x (subst (λ (y : ℕ). bonded g y x ≡ true) e b),
              L.level v c ∙ ap s.level e ∙ (S.front u a w).1 ∙ sym L.depth,
            )
            | no ne ↦
                ⊎_elim
                (λ (m, h). inl (L.met x d ∙ m, omega (arith, L.level x d, L.level v c)))
                (λ (m, h). inr (L.near x d ∙ kept x m, L.level v c ∙ h ∙ sym L.depth))
                (S.passed v x (old v c k) (still v c ne l) b)
          ];
      ahead = λ x b k.
          subst⁻¹ (λ (y : ℕ). Walk g i x (suc y)) L.depth
          (⊎_elim (S.ahead x b)
          (λ e. let (m, h) = S.front u a w in step (subst (λ (y : ℕ). Walk g i u y) h (S.walks u a m)) e)
          (one_of (s.near x) (bonded g u x) (sym (L.near x b) ∙ k)));
    }
      where
        old : (v : ℕ) → Atom v → t.met v ≡ true → s.met v ≡ true
        old v b k = sym (L.met v b) ∙ k

        still : (v : ℕ) → Atom v → (v ≡ u → ⊥) → t.waits v ≡ false → s.waits v ≡ false
        still v b ne l = go (s.waits v) (sym (L.waits v b) ∙ l)
          where
            go : (x : Bool) → (x && not (eqb v u)) ≡ false → x ≡ false
            go true e = rw (ne_eqb v u ne) at e
            go false e = refl

        found : (x : ℕ) → bonded g u x ≡ true → (s.near x || bonded g u x) ≡ true
        found x e = second_of (s.near x) (bonded g u x) e

        kept : (x : ℕ) → s.near x ≡ true → (s.near x || bonded g u x) ≡ true
        kept x e = first_of (s.near x) (bonded g u x) e

    -- no atom waits
    module _ (quiet : (v : ℕ) → Atom v → s.waits v ≡ false) where
      pub deepened : (t : State) → Deepens s t → Seen t
      deepened t D = record {
        start = S.start;
        origin = D.met i S.start ∙ first_of (s.met i) (s.near i) S.origin;
        zeroth = (kept i S.start S.origin).1 ∙ S.zeroth;
        walks = λ v b k.
            ⊎_elim (λ m. subst⁻¹ (λ (x : ℕ). Walk g i v x) (kept v b m).1 (S.walks v b m))
            (λ (m, n). subst⁻¹ (λ (x : ℕ). Walk g i v x) (fresh v b m n).1 (S.ahead v b n)) (view v b k);
        deepest = λ v b k.
            ⊎_elim (λ m. omega (arith, (kept v b m).1, S.deepest v b m, D.depth)) (λ (m, n). omega (arith, (fresh v b m n).1, D.depth)) (view v b k);
        front = λ v b k.
            let (n, m) = both (s.near v) (not (s.met v)) (sym (D.waits v b) ∙ k) in
            (D.met v b ∙ second_of (s.met v) (s.near v) n, D.level v b ∙ rw k (sym D.depth));
        passed = λ v w k l b.
            let c = sound.ends v w b in
            let d = far_end sound v w b in
            ⊎_elim
            (λ m.
            ⊎_elim
            (λ (x, y). let (p, q) = kept w d x in inl (p, omega (arith, (kept v c m).1)))
            (λ (x, y). ⊎_elim (λ z. let (p, q) = kept w d z in inl (p, omega (arith, (kept v c m).1, S.deepest w d z)))
            (λ (z, n). let (p, q) = fresh w d z n in inl (p, omega (arith, (kept v c m).1)))
            (split w x))
            (S.passed v w m (quiet v c) b))
            (λ (m, n). absurd (false≢true (sym l ∙ fresh_waits v c m n)))
            (view v c k);
        ahead = λ w b k. absurd (false≢true (sym (D.near w b) ∙ k));
      }
        where
          fresh_waits : (v : ℕ) → Atom v → s.met v ≡ false → s.near v ≡ true → t.waits v ≡ true
          fresh_waits v b m n = D.waits v b ∙ rw (m, n)

          -- what was met stays as it was
          kept : (v : ℕ) → Atom v → s.met v ≡ true → (t.met v ≡ true) × (t.level v ≡ s.level v)
          kept v b m = (D.met v b ∙ first_of (s.met v) (s.near v) m, D.level v b ∙ rw (D.waits v b, m, and-false (s.near v)))

          -- what was seen and not met is met at the new level
          fresh : (v : ℕ) → Atom v → s.met v ≡ false → s.near v ≡ true → (t.met v ≡ true) × (t.level v ≡ suc s.depth)
          fresh v b m n = (D.met v b ∙ second_of (s.met v) (s.near v) n, D.level v b ∙ rw (fresh_waits v b m n))

          split : (v : ℕ) → s.near v ≡ true → (s.met v ≡ true) ⊎ ((s.met v ≡ false) × (s.near v ≡ true))
          split v n = go (s.met v) refl
            where
              go : (x : Bool) → s.met v ≡ x → (x ≡ true) ⊎ ((x ≡ false) × (s.near v ≡ true))
              go true e = inl refl
              go false e = inr (refl, n)

          view : (v : ℕ) → Atom v → t.met v ≡ true → (s.met v ≡ true) ⊎ ((s.met v ≡ false) × (s.near v ≡ true))
          view v b k = ⊎_elim inl (split v) (one_of (s.met v) (s.near v) (sym (D.met v b) ∙ k))

      -- Nothing is left to look at: the levels are the distances, and what is not met has no walk.
      module _ (over : (v : ℕ) → Atom v → s.near v ≡ false) where
        closed : (v w : ℕ) → bonded g v w ≡ true → s.met v ≡ true → (s.met w ≡ true) × (s.level w ≤ suc (s.level v))
        closed v w b m =
            ⊎_elim (λ r. r) (λ (n, e). absurd (false≢true (sym (over w (far_end sound v w b)) ∙ n))) (S.passed v w m (quiet v (sound.ends v w b)) b)

        pub met-distance : (j : ℕ) → Atom j → s.met j ≡ true → distance g i j ≡ s.level j
        met-distance j a m = search_found sound S.start (λ v. s.met v ≡ true) s.level S.origin S.zeroth closed (S.walks j a m)

        pub unmet_walk : (j : ℕ) → s.met j ≡ false → (k : ℕ) → Walk g i j k → ⊥
        unmet_walk j u k w = search_missed sound S.start (λ v. s.met v ≡ true) s.level S.origin S.zeroth closed (λ m. false≢true (sym u ∙ m)) w

  -- One level deeper nothing waits, all atoms are met, and u was met at the deepest level: that is how far the farthest atom is.
  module _ (sound : Sound g) (s : State) (S : Seen s) (quiet : (v : ℕ) → Atom v → s.waits v ≡ false) (t : State) (D : Deepens s t)
      (rests : (v : ℕ) → Atom v → t.waits v ≡ false) (whole : (v : ℕ) → Atom v → t.met v ≡ true) where
    away : (v : ℕ) → Atom v → distance g i v ≡ s.level v
    away v b = met-distance sound t (deepened sound s S quiet t D) rests D.near v b (whole v b) ∙ D.level v b ∙ rw (rests v b) refl

    -- what did not come now was met before
    before : (v : ℕ) → Atom v → s.met v ≡ true
    before v b = go (s.met v) (s.near v) (sym (D.met v b) ∙ whole v b) (sym (D.waits v b) ∙ rests v b)
      where
        go : (m n : Bool) → (m || n) ≡ true → (n && not m) ≡ false → m ≡ true
        go true n e f = refl
        go false true e f = sym f
        go false false e f = e

    pub last_level : (u : ℕ) → Atom u → s.level u ≡ s.depth → farthest g i ≡ s.depth
    last_level u a e = farthest_is g i s.depth (λ v b. omega (arith, away v b, S.deepest v b (before v b))) u a (away u a ∙ e)

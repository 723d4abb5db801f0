-- Laws. The bonds in the order of a written text: which they are, and that they are refused by nothing. Assumes nothing.
use Prim.Native.Nat.{ℕ, zero, suc, ◌+◌, ◌<◌, ◌≤◌}
use Rattle.std.specs.Prelude.{Bool, false, ◌||◌, cond, ◌⊎◌, ◌≡◌, ltb, length}
use Rattle.std.proofs.Math.Bool.{true}
use Rattle.std.proofs.Common.{true≢false, sym, ◌∙◌, ap, eq-eqb, ne_eqb, ltb-true, lt-ltb, le-ltb}
use mathlib.Core.List.{List, [], ◌∷◌, ◌++◌, map, append_assoc, append-nil}
use Rattle.std.proofs.Math.Logic.{inl, inr, ⊎_elim}
use Rattle.std.proofs.Math.Path.{refl}
use native.Mathlib.Omega.{arith}
use Rattle.std.proofs.Math.Decide.{ℕ_discrete}
use Rattle.std.proofs.lemmas.Bool.{lt-leb}
use Rattle.graph.specs.Graph.{Bond, bond, Within, joins, any_joins, degree}
use Rattle.graph.specs.Bonds.{both, any_out, any_head, any_none, append_out, append_left, append_right, degree_append}
use Rattle.reply.specs.Read.{read, ◌then◌, refuse_for}
use Rattle.reply.specs.Chain.{not_read}
use Rattle.block.specs.Block.{limit, bond_fault, bonds_reply}
use Rattle.adjacency.specs.Written.{up_to, is_greater, greater}
use Rattle.adjacency.specs.Canonical.{bonds_up_to}
use Rattle.adjacency.proofs.Degrees.{map_append}

-- one of the atoms 1 to k that pass
record Passing (p : ℕ → Bool) (k w : ℕ) : Type 0 where
  low : 1 ≤ w
  high : w ≤ k
  passes : p w ≡ true

wider : {p : ℕ → Bool} {k w : ℕ} → Passing p k w → Passing p (suc k) w
wider h = record { low = h.low; high = omega arith; passes = h.passes }

-- the bonds of one atom
module _ (i : ℕ) (p : ℕ → Bool) where
  row_next : (k : ℕ) → map (bond i) (up_to (suc k) p) ≡ map (bond i) (up_to k p) ++ map (bond i) (cond (p (suc k)) (suc k ∷ []) [])
  unfolding up_to
  row_next k = map_append (bond i) (up_to k p) (cond (p (suc k)) (suc k ∷ []) [])

  row_out : (k u v : ℕ) → any_joins (map (bond i) (up_to k p)) u v ≡ true → ((u ≡ i) × Passing p k v) ⊎ ((v ≡ i) × Passing p k u)
  unfolding up_to
  row_out zero u v e = absurd (any_none u v e)
  row_out (suc k) u v e =
      ⊎_elim
      (λ q. ⊎_elim (λ r. inl (r.0, wider r.1)) (λ r. inr (r.0, wider r.1)) (row_out k u v q))
      (λ q. one (p (suc k)) refl q)
      (append_out (map (bond i) (up_to k p)) (map (bond i) (cond (p (suc k)) (suc k ∷ []) [])) u v (rw (row_next k) at e))
    where
      here : (w : ℕ) → p (suc k) ≡ true → suc k ≡ w → Passing p (suc k) w
      here w t s = rw (← s) (record { low = omega arith; high = omega arith; passes = t })

      one : (t : Bool) → p (suc k) ≡ t → any_joins (map (bond i) (cond t (suc k ∷ []) [])) u v ≡ true → ((u ≡ i) × Passing p (suc k) v) ⊎ ((v ≡ i) × Passing p (suc k) u)
      one true t q =
          ⊎_elim (λ j. ⊎_elim (λ s. inl (sym s.0, here v t s.1)) (λ s. inr (sym s.0, here u t s.1)) j) (λ z. absurd (any_none u v z)) (any_out (bond i (suc k)) [] u v q)
      one false t q = absurd (any_none u v q)

  row_in : (k j : ℕ) → Within k j → p j ≡ true → any_joins (map (bond i) (up_to k p)) i j ≡ true
  row_in zero j w t = absurd (omega arith)
  row_in (suc k) j w t = rw (row_next k) (go (ℕ_discrete j (suc k)) (row_in k j))
    where
      go : Dec (j ≡ suc k) → (Within k j → p j ≡ true → any_joins (map (bond i) (up_to k p)) i j ≡ true)
          → any_joins (map (bond i) (up_to k p) ++ map (bond i) (cond (p (suc k)) (suc k ∷ []) [])) i j ≡ true
      go (yes e) before =
          let s : p (suc k) ≡ true = rw e at t in
          append_right (map (bond i) (up_to k p)) _ i j (rw s (any_head (bond i (suc k)) [] i j (inl (refl, sym e))))
      go (no e) before = append_left (map (bond i) (up_to k p)) _ i j (before (record { low = w.low; high = omega arith }) t)

  row_mono : (k l v : ℕ) → k ≤ l → degree (map (bond i) (up_to k p)) v ≤ degree (map (bond i) (up_to l p)) v
  row_mono k zero v h = let e : k ≡ 0 = omega arith in rw e (omega arith)
  row_mono k (suc l) v h = go (ℕ_discrete k (suc l)) (row_mono k l v)
    where
      go : Dec (k ≡ suc l) → (k ≤ l → degree (map (bond i) (up_to k p)) v ≤ degree (map (bond i) (up_to l p)) v) → degree (map (bond i) (up_to k p)) v ≤ degree (map (bond i) (up_to (suc l) p)) v
      go (yes e) before = rw e (omega arith)
      go (no e) before = rw (row_next l) (omega (arith, before (omega arith), degree_append (map (bond i) (up_to l p)) (map (bond i) (cond (p (suc l)) (suc l ∷ []) [])) v))

-- i and j are bonded, i is the smaller, and at most m
pub record Ordered (joined : ℕ → ℕ → Bool) (n m i j : ℕ) : Type 0 where
  pub low : 1 ≤ i
  pub high : i ≤ m
  pub less : i < j
  pub within : j ≤ n
  pub holds : joined i j ≡ true

module _ (joined : ℕ → ℕ → Bool) (n : ℕ) where
  pub all_out : (m u v : ℕ) → any_joins (bonds_up_to joined n m) u v ≡ true → Ordered joined n m u v ⊎ Ordered joined n m v u
  unfolding bonds_up_to greater
  all_out zero u v e = absurd (any_none u v e)
  all_out (suc m) u v e =
      ⊎_elim
      (λ q. ⊎_elim (λ r. inl (up r)) (λ r. inr (up r)) (all_out m u v q))
      (λ q. ⊎_elim (λ r. inl (here u v r.0 r.1)) (λ r. inr (here v u r.0 r.1)) (row_out (suc m) (is_greater joined (suc m)) n u v q))
      (append_out (bonds_up_to joined n m) (map (bond (suc m)) (greater joined n (suc m))) u v e)
    where
      up : {i j : ℕ} → Ordered joined n m i j → Ordered joined n (suc m) i j
      up r = record { low = r.low; high = omega arith; less = r.less; within = r.within; holds = r.holds }

      here : (i j : ℕ) → i ≡ suc m → Passing (is_greater joined (suc m)) n j → Ordered joined n (suc m) i j
      here i j s h =
          let t = both (ltb (suc m) j) (joined (suc m) j) h.passes in
          let l = ltb-true (suc m) j t.0 in
          record { low = omega arith; high = omega arith; less = omega arith; within = h.high; holds = rw s t.1 }

  pub all_in : (m i j : ℕ) → Within m i → Within n j → i < j → joined i j ≡ true → any_joins (bonds_up_to joined n m) i j ≡ true
  unfolding bonds_up_to greater
  all_in zero i j v w l t = absurd (omega arith)
  all_in (suc m) i j v w l t = go (ℕ_discrete i (suc m)) (all_in m i j)
    where
      go : Dec (i ≡ suc m) → (Within m i → Within n j → i < j → joined i j ≡ true → any_joins (bonds_up_to joined n m) i j ≡ true) → any_joins (bonds_up_to joined n m ++ map (bond (suc m)) (greater joined n (suc m))) i j ≡ true
      go (yes e) before =
          append_right (bonds_up_to joined n m) (map (bond (suc m)) (greater joined n (suc m))) i j
          (rw (← e) (row_in i (is_greater joined i) n j w (rw (lt-ltb i j l) t)))
      go (no e) before = append_left (bonds_up_to joined n m) (map (bond (suc m)) (greater joined n (suc m))) i j (before (record { low = v.low; high = omega arith }) w l t)

  all_mono : (m l v : ℕ) → m ≤ l → degree (bonds_up_to joined n m) v ≤ degree (bonds_up_to joined n l) v
  unfolding bonds_up_to
  all_mono m zero v h = let e : m ≡ 0 = omega arith in rw e (omega arith)
  all_mono m (suc l) v h = go (ℕ_discrete m (suc l)) (all_mono m l v)
    where
      go : Dec (m ≡ suc l) → (m ≤ l → degree (bonds_up_to joined n m) v ≤ degree (bonds_up_to joined n l) v) → degree (bonds_up_to joined n m) v ≤ degree (bonds_up_to joined n l ++ map (bond (suc l)) (greater joined n (suc l))) v
      go (yes e) before = rw e (omega arith)
      go (no e) before = omega (arith, before (omega arith), degree_append (bonds_up_to joined n l) (map (bond (suc l)) (greater joined n (suc l))) v)

  -- the bonds before the one that joins suc m and suc k
  abbrev before : ℕ → ℕ → List Bond
  before m k = bonds_up_to joined n m ++ map (bond (suc m)) (up_to k (is_greater joined (suc m)))

  before_none : (m : ℕ) → before m 0 ≡ bonds_up_to joined n m
  unfolding up_to
  before_none m = append-nil (bonds_up_to joined n m)

  before_next : (m k : ℕ) → before m (suc k) ≡ before m k ++ map (bond (suc m)) (cond (is_greater joined (suc m) (suc k)) (suc k ∷ []) [])
  before_next m k =
      ap (λ (l : List Bond). bonds_up_to joined n m ++ l) (row_next (suc m) (is_greater joined (suc m)) k)
      ∙ sym (append_assoc (bonds_up_to joined n m) (map (bond (suc m)) (up_to k (is_greater joined (suc m)))) (map (bond (suc m)) (cond (is_greater joined (suc m) (suc k)) (suc k ∷ []) [])))

  before_few : (m k v : ℕ) → suc m ≤ n → k ≤ n → degree (before m k) v ≤ degree (bonds_up_to joined n n) v
  unfolding bonds_up_to greater
  before_few m k v h l =
      omega (
        arith,
        degree_append (bonds_up_to joined n m) (map (bond (suc m)) (up_to k (is_greater joined (suc m)))) v,
        degree_append (bonds_up_to joined n m) (map (bond (suc m)) (up_to n (is_greater joined (suc m)))) v,
        row_mono (suc m) (is_greater joined (suc m)) k n v l,
        all_mono (suc m) n v h,
      )

  before_new : (m k : ℕ) → suc m < suc k → any_joins (before m k) (suc m) (suc k) ≡ false
  before_new m k l = go (any_joins (before m k) (suc m) (suc k)) refl
    where
      never : any_joins (before m k) (suc m) (suc k) ≡ true → ⊥
      never e =
          ⊎_elim
          (λ q. ⊎_elim (λ r. let a = r.high in omega arith) (λ r. let a = r.high in omega arith) (all_out m (suc m) (suc k) q))
          (λ q. ⊎_elim (λ r. let a = r.1.high in omega arith) (λ r. let a = r.0 in omega arith) (row_out (suc m) (is_greater joined (suc m)) k (suc m) (suc k) q))
          (append_out (bonds_up_to joined n m) (map (bond (suc m)) (up_to k (is_greater joined (suc m)))) (suc m) (suc k) e)

      go : (t : Bool) → any_joins (before m k) (suc m) (suc k) ≡ t → t ≡ false
      go true e = absurd (never e)
      go false e = refl

-- bonds that passed, the last first
unfoldable onto : List Bond → List Bond → List Bond
onto [] done = done
onto (b ∷ bs) done = onto bs (b ∷ done)

onto-degree : (bs done : List Bond) (v : ℕ) → degree (onto bs done) v ≡ degree bs v + degree done v
unfolding onto degree
onto-degree [] done v = omega arith
onto-degree (b ∷ bs) done v = omega (arith, onto-degree bs (b ∷ done) v)

onto_joins : (bs done : List Bond) (u v : ℕ) → any_joins (onto bs done) u v ≡ true → (any_joins bs u v || any_joins done u v) ≡ true
unfolding onto any_joins
onto_joins [] done u v e = e
onto_joins (b ∷ bs) done u v e = swap (joins b u v) (any_joins bs u v) (any_joins done u v) (onto_joins bs (b ∷ done) u v e)
  where
    swap : (p q r : Bool) → (q || (p || r)) ≡ true → ((p || q) || r) ≡ true
    swap true q r h = refl
    swap false q r h = h

onto_new : (bs : List Bond) (u v : ℕ) → any_joins bs u v ≡ false → any_joins (onto bs []) u v ≡ false
unfolding any_joins
onto_new bs u v e = go (any_joins (onto bs []) u v) refl
  where
    go : (t : Bool) → any_joins (onto bs []) u v ≡ t → t ≡ false
    go true q = absurd (true≢false (sym (rw e at (onto_joins bs [] u v q))))
    go false q = refl

snoc : (n : ℕ) (done bs : List Bond) (b : Bond) → bonds_reply n done bs ≡ read tt → bond_fault n (onto bs done) b ≡ 0 → bonds_reply n done (bs ++ b ∷ []) ≡ read tt
unfolding bonds_reply onto
snoc n done [] b e f = rw f
snoc n done (c ∷ bs) b e f = go (bond_fault n done c) e (λ q. snoc n (c ∷ done) bs b q f)
  where
    go : (x : ℕ) → (refuse_for x (suc (length done)) then λ _. bonds_reply n (c ∷ done) bs) ≡ read tt → (bonds_reply n (c ∷ done) bs ≡ read tt → bonds_reply n (c ∷ done) (bs ++ b ∷ []) ≡ read tt)
        → (refuse_for x (suc (length done)) then λ _. bonds_reply n (c ∷ done) (bs ++ b ∷ [])) ≡ read tt
    go zero q more = more q
    go (suc x) q more = absurd (not_read q)

no_fault : (n : ℕ) (done : List Bond) (i j : ℕ) → Within n i → Within n j → i < j → any_joins done i j ≡ false → degree done i < limit → degree done j < limit → bond_fault n done (bond i j) ≡ 0
unfolding bond_fault
no_fault n done i j v w l a p q =
    rw (ne_eqb i 0 (omega arith), le-ltb n i v.high, ne_eqb j 0 (omega arith), le-ltb n j w.high, ne_eqb i j (omega arith), a, lt-leb limit (degree done i) p, lt-leb limit (degree done j) q)

-- a bond counts at both of its ends
first : (i j : ℕ) → 1 ≤ degree (bond i j ∷ []) i
unfolding degree
first i j = rw (eq-eqb i i refl) (omega arith)

second : (i j : ℕ) → 1 ≤ degree (bond i j ∷ []) j
unfolding degree
second i j = rw (eq-eqb j j refl) (omega arith)

nothing : (v : ℕ) → degree [] v ≡ 0
unfolding degree
nothing v = refl

module _ (joined : ℕ → ℕ → Bool) (n : ℕ) (few : (v : ℕ) → Within n v → degree (bonds_up_to joined n n) v ≤ limit) where
  row_fine : (m k : ℕ) → suc m ≤ n → k ≤ n → bonds_reply n [] (bonds_up_to joined n m) ≡ read tt → bonds_reply n [] (before joined n m k) ≡ read tt
  row_fine m zero h l e = rw (before_none joined n m) e
  row_fine m (suc k) h l e = rw (before_next joined n m k) (go (is_greater joined (suc m) (suc k)) refl (row_fine m k h (omega arith) e))
    where
      go : (t : Bool) → is_greater joined (suc m) (suc k) ≡ t → bonds_reply n [] (before joined n m k) ≡ read tt → bonds_reply n [] (before joined n m k ++ map (bond (suc m)) (cond t (suc k ∷ []) [])) ≡ read tt
      go false t q = rw (append-nil (before joined n m k)) q
      go true t q =
          let s : suc m < suc k = ltb-true (suc m) (suc k) (both (ltb (suc m) (suc k)) (joined (suc m) (suc k)) t).0 in
          let whole : before joined n m (suc k) ≡ before joined n m k ++ (bond (suc m) (suc k) ∷ []) = before_next joined n m k ∙ rw t in
          let ends : (v : ℕ) → degree (before joined n m (suc k)) v ≡ degree (before joined n m k) v + degree (bond (suc m) (suc k) ∷ []) v = λ v. ap (λ (x : List Bond). degree x v) whole ∙ degree_append (before joined n m k) (bond (suc m) (suc k) ∷ []) v in
          snoc n [] (before joined n m k) (bond (suc m) (suc k)) q
          (no_fault n (onto (before joined n m k) []) (suc m) (suc k) (omega arith) (omega arith) s
          (onto_new (before joined n m k) (suc m) (suc k) (before_new joined n m k s))
          (omega (arith, onto-degree (before joined n m k) [] (suc m), ends (suc m), first (suc m) (suc k), nothing (suc m), before_few joined n m (suc k) (suc m) h l, few (suc m) (omega arith)))
          (omega (arith, onto-degree (before joined n m k) [] (suc k), ends (suc k), second (suc m) (suc k), nothing (suc k), before_few joined n m (suc k) (suc k) h l, few (suc k) (omega arith))))

  pub order_fine : (m : ℕ) → m ≤ n → bonds_reply n [] (bonds_up_to joined n m) ≡ read tt
  unfolding bonds_up_to bonds_reply greater
  order_fine zero l = refl
  order_fine (suc m) l = row_fine m n l (omega arith) (order_fine m (omega arith))

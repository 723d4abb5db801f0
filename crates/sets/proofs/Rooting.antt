-- Laws. Merging a leaf into the atom that it hangs on leaves what the root has at the end as it is; so the root ends with the count of the whole tree. Assumes nothing.
use Prim.Native.Nat.{ℕ, zero, suc, ◌+◌, ◌-◌, ◌≤◌, ◌<◌}
use mathlib.Core.Bool.{Bool, true, false, not, ◌&&◌, cond}
use mathlib.Core.List.{List, [], ◌∷◌, ◌++◌, map, append_assoc}
use mathlib.Core.Logic.{inl, inr}
use mathlib.Core.Path.{◌≡◌, refl, sym, ap, ap₂, subst, ◌∙◌}
use native.Mathlib.Decide.{ℕ_discrete}
use native.Mathlib.Omega.{arith}
use lib.Dec.{eqb}
use lib.ListN.{length}
use borrow.Author.Tests.{eq-eqb, ne_eqb, eqb-true, eqb-false, not-true}
use Rattle.graph.specs.Graph.{Bond, Within, any_joins}
use Rattle.graph.specs.Bonds.{Joins, both, any_head, any_tail, any_joins_sym}
use Rattle.graph.specs.Tree.{two_arrive}
use Rattle.sets.specs.Merging.{taken, unit, tally}
use Rattle.sets.specs.Recursion.{child, children}
use Rattle.sets.specs.declared.Weight.{Weight}
use Rattle.sets.proofs.Weigh.{whole, off}
use Rattle.sets.proofs.Leaves.{Leaf, one_bond, joins_others}
use Rattle.sets.proofs.Peel.{Peeling, at, rest, differ, fewer_bonds, merging, merging_parent, merging_other, merged_turn, some_leaf, last_one}
use Rattle.sets.proofs.Branches.{gathered, under, gathered_middle}

-- children
children_append : (bs cs : List Bond) (from v : ℕ) → children (bs ++ cs) from v ≡ children bs from v ++ children cs from v
unfolding children
children_append [] cs from v = refl
children_append (b ∷ bs) cs from v = ap (λ (us : List ℕ). child b from v ++ us) (children_append bs cs from v) ∙ sym (append_assoc (child b from v) (children bs from v) (children cs from v))

map_append : {A : Type 0} (f : ℕ → A) (us vs : List ℕ) → map f (us ++ vs) ≡ map f us ++ map f vs
map_append f [] vs = refl
map_append f (u ∷ us) vs = ap (◌∷◌ (f u)) (map_append f us vs)

-- what is said of each child alike is said of all
children_same : {A : Type 0} (bs : List Bond) (from v : ℕ) {f g : ℕ → A} → ((c : ℕ) → any_joins bs v c ≡ true → (c ≡ from → ⊥) → f c ≡ g c) → map f (children bs from v) ≡ map g (children bs from v)
unfolding children child
children_same [] from v e = refl
children_same (b ∷ bs) from v {f} {g} e =
    go (eqb b.one v && not (eqb b.two from)) refl (eqb b.two v && not (eqb b.one from)) refl (children_same bs from v (λ c j. e c (any_tail b bs v c j)))
  where
    child_of : (x c : ℕ) → (eqb x v && not (eqb c from)) ≡ true → (x ≡ v) × (c ≡ from → ⊥)
    child_of x c t = let (p, q) = both (eqb x v) (not (eqb c from)) t in (eqb-true x v p, eqb-false c from (not-true (eqb c from) q))

    go : (s : Bool) → (eqb b.one v && not (eqb b.two from)) ≡ s → (t : Bool) → (eqb b.two v && not (eqb b.one from)) ≡ t
        → map f (children bs from v) ≡ map g (children bs from v)
        → map f (cond s (b.two ∷ []) (cond t (b.one ∷ []) []) ++ children bs from v) ≡ map g (cond s (b.two ∷ []) (cond t (b.one ∷ []) []) ++ children bs from v)
    go true p t q r = let (x, y) = child_of b.one b.two p in ap₂ ◌∷◌ (e b.two (any_head b bs v b.two (inl (x, refl))) y) r
    go false p true q r = let (x, y) = child_of b.two b.one q in ap₂ ◌∷◌ (e b.one (any_head b bs v b.one (inr (refl, x))) y) r
    go false p false q r = r

-- the child that a bond gives
child_none : (b : Bond) (from v : ℕ) → (b.one ≡ v → ⊥) → (b.two ≡ v → ⊥) → child b from v ≡ []
unfolding child
child_none b from v e f = rw (ne_eqb b.one v e, ne_eqb b.two v f)

child_back : (b : Bond) (u p : ℕ) → Joins b u p → (u ≡ p → ⊥) → child b p u ≡ []
unfolding child
child_back b u p (inl (e, f)) ne = rw (eq-eqb b.one u e, eq-eqb b.two p f, ne_eqb b.two u (λ z. ne (sym z ∙ f)))
child_back b u p (inr (e, f)) ne = rw (ne_eqb b.one u (λ z. ne (sym z ∙ e)), eq-eqb b.two u f, eq-eqb b.one p e)

child_one : (b : Bond) (from u p : ℕ) → Joins b u p → (u ≡ p → ⊥) → (from ≡ u → ⊥) → child b from p ≡ u ∷ []
unfolding child
child_one b from u p (inl (e, f)) ne away = rw (ne_eqb b.one p (λ z. ne (sym e ∙ z)), eq-eqb b.two p f, ne_eqb b.one from (λ z. away (sym z ∙ e))) (ap (λ (c : ℕ). c ∷ []) e)
child_one b from u p (inr (e, f)) ne away = rw (eq-eqb b.one p e, ne_eqb b.two from (λ z. away (sym z ∙ f))) (ap (λ (c : ℕ). c ∷ []) f)

-- an atom without a bond has no child
childless : (bs : List Bond) (from v : ℕ) → tally bs v ≡ 0 → children bs from v ≡ []
unfolding children child
childless [] from v e = refl
childless (b ∷ bs) from v e = let (p, q, r) = off b bs v e in rw (p, q) (childless bs from v r)

-- v was reached from below: every other atom that a bond joins to it is above it
abbrev Above : (ℕ → ℕ) → List Bond → ℕ → ℕ → Type 0
Above δ bs from v = (c : ℕ) → any_joins bs v c ≡ true → (c ≡ from → ⊥) → δ v < δ c

higher : (x y : ℕ) → (x ≡ y → ⊥) → (y < x → ⊥) → x < y
higher x y p q = omega arith

module _ {n root : ℕ} {δ : ℕ → ℕ} {total : Bool → ℕ} {bs : List Bond} {w : Bool → ℕ → Weight} (s : Peeling n root δ total bs w) (low : δ root ≡ 0) where
  above_root : Above δ bs 0 root
  above_root c j ne = let d = (s.ends root c j).2 in higher (δ root) (δ c) d (λ l. omega arith)

  above_child : (from v c : ℕ) → Above δ bs from v → any_joins bs v c ≡ true → (c ≡ from → ⊥) → Above δ bs v c
  above_child from v c h j ne d k nv =
      higher (δ c) (δ d) (s.ends c d k).2
      (λ l. let wc = (s.ends v c j).1 in
      let far : root ≡ c → ⊥ = λ z. omega (arith, ap δ z, h c j ne) in
      let i : any_joins bs d c ≡ true = any_joins_sym bs d c ∙ k in
      omega (arith, s.once c wc far, two_arrive δ bs v d c (λ z. nv (sym z)) (h c j ne) l j i))

  -- Atom u other than the root has one bond left, to p: it is merged into p.
  module _ (u p : ℕ) (hu : Within n u) (ne : root ≡ u → ⊥) (e : tally bs u ≡ unit + p) (l : p < unit) (κ : Bool) (x : ℕ → Weight)
      (at_p : x p ≡ taken κ (w κ p) (w κ u)) (others : (t : ℕ) → Within n t → (t ≡ u → ⊥) → (t ≡ p → ⊥) → x t ≡ w κ t) (short : (v : ℕ) → Within n v → δ v < n) where
    abbrev a : Leaf bs u p
    a = at s u p hu ne e l

    abbrev left : List Bond
    left = rest s u p hu ne e l

    apart : u ≡ p → ⊥
    apart = differ s u p hu ne e l

    -- the children of v by the bond that is cut, and the others
    parted : (from v : ℕ) → children bs from v ≡ children a.front from v ++ (child a.cut from v ++ children a.back from v)
    unfolding children
    parted from v = ap (λ (cs : List Bond). children cs from v) a.is ∙ children_append a.front (a.cut ∷ a.back) from v

    without : (from v : ℕ) → child a.cut from v ≡ [] → children bs from v ≡ children left from v
    without from v c =
        parted from v ∙ ap (λ (us : List ℕ). children a.front from v ++ (us ++ children a.back from v)) c ∙ sym (children_append a.front a.back from v)

    elsewhere : (from v : ℕ) → (v ≡ u → ⊥) → (v ≡ p → ⊥) → children bs from v ≡ children left from v
    elsewhere from v f g = without from v (outside a.joins)
      where
        outside : Joins a.cut u p → child a.cut from v ≡ []
        outside (inl (i, j)) = child_none a.cut from v (λ z. f (sym z ∙ i)) (λ z. g (sym z ∙ j))
        outside (inr (i, j)) = child_none a.cut from v (λ z. g (sym z ∙ i)) (λ z. f (sym z ∙ j))

    -- nothing hangs on u
    alone : (k : ℕ) → under κ k bs (w κ) p u ≡ w κ u
    unfolding under gathered
    alone zero = refl
    alone (suc k) = rw (without p u (child_back a.cut u p a.joins apart) ∙ childless left p u a.alone)

    -- at p: one more merged before the others
    at_parent : (k from : ℕ) → (from ≡ u → ⊥) → map (under κ k bs (w κ) p) (children left from p) ≡ map (under κ k left x p) (children left from p)
        → gathered κ (w κ p) (map (under κ k bs (w κ) p) (children bs from p)) ≡ gathered κ (x p) (map (under κ k left x p) (children left from p))
    at_parent k from g same =
        let f = under κ k bs (w κ) p in
        let front = children a.front from p in
        let back = children a.back from p in
        let c : children bs from p ≡ front ++ (u ∷ back) = parted from p ∙ ap (λ (us : List ℕ). front ++ (us ++ back)) (child_one a.cut from u p a.joins apart g) in
        ap (λ (us : List ℕ). gathered κ (w κ p) (map f us)) c
        ∙ ap (gathered κ (w κ p)) (map_append f front (u ∷ back))
        ∙ gathered_middle κ (w κ p) (f u) (map f front) (map f back)
        ∙ ap₂ (gathered κ) (ap (taken κ (w κ p)) (alone k) ∙ sym at_p) (sym (map_append f front back) ∙ ap (map f) (sym (children_append a.front a.back from p)) ∙ same)

    -- a child by a bond that is left
    below : (k from v : ℕ) → Above δ bs from v → (v ≡ u → ⊥) → n ≤ suc k + δ v
        → ((c : ℕ) → Within n c → Above δ bs v c → (c ≡ u → ⊥) → n ≤ k + δ c → under κ k bs (w κ) v c ≡ under κ k left x v c)
        → map (under κ k bs (w κ) v) (children left from v) ≡ map (under κ k left x v) (children left from v)
    below k from v h f q again =
        children_same left from v
        (λ c j nc.
        let i : any_joins bs v c ≡ true = subst (λ (cs : List Bond). any_joins cs v c ≡ true) (sym a.is) (joins_others a.front a.cut a.back v c j) in
        let nu : c ≡ u → ⊥ = λ z. omega (arith, a.alone, one_bond δ left v u f (subst (λ (t : ℕ). any_joins left v t ≡ true) z j)) in
        again c (s.ends v c i).1 (above_child from v c h i nc) nu (omega (arith, q, h c i nc)))

    stays : (k from v : ℕ) → Within n v → Above δ bs from v → (v ≡ u → ⊥) → (from ≡ u → ⊥) → n ≤ k + δ v → under κ k bs (w κ) from v ≡ under κ k left x from v
    unfolding under
    stays zero from v hv h f g q = absurd (omega (arith, short v hv))
    stays (suc k) from v hv h f g q =
        go (ℕ_discrete v p) (below k from v h f q (λ c wc hc nc qc. stays k v c wc hc nc f qc))
      where
        go : Dec (v ≡ p) → map (under κ k bs (w κ) v) (children left from v) ≡ map (under κ k left x v) (children left from v)
            → gathered κ (w κ v) (map (under κ k bs (w κ) v) (children bs from v)) ≡ gathered κ (x v) (map (under κ k left x v) (children left from v))
        go (yes z) same =
            subst (λ (t : ℕ). gathered κ (w κ t) (map (under κ k bs (w κ) t) (children bs from t)) ≡ gathered κ (x t) (map (under κ k left x t) (children left from t))) (sym z)
            (at_parent k from g (subst (λ (t : ℕ). map (under κ k bs (w κ) t) (children left from t) ≡ map (under κ k left x t) (children left from t)) z same))
        go (no z) same = ap₂ (gathered κ) (sym (others v hv f z)) (ap (map (under κ k bs (w κ) v)) (elsewhere from v f z) ∙ same)

-- nothing is left to merge
under_none : (κ : Bool) (k : ℕ) (w : ℕ → Weight) (from v : ℕ) → under κ k [] w from v ≡ w v
unfolding under gathered children
under_none κ zero w from v = refl
under_none κ (suc k) w from v = refl

module _ {n root : ℕ} {δ : ℕ → ℕ} {total : Bool → ℕ} (few : n < unit) (low : δ root ≡ 0) (start : Within n root) (short : (v : ℕ) → Within n v → δ v < n) where
  -- one leaf less
  next : {bs : List Bond} {w : Bool → ℕ → Weight} (s : Peeling n root δ total bs w) (u p : ℕ) (hu : Within n u) (ne : root ≡ u → ⊥) (e : tally bs u ≡ unit + p) (l : p < unit) (κ : Bool)
      → whole κ (under κ n (rest s u p hu ne e l) (merging s u p hu ne e l κ) 0 root) ≡ total κ → whole κ (under κ n bs (w κ) 0 root) ≡ total κ
  next s u p hu ne e l κ after =
      ap (whole κ)
      (stays s low u p hu ne e l κ (merging s u p hu ne e l κ) (merging_parent s u p hu ne e l κ) (merging_other s u p hu ne e l κ) short n 0 root start (above_root s low) ne
      (λ z. omega (arith, hu)) (omega arith))
      ∙ after

  -- THE ROOT ends with the count of the whole tree
  pub rooted : (m : ℕ) (bs : List Bond) (w : Bool → ℕ → Weight) → length bs ≡ m → Peeling n root δ total bs w → (κ : Bool) → whole κ (under κ n bs (w κ) 0 root) ≡ total κ
  rooted zero [] w e s κ = ap (whole κ) (under_none κ n (w κ) 0 root) ∙ last_one s start refl κ
  rooted zero (b ∷ bs) w e s κ = absurd (omega arith)
  rooted (suc m) [] w e s κ = absurd (omega arith)
  rooted (suc m) (b ∷ bs) w e s κ =
      let (u, hu, ne, lo, hi) = some_leaf s few low b bs refl in
      let p = tally (b ∷ bs) u - unit in
      let f : tally (b ∷ bs) u ≡ unit + p = omega arith in
      let l : p < unit = omega arith in
      next s u p hu ne f l κ (rooted m (rest s u p hu ne f l) (merging s u p hu ne f l) (omega (arith, fewer_bonds s u p hu ne f l)) (merged_turn s u p hu ne f l) κ)

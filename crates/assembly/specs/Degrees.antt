-- Laws. The bonds that refusal 19 counts on a placed atom are those that it has in the molecule written out. Assumes nothing.
use Prim.Native.Nat.{ℕ, zero, suc, ◌+◌, ◌-◌, ◌≤◌, ◌<◌}
use Rattle.std.specs.Prelude.{Bool, true, false, ◌&&◌, cond, ◌≡◌, eqb, ltb}
use mathlib.Core.List.{List, [], ◌∷◌, ◌++◌}
use Rattle.std.proofs.Common.{inl, inr, ◌∙◌, ap, subst}
use Rattle.std.proofs.Math.Logic.{⊎_elim}
use Rattle.std.proofs.Math.Path.{refl}
use Rattle.std.proofs.Math.Nat.{le-suc_iff}
use native.Mathlib.Omega.{arith}
use borrow.Author.Tests.{eq-eqb, ne_eqb, eqb-true, eqb-false, ltb-true, ltb-false}
use Rattle.graph.specs.Graph.{Bond, bond, Graph, Within, Sound, any_joins, bonded, degree, sum}
use Rattle.graph.specs.Assembly.{Join, shifted, joined, start_at, atom_of, written, Assembled, Placed}
use Rattle.graph.specs.Bonds.{any_head, any_tail, degree_append}
use Rattle.graph.specs.Climb.{size_written, placed_within, placed_sooner, sooner, site_placed, written_molecule}
use Rattle.assembly.specs.Placements.{join_ends, joins_on, bonds_on}

eqb_shift : (n u v : ℕ) → eqb (n + u) (n + v) ≡ eqb u v
eqb_shift n u v = go (eqb u v) refl
  where
    go : (t : Bool) → eqb u v ≡ t → eqb (n + u) (n + v) ≡ t
    go true t = eq-eqb (n + u) (n + v) (omega (arith, eqb-true u v t))
    go false t = ne_eqb (n + u) (n + v) (λ e. eqb-false u v t (omega (arith, e)))

degree-shifted : (n : ℕ) (bs : List Bond) (v : ℕ) → degree (shifted n bs) (n + v) ≡ degree bs v
unfolding degree shifted
degree-shifted n [] v = refl
degree-shifted n (b ∷ bs) v = rw (eqb_shift n b.one v, eqb_shift n b.two v, degree-shifted n bs v)

-- no bond ends at what is no atom
no_ends : (bs : List Bond) (v : ℕ) → ((w : ℕ) → any_joins bs v w ≡ true → ⊥) → degree bs v ≡ 0
unfolding degree
no_ends [] v h = refl
no_ends (b ∷ bs) v h =
    rw (
      ne_eqb b.one v (λ e. h b.two (any_head b bs v b.two (inl (e, refl)))),
      ne_eqb b.two v (λ e. h b.one (any_head b bs v b.one (inr (refl, e)))),
    ) (omega (arith, no_ends bs v (λ w j. h w (any_tail b bs v w j))))

degree_outside : (g : Graph) (v : ℕ) → Sound g → (Within g.atoms v → ⊥) → degree g.bonds v ≡ 0
unfolding bonded
degree_outside g v s h = no_ends g.bonds v (λ w j. h (s.ends v w j))

-- nor below n + 1 after a shift by n
degree_before : (n : ℕ) (bs : List Bond) (v : ℕ) → v ≤ n → ((w : ℕ) → any_joins bs 0 w ≡ true → ⊥) → degree (shifted n bs) v ≡ 0
unfolding degree shifted
degree_before n [] v l h = refl
degree_before n (b ∷ bs) v l h =
    rw (
      ne_eqb (n + b.one) v (λ e. h b.two (any_head b bs 0 b.two (inl (omega arith, refl)))),
      ne_eqb (n + b.two) v (λ e. h b.one (any_head b bs 0 b.one (inr (refl, omega arith)))),
    ) (omega (arith, degree_before n bs v l (λ w j. h w (any_tail b bs 0 w j))))

module _ (joins : ℕ → Join) where
  pub joins_zero : (p a : ℕ) → joins_on joins 0 p a ≡ 0
  unfolding joins_on sum
  joins_zero p a = refl

  pub joins-suc : (k p a : ℕ) → joins_on joins (suc k) p a ≡ joins_on joins k p a + join_ends (joins (suc k)) (suc (suc k)) p a
  unfolding joins_on sum
  joins-suc k p a = refl

  -- no join to an earlier placement is on one that comes later
  pub joins_none : (last p a : ℕ) → ((k : ℕ) → 1 ≤ k → k ≤ last → Within k (joins k).parent) → suc last < p → joins_on joins last p a ≡ 0
  unfolding joins_on join_ends sum
  joins_none zero p a h l = refl
  joins_none (suc k) p a h l =
      let s = h (suc k) (omega arith) (omega arith) in
      rw (ne_eqb (joins (suc k)).parent p (omega arith), ne_eqb (suc (suc k)) p (omega arith))
      (omega (arith, joins_none k p a (λ i q r. h i q (omega arith)) (omega arith)))

module _ (blocks : ℕ → Graph) (joins : ℕ → Join) where
  -- atoms of an earlier placement stand before a later one
  before : {m k i : ℕ} (l : ℕ) → Placed blocks m k i → k < l → atom_of blocks k i ≤ start_at blocks (l - 1)
  before l p h =
      let e : l - 1 ≡ suc (l - 2) = omega (arith, p.number) in
      let w = placed_within blocks joins (placed_sooner (l - 2) (omega (arith, p.number)) p) in
      omega (arith, w.high, size_written blocks joins (l - 2), ap (start_at blocks) e)

  -- two placed atoms are one atom of the whole only where they are the same
  same_atom : {m k i l j : ℕ} → Placed blocks m k i → Placed blocks m l j → eqb (atom_of blocks k i) (atom_of blocks l j) ≡ (eqb k l && eqb i j)
  same_atom {m} {k} {i} {l} {j} p q = go (eqb k l) refl (ltb k l) refl
    where
      go : (t : Bool) → eqb k l ≡ t → (u : Bool) → ltb k l ≡ u → eqb (atom_of blocks k i) (atom_of blocks l j) ≡ (t && eqb i j)
      go true t u v = ap (λ (n : ℕ). eqb (atom_of blocks n i) (atom_of blocks l j)) (eqb-true k l t) ∙ eqb_shift (start_at blocks (l - 1)) i j
      go false t true v = ne_eqb (atom_of blocks k i) (atom_of blocks l j) (λ e. omega (arith, e, before l p (ltb-true k l v), q.atom))
      go false t false v =
          ne_eqb (atom_of blocks k i) (atom_of blocks l j) (λ e. omega (arith, e, before k q (omega (arith, eqb-false k l t, ltb-false k l v)), p.atom))

  -- the bonds of one placement more
  degree_joined : (k v : ℕ) → let n = (written blocks joins k).atoms in
      degree (written blocks joins (suc k)).bonds v
      ≡ degree (written blocks joins k).bonds v + degree (shifted n (blocks (suc k)).bonds) v
      + (cond (eqb (atom_of blocks (joins (suc k)).parent (joins (suc k)).site) v) 1 0 + cond (eqb (n + (joins (suc k)).own) v) 1 0)
  unfolding written joined degree
  degree_joined k v =
      let n = (written blocks joins k).atoms in
      let bs = shifted n (blocks (suc k)).bonds in
      let c = bond (atom_of blocks (joins (suc k)).parent (joins (suc k)).site) (n + (joins (suc k)).own) ∷ [] in
      omega (arith, degree_append (written blocks joins k).bonds (bs ++ c) v, degree_append bs c v)

  -- of an atom that was there before, and of one that comes
  old_atom : (k : ℕ) {p a : ℕ} → Assembled blocks joins (suc k) → Placed blocks k p a
      → degree (written blocks joins (suc k)).bonds (atom_of blocks p a) ≡ degree (written blocks joins k).bonds (atom_of blocks p a) + join_ends (joins (suc k)) (suc (suc k)) p a
  unfolding bonded join_ends
  old_atom k {p} {a} h q =
      let n = (written blocks joins k).atoms in
      let v = atom_of blocks p a in
      let w = placed_within blocks joins q in
      let s = h.stands (suc k) (omega arith) (omega arith) in
      let m = (h.molecules (suc k) (omega arith)).sound in
      let none = degree_before n (blocks (suc k)).bonds v w.high (λ u j. omega (arith, m.ends 0 u j)) in
      degree_joined k v
      ∙ rw (none, same_atom (site_placed k h (omega arith)) q, ne_eqb (n + (joins (suc k)).own) v (omega (arith, s.own)), ne_eqb (suc (suc k)) p (omega (arith, q.number))) (omega arith)

  new_atom : (k : ℕ) {a : ℕ} → Assembled blocks joins (suc k) → Within (blocks (suc k)).atoms a
      → degree (written blocks joins (suc k)).bonds ((written blocks joins k).atoms + a) ≡ degree (blocks (suc k)).bonds a + join_ends (joins (suc k)) (suc (suc k)) (suc (suc k)) a
  unfolding join_ends
  new_atom k {a} h w =
      let n = (written blocks joins k).atoms in
      let s = h.stands (suc k) (omega arith) (omega arith) in
      let o = placed_within blocks joins (site_placed k h (omega arith)) in
      let core = (written_molecule k (sooner k (omega arith) h)).sound in
      degree_joined k (n + a)
      ∙ rw (
        degree_outside (written blocks joins k) (n + a) core (λ x. omega (arith, x)),
        degree-shifted n (blocks (suc k)).bonds a,
        ne_eqb (atom_of blocks (joins (suc k)).parent (joins (suc k)).site) (n + a) (omega (arith, o)),
        eqb_shift n (joins (suc k)).own a,
        ne_eqb (joins (suc k)).parent (suc (suc k)) (omega (arith, s.parent)),
        eq-eqb (suc (suc k)) (suc (suc k)) refl,
      ) (omega arith)

  -- the bonds on atom a of placement number p, in the molecule of the placements up to the index `last`
  pub degree_is : (last : ℕ) {p a : ℕ} → Assembled blocks joins last → Placed blocks last p a
      → degree (written blocks joins last).bonds (atom_of blocks p a) ≡ bonds_on (blocks (p - 1)) joins last p a
  unfolding written start_at bonds_on joins_on sum
  degree_is zero {p} {a} h q =
      let e : p - 1 ≡ 0 = omega (arith, q.number) in
      let z : start_at blocks 0 + a ≡ a = omega arith in
      rw (e, z) (omega arith)
  degree_is (suc k) {p} {a} h q = ⊎_elim (λ l. old l (degree_is k (sooner k (omega arith) h) (placed_sooner k l q))) new (le-suc_iff.0 q.number.high)
    where
      old : p ≤ suc k → degree (written blocks joins k).bonds (atom_of blocks p a) ≡ degree (blocks (p - 1)).bonds a + joins_on joins k p a
          → degree (written blocks joins (suc k)).bonds (atom_of blocks p a) ≡ degree (blocks (p - 1)).bonds a + joins_on joins (suc k) p a
      old l e = omega (arith, e, old_atom k h (placed_sooner k l q), joins-suc joins k p a)

      new : p ≡ suc (suc k) → degree (written blocks joins (suc k)).bonds (atom_of blocks p a) ≡ degree (blocks (p - 1)).bonds a + joins_on joins (suc k) p a
      new l =
          let e : p - 1 ≡ suc k = omega arith in
          rw (e, l)
          (ap (λ (n : ℕ). degree (written blocks joins (suc k)).bonds (n + a)) (size_written blocks joins k)
          ∙ new_atom k h (subst (λ (n : ℕ). Within (blocks n).atoms a) e q.atom)
          ∙ omega (arith, joins-suc joins k (suc (suc k)) a, joins_none joins k (suc (suc k)) a (λ i m r. (h.stands i m (omega arith)).parent) (omega arith)))

-- Laws. The recursion as its loop has it: keys and weights in lists, the bonds that they tell of, and the atoms that were looked at. Assumes nothing.
use Prim.Native.Nat.{ℕ, ◌+◌, ◌-◌, ◌*◌, ◌/◌, ◌%◌, ◌^◌, ◌≤◌, ◌<◌}
use mathlib.Core.Bool.{Bool, true, false, cond}
use mathlib.Core.List.{List, [], ◌∷◌}
use mathlib.Core.Path.{◌≡◌, refl, sym, ap, ap₂, subst, ◌∙◌}
use native.Mathlib.Decide.{ℕ_discrete, dec_le}
use native.Mathlib.Omega.{arith}
use lib.Dec.{eqb}
use lib.ListN.{length, get_or, set, replicate, get_or-replicate, length-replicate}
use borrow.Author.Tests.{eq-eqb, ne_eqb}
use Rattle.graph.specs.Graph.{Bond, Within, distance}
use Rattle.block.specs.Block.{bonds_of, graph_of}
use Rattle.block.specs.Numbered.{bonds_length}
use Rattle.sets.specs.Reply.{sets_of}
use Rattle.sets.specs.Merging.{weight, taken, WeightPair, places, held, Store, Stored, unit, tally, key, Keyed, Rooted}
use Rattle.sets.specs.declared.Sets.{Sets}
use Rattle.sets.specs.declared.Weight.{Weight}
use Rattle.sets.proofs.Storing.{at_child, at_parent, elsewhere, twice_size}
use Rattle.sets.proofs.Weigh.{whole}
use Rattle.sets.proofs.Peel.{Peeling, rest, parent_within, differ, fewer_bonds, key_child, key_parent, key_other, turn, fits, some_leaf, last_one}
use Rattle.sets.proofs.Trees.{total, few, small, root_low, begun}

-- what the lists hold for an atom: sets of bonds, sets of atoms
abbrev pub weights : List ℕ → List ℕ → List ℕ → List ℕ → Bool → ℕ → Weight
weights all free omitted chosen true v = held all free v
weights all free omitted chosen false v = held omitted chosen v

pub record Running (n : ℕ) (xs : List ℕ) (root : ℕ) (keys all free omitted chosen : List ℕ) (left i a : ℕ) : Type 0 where
  pub bonds : List Bond
  pub count : left ≡ length bonds
  pub peeling : Peeling n root (distance (graph_of n xs) root) (total (graph_of n xs)) bonds (weights all free omitted chosen)
  pub keyed : (v : ℕ) → Within n v → get_or keys v 0 ≡ key root bonds v
  pub size : length keys ≡ places
  pub sizes : (length all ≡ places) × (length free ≡ places) × (length omitted ≡ places) × (length chosen ≡ places)
  pub current : Within n a
  pub seen : i ≤ n
  pub scanned : (v : ℕ) → Within n v → v ≤ i → (v ≡ a → ⊥) → get_or keys v 0 / unit ≡ 1 → ⊥

abbrev counts : ℕ → ℕ → Sets
counts b a = record { bonds = b; atoms = a }

abbrev ones : List ℕ
ones = replicate places 1

pub running_start : {n : ℕ} {xs : List ℕ} {root : ℕ} {keys : List ℕ} → Rooted n xs root → Keyed xs root keys → Running n xs root keys ones ones ones ones (length xs / 2) 1 1
running_start {n} {xs} {root} {keys} r k = record {
  bonds = bonds_of xs;
  count = sym (bonds_length xs);
  peeling = begun r (weights ones ones ones ones) each;
  keyed = λ v w. k.is v (let f = few r in omega (arith, w));
  size = k.size;
  sizes = (length-replicate {A = ℕ} places 1, length-replicate {A = ℕ} places 1, length-replicate {A = ℕ} places 1, length-replicate {A = ℕ} places 1);
  current = let w = r.start in omega arith;
  seen = let w = r.start in omega arith;
  scanned = λ v w l ne e. ne (omega (arith, w));
}
  where
    one : (v : ℕ) → Within n v → get_or ones v 0 ≡ 1
    one v w = get_or-replicate places v 1 0 (let f = few r in omega (arith, w))

    each : (κ : Bool) (v : ℕ) → Within n v → weights ones ones ones ones κ v ≡ weight 1 1
    each true v w = ap₂ weight (one v w) (one v w)
    each false v w = ap₂ weight (one v w) (one v w)

module _ {n : ℕ} {xs : List ℕ} {root : ℕ} {keys all free omitted chosen : List ℕ} {left i a : ℕ} (r : Rooted n xs root) (s : Running n xs root keys all free omitted chosen left i a) where
  pub in_places : a < places
  in_places = let f = few r in let w = s.current in omega arith

  -- atom a has one bond left
  module _ (one : get_or keys a 0 / unit ≡ 1) where
    abbrev p : ℕ
    p = get_or keys a 0 % unit

    not_root : root ≡ a → ⊥
    not_root e = omega (arith, one, s.keyed a s.current, ap (λ (t : Bool). cond {A = ℕ} t (2 * unit) 0) (eq-eqb root a e))

    tells : tally s.bonds a ≡ unit + p
    tells = omega (arith, one, s.keyed a s.current, ap (λ (t : Bool). cond {A = ℕ} t (2 * unit) 0) (ne_eqb root a not_root))

    below : p < unit
    below = omega arith

    pub p_within : Within n p
    p_within = parent_within s.peeling a p s.current not_root tells below

    pub p_places : p < places
    p_places = let f = few r in let w = p_within in omega arith

    apart : a ≡ p → ⊥
    apart = differ s.peeling a p s.current not_root tells below

    pair : (κ : Bool) → WeightPair κ (weights all free omitted chosen κ p) (weights all free omitted chosen κ a)
    pair κ = record {
      into = s.peeling.good κ p p_within;
      from = s.peeling.good κ a s.current;
      fits = omega (arith, fits s.peeling a p s.current not_root tells below κ, small r κ);
    }

    store : (κ : Bool) (us vs : List ℕ) → length us ≡ places → length vs ≡ places → WeightPair κ (held us vs p) (held us vs a) → Store κ us vs a p
    store κ us vs f g h = record {
      first = f;
      second = g;
      child = let f = few r in let w = s.current in omega arith;
      parent = let f = few r in let w = p_within in omega arith;
      differ = apart;
      pair = h;
    }

    pub store_bonds : Store true all free a p
    store_bonds = store true all free s.sizes.0 s.sizes.1 (pair true)

    pub store_atoms : Store false omitted chosen a p
    store_atoms = store false omitted chosen s.sizes.2 s.sizes.3 (pair false)

    pub key_enough : unit + a ≤ get_or keys p 0
    key_enough = omega (arith, s.keyed p p_within, key_parent s.peeling a p s.current not_root tells below)

    pub some_left : 1 ≤ left
    some_left = omega (arith, s.count, fewer_bonds s.peeling a p s.current not_root tells below)

    module _ {all' free' omitted' chosen' : List ℕ} (t : Stored true all free a p all' free') (f : Stored false omitted chosen a p omitted' chosen') where
      abbrev keys' : List ℕ
      keys' = set (set keys p (get_or keys p 0 - (unit + a))) a 0

      at_a : get_or keys' a 0 ≡ 0
      at_a = at_child keys a p (get_or keys p 0 - (unit + a)) 0 (omega (arith, s.size, in_places))

      at_p : get_or keys' p 0 ≡ get_or keys p 0 - (unit + a)
      at_p = at_parent keys a p (get_or keys p 0 - (unit + a)) 0 (omega (arith, s.size, p_places)) apart

      at_other : (v : ℕ) → (v ≡ a → ⊥) → (v ≡ p → ⊥) → get_or keys' v 0 ≡ get_or keys v 0
      at_other v g h = elsewhere keys a p (get_or keys p 0 - (unit + a)) 0 v g h

      abbrev left_over : List Bond
      left_over = rest s.peeling a p s.current not_root tells below

      key_a : get_or keys' a 0 ≡ key root left_over a
      key_a =
          omega (
            arith,
            at_a,
            ap (λ (t : Bool). cond {A = ℕ} t (2 * unit) 0) (ne_eqb root a not_root),
            key_child s.peeling a p s.current not_root tells below,
          )

      key_p : get_or keys' p 0 ≡ key root left_over p
      key_p = omega (arith, at_p, s.keyed p p_within, key_parent s.peeling a p s.current not_root tells below)

      pub running_merged : Running n xs root keys' all' free' omitted' chosen' (left - 1) i p
      running_merged = record {
        bonds = left_over;
        count = omega (arith, s.count, fewer_bonds s.peeling a p s.current not_root tells below);
        peeling = turn s.peeling a p s.current not_root tells below (weights all' free' omitted' chosen') child parent others;
        keyed = λ v w. elim (ℕ_discrete v a) [
          | yes e ↦ subst (λ (k : ℕ). get_or keys' k 0 ≡ key root left_over k) (sym e) key_a
          | no g ↦ elim (ℕ_discrete v p) [
            | yes e ↦ subst (λ (k : ℕ). get_or keys' k 0 ≡ key root left_over k) (sym e) key_p
            | no h ↦ at_other v g h ∙ s.keyed v w ∙ ap (λ (k : ℕ). cond (eqb root v) (2 * unit) 0 + k) (sym (key_other s.peeling a p s.current not_root tells below v g h))
          ]
        ];
        size = twice_size keys a p (get_or keys p 0 - (unit + a)) 0 ∙ s.size;
        sizes = (t.first, t.second, f.first, f.second);
        current = p_within;
        seen = s.seen;
        scanned = λ v w l g e. elim (ℕ_discrete v a) [
          | yes z ↦ omega (arith, e, subst (λ (k : ℕ). get_or keys' k 0 ≡ 0) (sym z) at_a)
          | no h ↦ s.scanned v w l h (ap (λ (k : ℕ). k / unit) (sym (at_other v h g)) ∙ e)
        ];
      }
        where
          child : (κ : Bool) → weights all' free' omitted' chosen' κ a ≡ weight 1 0
          child true = t.child
          child false = f.child

          parent : (κ : Bool) → weights all' free' omitted' chosen' κ p ≡ taken κ (weights all free omitted chosen κ p) (weights all free omitted chosen κ a)
          parent true = t.parent
          parent false = f.parent

          others : (κ : Bool) (v : ℕ) → Within n v → (v ≡ a → ⊥) → (v ≡ p → ⊥) → weights all' free' omitted' chosen' κ v ≡ weights all free omitted chosen κ v
          others true v w g h = t.others v g h
          others false v w g h = f.others v g h

  -- it has none, or more, or is the root: another one has one, and was not looked at yet
  module _ (not_one : get_or keys a 0 / unit ≡ 1 → ⊥) where
    pub more_atoms : 0 < left → i < n
    more_atoms l = go s.bonds refl
      where
        go : (bs : List Bond) → s.bonds ≡ bs → i < n
        go [] e = absurd (omega (arith, s.count, ap length e))
        go (b ∷ bs) e =
            let (v, w, far, least, most) = some_leaf s.peeling (let f = few r in omega arith) (root_low r) b bs e in
            let one : get_or keys v 0 / unit ≡ 1 = omega (arith, s.keyed v w, ap (λ (t : Bool). cond {A = ℕ} t (2 * unit) 0) (ne_eqb root v far)) in
            elim (dec_le v i) [
              | yes l ↦ absurd (s.scanned v w l (λ e. not_one (subst (λ (z : ℕ). get_or keys z 0 / unit ≡ 1) e one)) one)
              | no l ↦ omega (arith, w)
            ]

    pub running_next : 0 < left → Running n xs root keys all free omitted chosen left (i + 1) (i + 1)
    running_next l = record {
      bonds = s.bonds;
      count = s.count;
      peeling = s.peeling;
      keyed = s.keyed;
      size = s.size;
      sizes = s.sizes;
      current = let m = more_atoms l in omega arith;
      seen = let m = more_atoms l in omega arith;
      scanned = λ v w k ne e. elim (ℕ_discrete v a) [
        | yes z ↦ not_one (subst (λ (t : ℕ). get_or keys t 0 / unit ≡ 1) z e)
        | no h ↦ s.scanned v w (omega arith) h e
      ];
    }

  pub root-places : root < places
  root-places = let f = few r in let w = r.start in omega arith

  -- no bond is left
  module _ (none : left ≤ 0) where
    empty : s.bonds ≡ []
    empty = go s.bonds refl
      where
        go : (bs : List Bond) → s.bonds ≡ bs → s.bonds ≡ []
        go [] e = e
        go (b ∷ bs) e = absurd (omega (arith, s.count, ap length e))

    ended : (κ : Bool) → whole κ (weights all free omitted chosen κ root) ≡ total (graph_of n xs) κ
    ended = last_one s.peeling r.start empty

    pub atoms_fit : get_or omitted root 0 + get_or chosen root 0 < 2 ^ 64
    atoms_fit = omega (arith, ended false, small r false)

    pub answered : counts (get_or all root 0) (get_or omitted root 0 + get_or chosen root 0) ≡ sets_of (graph_of n xs)
    unfolding sets_of
    answered = ap₂ counts (ended true) (ended false)

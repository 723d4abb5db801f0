-- What an assembly is told, test by test. Assumes nothing.
use Prim.Native.Nat.{ℕ, zero, suc, ◌+◌, ◌-◌, ◌≤◌}
use mathlib.Core.Bool.{Bool, true, false}
use mathlib.Core.List.{List}
use mathlib.Core.Path.{◌≡◌, refl, sym, ◌∙◌}
use native.Mathlib.Omega.{arith}
use borrow.Author.Tests.{eq-eqb, ne_eqb}
use lib.Dec.{leb}
use Rattle.graph.specs.Assembly.{Join}
use Rattle.reply.specs.Read.{Read, refused, read, refusal, ◌then◌, refuse_if, refuse_for, is_outside}
use Rattle.reply.specs.Chain.{not_read}
use Rattle.block.specs.Block.{limit}
use Rattle.block.specs.Faults.{inside}
use Rattle.reply.specs.declared.Refusal.{Refusal}
use Rattle.assembly.specs.Book.{Book}
use Rattle.assembly.specs.Placements.{most_placements, placement_count, placement_at, atom_site, Shelf, shelf_of, is_full, first_fault, parent_fault, join_fault, join_on, sites_on, later_fault, fault, placements_reply, shelf_reply, assembly_reply}
use Rattle.assembly.specs.declared.Placement.{Placement}
use Rattle.assembly.specs.declared.JoinSite.{JoinSite}

module _ (q : Placement) where
  pub first_parent : (q.parent ≡ 0 → ⊥) → first_fault q ≡ 17
  unfolding first_fault
  first_parent p = rw (ne_eqb q.parent 0 p)

  module _ (p : q.parent ≡ 0) where
    pub first_site : (q.site ≡ 0 → ⊥) → first_fault q ≡ 17
    unfolding first_fault
    first_site s = rw (eq-eqb q.parent 0 p, ne_eqb q.site 0 s)

    module _ (s : q.site ≡ 0) where
      pub first_own : (q.own ≡ 0 → ⊥) → first_fault q ≡ 17
      unfolding first_fault
      first_own o = rw (eq-eqb q.parent 0 p, eq-eqb q.site 0 s, ne_eqb q.own 0 o)

      pub first_fine : q.own ≡ 0 → first_fault q ≡ 0
      unfolding first_fault
      first_fine o = rw (eq-eqb q.parent 0 p, eq-eqb q.site 0 s, eq-eqb q.own 0 o)

module _ (g h : JoinSite) (joins : ℕ → Join) (k : ℕ) where
  pub no_site : is_outside g.atoms (joins k).site ≡ true → join_fault g h joins k ≡ 18
  unfolding join_fault
  no_site s = rw s

  module _ (s : is_outside g.atoms (joins k).site ≡ false) where
    pub no_own : is_outside h.atoms (joins k).own ≡ true → join_fault g h joins k ≡ 18
    unfolding join_fault
    no_own o = rw (s, o)

    module _ (o : is_outside h.atoms (joins k).own ≡ false) where
      pub full_site : is_full g.ends joins k (joins k).parent (joins k).site ≡ true → join_fault g h joins k ≡ 19
      unfolding join_fault
      full_site f = rw (s, o, f)

      module _ (f : is_full g.ends joins k (joins k).parent (joins k).site ≡ false) where
        pub full_own : leb limit h.ends ≡ true → join_fault g h joins k ≡ 19
        unfolding join_fault
        full_own e = rw (s, o, f, e)

        pub joins_well : leb limit h.ends ≡ false → join_fault g h joins k ≡ 0
        unfolding join_fault
        joins_well e = rw (s, o, f, e)

module _ (shelf : Shelf) (placed : ℕ → Placement) (k : ℕ) where
  pub no_parent : is_outside k (placed k).parent ≡ true → later_fault shelf placed k ≡ parent_fault (placed k).parent
  unfolding later_fault
  no_parent e = rw e

  pub has_parent : is_outside k (placed k).parent ≡ false
      → later_fault shelf placed k ≡ join_fault (atom_site (sites_on shelf placed ((placed k).parent - 1)) (placed k).site) (atom_site (sites_on shelf placed k) (placed k).own) (join_on placed) k
  unfolding later_fault
  has_parent e = rw e

  pub no_block_lem : shelf.has (placed k).block ≡ false → fault shelf placed k ≡ 16
  unfolding fault
  no_block_lem e = rw e

  module _ (e : shelf.has (placed k).block ≡ true) where
    pub is_first : k ≡ 0 → fault shelf placed k ≡ first_fault (placed k)
    unfolding fault
    is_first z = rw (e, eq-eqb k 0 z)

    pub is_later : (k ≡ 0 → ⊥) → fault shelf placed k ≡ later_fault shelf placed k
    unfolding fault
    is_later z = rw (e, ne_eqb k 0 z)

module _ (wrong : ℕ → ℕ) (k : ℕ) where
  pub faulty : (left : ℕ) → (wrong k ≡ 0 → ⊥) → placements_reply wrong k (suc left) ≡ refused (refusal (wrong k) (suc k))
  unfolding placements_reply
  faulty left e = rw (refuses (wrong k) e)
    where
      refuses : (n : ℕ) → (n ≡ 0 → ⊥) → refuse_for n (suc k) ≡ refused (refusal n (suc k))
      refuses zero e = absurd (e refl)
      refuses (suc n) e = refl

  pub faultless : (left : ℕ) → wrong k ≡ 0 → placements_reply wrong k (suc left) ≡ placements_reply wrong (suc k) left
  unfolding placements_reply
  faultless left e = rw e

  pub none_left : placements_reply wrong k 0 ≡ read tt
  unfolding placements_reply
  none_left = refl

-- the place of a refusal is a placement's number, or 0
same_refusal : {A : Type 0} (q r : Refusal) → ◌≡◌ {A = Read A} (refused q) (refused r) → q ≡ r
same_refusal q r e = cc

placed_few : (wrong : ℕ → ℕ) (r : Refusal) (left k : ℕ) → placements_reply wrong k left ≡ refused r → r.place ≤ k + left
placed_few wrong r zero k e = absurd (not_read (sym e ∙ none_left wrong k))
placed_few wrong r (suc left) k e = go (wrong k) refl (placed_few wrong r left (suc k))
  where
    go : (n : ℕ) → wrong k ≡ n → (placements_reply wrong (suc k) left ≡ refused r → r.place ≤ suc k + left) → r.place ≤ k + suc left
    go zero f more = omega (arith, more (sym (faultless wrong k left f) ∙ e))
    go (suc n) f more = rw (← (same_refusal _ r (sym (faulty wrong k left (omega arith)) ∙ e))) (omega arith)

pub shelf_few : (shelf : Shelf) (xs : List ℕ) (r : Refusal) → shelf_reply shelf xs ≡ refused r → r.place ≤ most_placements
shelf_few shelf xs r = go (is_outside most_placements (placement_count xs)) refl
  where
    go : (t : Bool) → is_outside most_placements (placement_count xs) ≡ t → (refuse_if t 15 0 then λ _. placements_reply (fault shelf (placement_at xs)) 0 (placement_count xs)) ≡ refused r → r.place ≤ most_placements
    go true t e = rw (← (same_refusal (refusal 15 0) r e)) (omega arith)
    go false t e = omega (arith, inside most_placements (placement_count xs) t, placed_few (fault shelf (placement_at xs)) r (placement_count xs) 0 e)

module _ (book : Book) (xs : List ℕ) where
  pub count_within : is_outside most_placements (placement_count xs) ≡ false → assembly_reply book xs ≡ placements_reply (fault (shelf_of book) (placement_at xs)) 0 (placement_count xs)
  unfolding assembly_reply
  count_within e = rw e

  pub place_few : (r : Refusal) → assembly_reply book xs ≡ refused r → r.place ≤ most_placements
  unfolding assembly_reply
  place_few r e = shelf_few (shelf_of book) xs r e

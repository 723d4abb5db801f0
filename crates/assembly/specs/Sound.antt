-- Laws. What an assembly that is not refused keeps to: an assembly in graph's sense, with no atom of more bonds than the limit. Assumes nothing.
use Prim.Native.Nat.{ℕ, zero, suc, ◌+◌, ◌-◌, ◌≤◌, ◌<◌}
use Rattle.std.specs.Prelude.{Bool, true, false, ◌&&◌, ◌||◌, not, List, ◌≡◌}
use Rattle.std.proofs.Math.Bool.{cond}
use Rattle.std.proofs.Math.Logic.{⊎_elim}
use Rattle.std.proofs.Math.Path.{refl}
use Rattle.std.proofs.Math.Decide.{ℕ_discrete}
use Rattle.std.proofs.Math.Nat.{le-suc_iff}
use Rattle.std.proofs.Common.{eq-or-lt_of_le}
use native.Mathlib.Omega.{arith}
use borrow.Author.Tests.{eq-eqb, ne_eqb, leb-false, not-false}
use Rattle.std.proofs.Math.Dec.{eqb, leb}
use Rattle.graph.specs.Graph.{Graph, Within, Molecule, degree}
use Rattle.graph.specs.Assembly.{Join, atom_of, written, Assembled, Placed}
use Rattle.graph.specs.Climb.{sooner}
use Rattle.reply.specs.Read.{read, ◌then◌, refuse_if, refuse_for, is_outside}
use Rattle.reply.specs.Chain.{then-read, if_read, for_read, neither}
use Rattle.block.specs.Block.{limit}
use Rattle.block.specs.Faults.{inside}
use Rattle.assembly.specs.Book.{Book}
use Rattle.assembly.specs.Placements.{most_placements, placement_count, placement_at, Sites, atom_site, Shelf, sites_of, shelf_of, join_of, join_on, join_ends, joins_on, bonds_on, is_full, parent_fault, join_fault, graph_on, sites_on, later_fault, fault, placements_reply, assembly_reply}
use Rattle.assembly.specs.Degrees.{joins_zero, joins-suc, joins_none, degree_is}
use Rattle.assembly.specs.declared.Placement.{Placement}

-- the join at an index is to an earlier placement, at atoms that exist and have room for a bond
pub record Joined (sites : ℕ → Sites) (joins : ℕ → Join) (k : ℕ) : Type 0 where
  pub parent : Within k (joins k).parent
  pub site : Within (sites ((joins k).parent - 1)).atoms (joins k).site
  pub own : Within (sites k).atoms (joins k).own
  pub room : (sites ((joins k).parent - 1)).ends (joins k).site + joins_on joins (k - 1) (joins k).parent (joins k).site < limit
  pub own_room : (sites k).ends (joins k).own < limit

-- where a test names a number that is not 0, and nothing is named, the test fails, and so on
past : (t : Bool) (x y : ℕ) → (x ≡ 0 → ⊥) → cond t x y ≡ 0 → (t ≡ false) × (y ≡ 0)
past true x y h e = absurd (h e)
past false x y h e = (refl, e)

-- a parent that is at fault has a number for it
parent_faulty : (p : ℕ) → parent_fault p ≡ 0 → ⊥
unfolding parent_fault
parent_faulty p = go (eqb p 0)
  where
    go : (t : Bool) → ◌≡◌ {A = ℕ} (cond t 23 24) 0 → ⊥
    go true e = omega arith
    go false e = omega arith

-- with each placement that is read nothing is wrong
fault_none : (wrong : ℕ → ℕ) (left k : ℕ) → placements_reply wrong k left ≡ read tt → (i : ℕ) → k ≤ i → i < k + left → wrong i ≡ 0
unfolding placements_reply
fault_none wrong zero k e i l h = absurd (omega arith)
fault_none wrong (suc left) k e i l h =
    let (u, p, f) = then-read (refuse_for (wrong k) (suc k)) _ e in
    at (ℕ_discrete k i) (for_read (wrong k) (suc k) p) (λ m. fault_none wrong left (suc k) f i m (omega arith))
  where
    at : Dec (k ≡ i) → wrong k ≡ 0 → (suc k ≤ i → wrong i ≡ 0) → wrong i ≡ 0
    at (yes q) z more = rw (← q) z
    at (no q) z more = more (omega arith)

-- two ways to tell what is wrong, which agree on a placement where nothing is wrong before it, give one reply
pub wrong_same : (f g : ℕ → ℕ) → ((k : ℕ) → ((m : ℕ) → m < k → g m ≡ 0) → f k ≡ g k) → (left k : ℕ) → ((m : ℕ) → m < k → g m ≡ 0) → placements_reply f k left ≡ placements_reply g k left
unfolding placements_reply
wrong_same f g same zero k before = refl
wrong_same f g same (suc left) k before = rw (same k before) (go (g k) refl (wrong_same f g same left (suc k)))
  where
    go : (n : ℕ) → g k ≡ n → (((m : ℕ) → m < suc k → g m ≡ 0) → placements_reply f (suc k) left ≡ placements_reply g (suc k) left)
        → (refuse_for n (suc k) then λ _. placements_reply f (suc k) left) ≡ (refuse_for n (suc k) then λ _. placements_reply g (suc k) left)
    go zero e more = more (λ m h. ⊎_elim (λ q. rw q e) (before m) (eq-or-lt_of_le {n = m} {m = k} (omega arith)))
    go (suc n) e more = refl

module _ (shelf : Shelf) (placed : ℕ → Placement) where
  abbrev sites : ℕ → Sites
  sites = sites_on shelf placed

  abbrev joins : ℕ → Join
  joins = join_on placed

  join_right : (k : ℕ) → Within k (joins k).parent → join_fault (atom_site (sites ((joins k).parent - 1)) (joins k).site) (atom_site (sites k) (joins k).own) joins k ≡ 0 → Joined sites joins k
  unfolding join_fault
  join_right k w e =
      let j = joins k in
      let g = sites (j.parent - 1) in
      let h = sites k in
      let (a, f) = past (is_outside g.atoms j.site || is_outside h.atoms j.own) 18 _ (omega arith) e in
      let (b, z) = past (is_full (g.ends j.site) joins k j.parent j.site || leb limit (h.ends j.own)) 19 0 (omega arith) f in
      let (s, o) = neither (is_outside g.atoms j.site) (is_outside h.atoms j.own) a in
      let (r, q) = neither (is_full (g.ends j.site) joins k j.parent j.site) (leb limit (h.ends j.own)) b in
      record {
        parent = w;
        site = inside g.atoms j.site s;
        own = inside h.atoms j.own o;
        room = leb-false limit _ r;
        own_room = leb-false limit _ q;
      }

  later_right : (k : ℕ) → later_fault shelf placed k ≡ 0 → Joined sites joins k
  unfolding later_fault join_of
  later_right k e =
      let p = (placed k).parent in
      let (a, f) = past (is_outside k p) (parent_fault p) _ (parent_faulty p) e in
      join_right k (inside k p a) f

  -- the placements that are read
  pub record PlacedRight (count : ℕ) : Type 0 where
    pub has : (k : ℕ) → k < count → shelf.has (placed k).block ≡ true
    pub joined : (k : ℕ) → 1 ≤ k → k < count → Joined sites joins k

  pub well : (k : ℕ) → fault shelf placed k ≡ 0 → (shelf.has (placed k).block ≡ true) × (1 ≤ k → Joined sites joins k)
  unfolding fault
  well k e =
      let (b, f) = past (not (shelf.has (placed k).block)) 16 _ (omega arith) e in
      (not-false _ b, λ l. later_right k (rw (ne_eqb k 0 (omega arith)) at f))

  pub right : (count : ℕ) → placements_reply (fault shelf placed) 0 count ≡ read tt → PlacedRight count
  right count e =
      let none : (k : ℕ) → k < count → fault shelf placed k ≡ 0 = λ k h. fault_none (fault shelf placed) count 0 e k (omega arith) (omega arith) in
      record { has = λ k h. (well k (none k h)).0; joined = λ k l h. (well k (none k h)).1 l }

-- the whole assembly
pub record WholeAssembly (book : Book) (xs : List ℕ) : Type 0 where
  pub count : Within most_placements (placement_count xs)
  pub right : PlacedRight (shelf_of book) (placement_at xs) (placement_count xs)

pub whole : (book : Book) (xs : List ℕ) → assembly_reply book xs ≡ read tt → WholeAssembly book xs
unfolding assembly_reply
whole book xs e =
    let (u, p, f) = then-read (refuse_if (is_outside most_placements (placement_count xs)) 15 0) _ e in
    record { count = inside most_placements (placement_count xs) (if_read _ 15 0 p); right = right (shelf_of book) (placement_at xs) (placement_count xs) f }

-- over a book of molecules it is an assembly
pub assembled : (book : Book) (xs : List ℕ) → ((x : ℕ) → book.has x ≡ true → Molecule (book.graph x)) → WholeAssembly book xs
    → Assembled (graph_on book (placement_at xs)) (join_on (placement_at xs)) (placement_count xs - 1)
assembled book xs m w = record {
  molecules = λ k h. m (placement_at xs k).block (w.right.has k (omega (arith, w.count)));
  stands = λ k l h. let j = w.right.joined k l (omega (arith, w.count)) in record { parent = j.parent; site = j.site; own = j.own };
}

-- no atom of an assembly has more bonds than the limit
module _ (blocks : ℕ → Graph) (joins : ℕ → Join) where
  -- one join more adds a bond to an atom that has room, or none
  grows_old : (k p a : ℕ) → Joined (λ i. sites_of (blocks i)) joins (suc k) → p ≤ suc k → bonds_on (blocks (p - 1)) joins k p a ≤ limit → bonds_on (blocks (p - 1)) joins k p a + join_ends (joins (suc k)) (suc (suc k)) p a ≤ limit
  unfolding join_ends bonds_on
  grows_old k p a j l h = go (ℕ_discrete (joins (suc k)).parent p) (ℕ_discrete (joins (suc k)).site a)
    where
      here : suc k - 1 ≡ k
      here = omega arith

      go : Dec ((joins (suc k)).parent ≡ p) → Dec ((joins (suc k)).site ≡ a)
          → bonds_on (blocks (p - 1)) joins k p a + (cond (eqb (joins (suc k)).parent p && eqb (joins (suc k)).site a) 1 0 + cond (eqb (suc (suc k)) p && eqb (joins (suc k)).own a) 1 0) ≤ limit
      go (yes q) (yes r) = rw (eq-eqb (joins (suc k)).parent p q, eq-eqb (joins (suc k)).site a r, ne_eqb (suc (suc k)) p (omega arith)) (omega (arith, rw (here, q, r) at j.room))
      go (yes q) (no r) = rw (eq-eqb (joins (suc k)).parent p q, ne_eqb (joins (suc k)).site a r, ne_eqb (suc (suc k)) p (omega arith)) (omega arith)
      go (no q) r = rw (ne_eqb (joins (suc k)).parent p q, ne_eqb (suc (suc k)) p (omega arith)) (omega arith)

  grows_new : (k a : ℕ) → Joined (λ i. sites_of (blocks i)) joins (suc k) → joins_on joins k (suc (suc k)) a ≡ 0 → degree (blocks (suc k)).bonds a ≤ limit
      → bonds_on (blocks (suc k)) joins k (suc (suc k)) a + join_ends (joins (suc k)) (suc (suc k)) (suc (suc k)) a ≤ limit
  unfolding join_ends bonds_on
  grows_new k a j z h = go (ℕ_discrete (joins (suc k)).own a)
    where
      go : Dec ((joins (suc k)).own ≡ a)
          → bonds_on (blocks (suc k)) joins k (suc (suc k)) a + (cond (eqb (joins (suc k)).parent (suc (suc k)) && eqb (joins (suc k)).site a) 1 0 + cond (eqb (suc (suc k)) (suc (suc k)) && eqb (joins (suc k)).own a) 1 0) ≤ limit
      go (yes q) =
          rw (ne_eqb (joins (suc k)).parent (suc (suc k)) (omega (arith, j.parent)), eq-eqb (suc (suc k)) (suc (suc k)) refl, eq-eqb (joins (suc k)).own a q)
          (omega (arith, z, rw q at j.own_room))
      go (no q) =
          rw (ne_eqb (joins (suc k)).parent (suc (suc k)) (omega (arith, j.parent)), eq-eqb (suc (suc k)) (suc (suc k)) refl, ne_eqb (joins (suc k)).own a q)
          (omega (arith, z))

  more : (g : Graph) (k p a : ℕ) → bonds_on g joins (suc k) p a ≡ bonds_on g joins k p a + join_ends (joins (suc k)) (suc (suc k)) p a
  unfolding bonds_on
  more g k p a = omega (arith, joins-suc joins k p a)

  few : (last p a : ℕ) → Assembled blocks joins last → ((k v : ℕ) → k ≤ last → degree (blocks k).bonds v ≤ limit) → ((k : ℕ) → 1 ≤ k → k ≤ last → Joined (λ i. sites_of (blocks i)) joins k)
      → Within (suc last) p → bonds_on (blocks (p - 1)) joins last p a ≤ limit
  unfolding bonds_on
  few zero p a h b j w = omega (arith, b (p - 1) a (omega arith), joins_zero joins p a)
  few (suc k) p a h b j w =
      ⊎_elim
      (λ l. omega (arith, more (blocks (p - 1)) k p a, grows_old k p a (j (suc k) (omega arith) (omega arith)) l (few k p a (sooner k (omega arith) h) (λ i v q. b i v (omega arith)) (λ i q r. j i q (omega arith)) (record { low = w.low; high = l }))))
      (λ l.
      let e : p - 1 ≡ suc k = omega arith in
      let none = joins_none joins k (suc (suc k)) a (λ i q r. (h.stands i q (omega arith)).parent) (omega arith) in
      rw (e, l) (omega (arith, more (blocks (suc k)) k (suc (suc k)) a, grows_new k a (j (suc k) (omega arith) (omega arith)) none (b (suc k) a (omega arith)))))
      (le-suc_iff.0 w.high)

  pub few_bonds : (last : ℕ) {p a : ℕ} → Assembled blocks joins last → ((k v : ℕ) → k ≤ last → degree (blocks k).bonds v ≤ limit) → ((k : ℕ) → 1 ≤ k → k ≤ last → Joined (λ i. sites_of (blocks i)) joins k)
      → Placed blocks last p a → degree (written blocks joins last).bonds (atom_of blocks p a) ≤ limit
  few_bonds last {p} {a} h b j q = rw (degree_is blocks joins last h q) (few last p a h b j q.number)

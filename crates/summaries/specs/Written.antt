-- Laws. Where the summaries are those of the molecules of a book, composing over them replies what the book's assembly does, and its fields are those of the one
-- molecule with every atom and bond written out. Assumes nothing.
use Rattle.std.specs.Prelude.{ℕ, ◌+◌, ◌-◌, ◌<◌, Bool, ◌||◌, not, List, ◌≡◌, leb, length, take}
use Rattle.std.proofs.Math.Bool.{true, false, cond}
use Rattle.std.proofs.Math.Path.{refl, ap}
use Rattle.std.proofs.Common.{arith}
use Rattle.std.proofs.Math.Dec.{eqb}
use Rattle.graph.specs.Graph.{Within, Molecule, degree}
use Rattle.graph.specs.Assembly.{written}
use Rattle.reply.specs.Read.{Read, refused, read, ◌then◌, is_outside}
use Rattle.block.specs.Block.{limit, graph_of, block_reply}
use Rattle.block.specs.Faults.{inside}
use Rattle.block.specs.Index.{indices_of}
use Rattle.block.specs.Told.{molecule}
use Rattle.block.specs.declared.Indices.{Indices}
use Rattle.assembly.specs.Book.{Book}
use Rattle.assembly.specs.Placements.{placement_count, placement_at, Sites, atom_site, Shelf, shelf_of, graph_on, join_of, join_on, joins_on, first_fault, parent_fault, join_fault, sites_on, later_fault, fault, shelf_reply, assembly_reply}
use Rattle.assembly.specs.Sound.{WholeAssembly, wrong_same, well, whole, assembled}
use Rattle.assembly.specs.declared.Placement.{Placement}
use Rattle.joining.specs.Parts.{six_in}
use Rattle.joining.specs.Table.{table_of, six_of, Told}
use Rattle.joining.proofs.Written.{fields_written}
use Rattle.summary.specs.Layout.{stored_fields, stored_degree, kept_of}
use Rattle.summary.specs.Summary.{summary_of}
use Rattle.summary.specs.Back.{summary_told, ends_told}
use Rattle.shelf.specs.Shelf.{summary_at, place_of, shelf_in}
use Rattle.summaries.specs.Composing.{kept_on, composed_reply}

-- two that say the same of a block, at the atoms that it has
pub record SameSites (p q : Sites) : Type 0 where
  pub atoms : p.atoms ≡ q.atoms
  pub ends : (a : ℕ) → Within q.atoms a → p.ends a ≡ q.ends a

-- and two shelves, of each block that they have
pub record SameShelves (s t : Shelf) : Type 0 where
  pub has : (x : ℕ) → s.has x ≡ t.has x
  pub sites : (x : ℕ) → t.has x ≡ true → SameSites (s.sites x) (t.sites x)

-- the same is wrong with a join
join_same : {p q g h : Sites} (placed : ℕ → Placement) (k : ℕ) → SameSites p g → SameSites q h
    → join_fault (atom_site p (placed k).site) (atom_site q (placed k).own) (join_on placed) k ≡ join_fault (atom_site g (placed k).site) (atom_site h (placed k).own) (join_on placed) k
unfolding join_fault join_of
join_same {p} {q} {g} {h} placed k u v =
    rw (u.atoms, v.atoms) (go (is_outside g.atoms (placed k).site) refl (is_outside h.atoms (placed k).own) refl)
  where
    go : (s : Bool) → is_outside g.atoms (placed k).site ≡ s → (o : Bool) → is_outside h.atoms (placed k).own ≡ o
        → cond {A = ℕ} (is_outside g.atoms (placed k).site || is_outside h.atoms (placed k).own) 18
        (cond (leb limit (p.ends (placed k).site + joins_on (join_on placed) (k - 1) (placed k).parent (placed k).site) || leb limit (q.ends (placed k).own)) 19 0)
        ≡ cond {A = ℕ} (is_outside g.atoms (placed k).site || is_outside h.atoms (placed k).own) 18
        (cond (leb limit (g.ends (placed k).site + joins_on (join_on placed) (k - 1) (placed k).parent (placed k).site) || leb limit (h.ends (placed k).own)) 19 0)
    go true e o f = rw e
    go false e true f = rw (e, f)
    go false e false f = rw (u.ends (placed k).site (inside g.atoms (placed k).site e), v.ends (placed k).own (inside h.atoms (placed k).own f))

module _ {s t : Shelf} (same : SameShelves s t) (placed : ℕ → Placement) where
  fault_same : (k : ℕ) → ((m : ℕ) → m < k → t.has (placed m).block ≡ true) → fault s placed k ≡ fault t placed k
  unfolding fault later_fault
  fault_same k before = rw (same.has (placed k).block) (go (t.has (placed k).block) refl (eqb k 0) refl (is_outside k (placed k).parent) refl)
    where
      go : (h : Bool) → t.has (placed k).block ≡ h → (z : Bool) → eqb k 0 ≡ z → (o : Bool) → is_outside k (placed k).parent ≡ o
          → cond {A = ℕ} (not (t.has (placed k).block)) 16 (cond (eqb k 0) (first_fault (placed k)) (cond (is_outside k (placed k).parent) (parent_fault (placed k).parent) (join_fault (atom_site (sites_on s placed ((placed k).parent - 1)) (placed k).site) (atom_site (sites_on s placed k) (placed k).own) (join_on placed) k)))
          ≡ cond {A = ℕ} (not (t.has (placed k).block)) 16 (cond (eqb k 0) (first_fault (placed k)) (cond (is_outside k (placed k).parent) (parent_fault (placed k).parent) (join_fault (atom_site (sites_on t placed ((placed k).parent - 1)) (placed k).site) (atom_site (sites_on t placed k) (placed k).own) (join_on placed) k)))
      go false h z e o f = rw h
      go true h true e o f = rw (h, e)
      go true h false e true f = rw (h, e, f)
      go true h false e false f =
          let w = inside k (placed k).parent f in
          rw (h, e, f) (join_same placed k (same.sites (placed ((placed k).parent - 1)).block (before ((placed k).parent - 1) (omega arith))) (same.sites (placed k).block h))

-- the same is refused over shelves that say the same
pub shelf_same : {s t : Shelf} → SameShelves s t → (xs : List ℕ) → shelf_reply s xs ≡ shelf_reply t xs
shelf_same {s} {t} same xs =
    let placed = placement_at xs in
    rw (wrong_same (fault s placed) (fault t placed) (λ k before. fault_same same placed k (λ m h. (well t placed m (before m h)).0)) (placement_count xs) 0 (λ m h. absurd (omega arith)))

-- the summaries of a book of molecules
pub record HonestBook (b : List ℕ) (book : Book) : Type 0 where
  pub has : (x : ℕ) → (shelf_in b).has x ≡ book.has x
  pub molecules : (x : ℕ) → book.has x ≡ true → Molecule (book.graph x)
  pub told : (x : ℕ) → book.has x ≡ true → Told (kept_of (summary_at b (place_of b x))) (table_of (book.graph x))
  pub ends : (x a : ℕ) → book.has x ≡ true → Within (book.graph x).atoms a → stored_degree (summary_at b (place_of b x)) a ≡ degree (book.graph x).bonds a

-- what a book's assembly describes: its refusal, or the six fields of the molecule written out
unfoldable pub written_reply : Book → List ℕ → Read Indices
written_reply book xs = assembly_reply book xs then λ _. read (indices_of (written (graph_on book (placement_at xs)) (join_on (placement_at xs)) (placement_count xs - 1)))

module _ {b : List ℕ} {book : Book} (h : HonestBook b book) where
  same : SameShelves (shelf_in b) (shelf_of book)
  unfolding stored_fields six_of
  same = record {
    has = h.has;
    sites = λ x e. record { atoms = ap (λ (s : Indices). s.atoms) (h.told x e).six; ends = λ a w. h.ends x a e w };
  }

  written_fields : (xs : List ℕ) → WholeAssembly book xs
      → six_in (kept_on b xs) (join_on (placement_at xs)) (placement_count xs - 1) ≡ indices_of (written (graph_on book (placement_at xs)) (join_on (placement_at xs)) (placement_count xs - 1))
  written_fields xs w =
      fields_written (placement_count xs - 1) (assembled book xs h.molecules w) (λ k q. h.told (placement_at xs k).block (w.right.has k (omega (arith, w.count))))

-- COMPOSING OVER SUMMARIES FILLED FROM BLOCKS gives the fields of the molecule written out, or the assembly's refusal
pub composed_written : (b : List ℕ) (book : Book) (xs : List ℕ) → HonestBook b book → composed_reply b xs ≡ written_reply book xs
unfolding composed_reply written_reply assembly_reply
composed_written b book xs h = rw (shelf_same (same h) xs) (go (assembly_reply book xs) refl)
  where
    go : (r : Read (Unit {0})) → assembly_reply book xs ≡ r
        → (r then λ _. read (six_in (kept_on b xs) (join_on (placement_at xs)) (placement_count xs - 1)))
        ≡ (r then λ _. read (indices_of (written (graph_on book (placement_at xs)) (join_on (placement_at xs)) (placement_count xs - 1))))
    go (refused r) e = refl
    go (read u) e = ap read (written_fields h xs (whole book xs e))

-- A BOOK WHOSE PLACES BEGIN WITH BLOCKS' SUMMARIES is honest
module _ (b : List ℕ) (sizes : ℕ → ℕ) (bonds : ℕ → List ℕ) where
  pub record Summarised (x : ℕ) : Type 0 where
    pub fine : block_reply (sizes x) (bonds x) ≡ read tt
    pub begins : let s = summary_of x (graph_of (sizes x) (bonds x)) in take (length s) (summary_at b (place_of b x)) ≡ s

  pub honest : ((x : ℕ) → (shelf_in b).has x ≡ true → Summarised x) → HonestBook b (record { has = (shelf_in b).has; graph = λ x. graph_of (sizes x) (bonds x) })
  honest k = record {
    has = λ x. refl;
    molecules = λ x e. molecule (sizes x) (bonds x) (k x e).fine;
    told = λ x e. summary_told x (sizes x) (bonds x) (k x e).fine (summary_at b (place_of b x)) (k x e).begins;
    ends = λ x a e w. ends_told x (sizes x) (bonds x) (k x e).fine (summary_at b (place_of b x)) (k x e).begins a w;
  }

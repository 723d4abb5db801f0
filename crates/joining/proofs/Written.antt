-- Laws. Where the tables are the distances of molecules, composing gives the fields of the one molecule with every atom and bond written out, and the
-- joining rules are those of molecules. Assumes nothing.
use Prim.Native.Nat.{ℕ, zero, suc, ◌+◌, ◌-◌, ◌≤◌, ◌<◌}
use Rattle.std.specs.Prelude.{Bool, true, false, ◌≡◌, refl, leb}
use Rattle.std.proofs.Math.Path.{sym, ap}
use Rattle.std.proofs.Common.{◌∙◌, ap₂, arith, leb-true, leb-false}
use Rattle.graph.specs.Graph.{Graph, Within, Molecule, distance, itself, even_of, odd_of, even_one, odd_one, is_at, total, vertex}
use Rattle.graph.specs.Farthest.{farthest, largest}
use Rattle.graph.specs.Assembly.{Join, joined, start_at, written, Assembled}
use Rattle.graph.specs.Distance.{distance_sym}
use Rattle.graph.specs.Join.{distance_first, distance_second, distance_cross}
use Rattle.graph.proofs.JoinLaws.{distance_back}
use Rattle.graph.specs.Climb.{sooner, site_placed, placed_within, written_molecule}
use Rattle.graph.specs.Sums.{sum_cong, sum_pairs_cong}
use Rattle.graph.specs.Largest.{most_cong, most_pairs_cong}
use Rattle.graph.specs.Parts.{count_at_0}
use Rattle.block.specs.Index.{indices_of, vertex_of}
use Rattle.joining.specs.Parts.{Part, grow, join_six, six_in}
use Rattle.joining.specs.Table.{Table, table_of, total_by, seen_by, largest_by, farthest_by, six_of, sight_of, far_joined, joined_by, start_by, written_by, Told}
use Rattle.joining.specs.Rules.{far_first, far_cross, far_back, far_second}
use Rattle.joining.specs.Grow.{same_six, same_sight, sight_first, sight_second, six_joined}
use Rattle.joining.proofs.Whole.{whole}

-- the six fields of a graph's table are the graph's, and so is what is counted from an atom
pub six_is : (g : Graph) → six_of (table_of g) ≡ indices_of g
unfolding six_of indices_of total_by total largest_by largest
six_is g = refl

pub sight_is : (g : Graph) (a : ℕ) → sight_of (table_of g) a ≡ vertex_of g a
unfolding vertex_of seen_by vertex farthest_by farthest
sight_is g a = refl

-- Tables that are the distances of graphs.
pub record Agrees (t : Table) (g : Graph) : Type 0 where
  pub size : t.atoms ≡ g.atoms
  pub far : (i j : ℕ) → Within g.atoms i → Within g.atoms j → t.far i j ≡ distance g i j

pub agrees_self : (g : Graph) → Agrees (table_of g) g
agrees_self g = record { size = refl; far = λ i j w v. refl }

-- they have the same sums, and so the same fields
module _ {t : Table} {g : Graph} (a : Agrees t g) where
  total_agrees : (f : ℕ → ℕ) → total_by t f ≡ total_by (table_of g) f
  unfolding total_by
  total_agrees f = rw a.size (sum_pairs_cong g.atoms (λ i j w v. ap f (a.far i j w v)))

  largest_agrees : largest_by t ≡ largest_by (table_of g)
  unfolding largest_by
  largest_agrees = rw a.size (most_pairs_cong g.atoms a.far)

  pub six_agrees : six_of t ≡ six_of (table_of g)
  unfolding six_of
  six_agrees = same_six a.size (total_agrees itself) (total_agrees even_of) (total_agrees odd_of) (total_agrees (is_at 3)) largest_agrees

  seen_agrees : (c : ℕ) → Within g.atoms c → (f : ℕ → ℕ) → seen_by t c f ≡ seen_by (table_of g) c f
  unfolding seen_by
  seen_agrees c w f = rw a.size (sum_cong g.atoms (λ j v. ap f (a.far c j w v)))

  farthest_agrees : (c : ℕ) → Within g.atoms c → farthest_by t c ≡ farthest_by (table_of g) c
  unfolding farthest_by
  farthest_agrees c w = rw a.size (most_cong g.atoms (λ j v. a.far c j w v))

  pub sight_agrees : (c : ℕ) → Within g.atoms c → sight_of t c ≡ sight_of (table_of g) c
  sight_agrees c w =
      let s = seen_agrees c w in
      same_sight (s itself) (s even_of) (s odd_of) (s even_one) (s odd_one) (s (is_at 1)) (s (is_at 2)) (farthest_agrees c w)

-- Tables of molecules, joined as an assembly of those molecules, are the distances of the molecule written out.
start_agrees : (tables : ℕ → Table) (blocks : ℕ → Graph) (k : ℕ) → ((l : ℕ) → l < k → (tables l).atoms ≡ (blocks l).atoms) → start_by tables k ≡ start_at blocks k
unfolding start_by start_at
start_agrees tables blocks zero h = refl
start_agrees tables blocks (suc k) h = ap₂ ◌+◌ (start_agrees tables blocks k (λ l q. h l (omega arith))) (h k (omega arith))

joined_agrees : {s t : Table} {g h : Graph} (a b c : ℕ) → c ≡ a → Molecule g → Molecule h → Within g.atoms a → Within h.atoms b
    → Agrees s g → Agrees t h → Agrees (joined_by s t c b) (joined g h a b)
unfolding joined_by joined
joined_agrees {s} {t} {g} {h} a b c e mg mh wa wb ag ah = record { size = omega (arith, ag.size, ah.size); far = λ i j w v. go i j w v (leb i g.atoms) refl (leb j g.atoms) refl }
  where
    go : (i j : ℕ) → Within (g.atoms + h.atoms) i → Within (g.atoms + h.atoms) j → (x : Bool) → leb i g.atoms ≡ x → (y : Bool) → leb j g.atoms ≡ y
        → far_joined s t c b i j ≡ distance (joined g h a b) i j
    go i j w v true p true q =
        let wi : Within g.atoms i = omega (arith, leb-true i g.atoms p) in
        let wj : Within g.atoms j = omega (arith, leb-true j g.atoms q) in
        far_first s t c b i j (omega (arith, ag.size)) (omega (arith, ag.size)) ∙ ag.far i j wi wj ∙ sym (distance_first mg mh wa wb wi wj)
    go i j w v true p false q =
        let wi : Within g.atoms i = omega (arith, leb-true i g.atoms p) in
        let lj = leb-false j g.atoms q in
        let wj : Within h.atoms (j - g.atoms) = omega arith in
        let ej : j ≡ s.atoms + (j - g.atoms) = omega (arith, ag.size) in
        let fj : g.atoms + (j - g.atoms) ≡ j = omega arith in
        ap (far_joined s t c b i) ej ∙ far_cross s t c b i (j - g.atoms) (omega (arith, ag.size)) wj.low
        ∙ omega (arith, ap (λ (x : ℕ). s.far x i) e, ag.far a i wa wi, ah.far b (j - g.atoms) wb wj, distance_sym mg wi wa, distance_cross mg mh wa wb wi wj, ap (distance (joined g h a b) i) fj)
    go i j w v false p true q =
        let wj : Within g.atoms j = omega (arith, leb-true j g.atoms q) in
        let li = leb-false i g.atoms p in
        let wi : Within h.atoms (i - g.atoms) = omega arith in
        let ei : i ≡ s.atoms + (i - g.atoms) = omega (arith, ag.size) in
        let fi : g.atoms + (i - g.atoms) ≡ i = omega arith in
        ap (λ (x : ℕ). far_joined s t c b x j) ei ∙ far_back s t c b (i - g.atoms) j wi.low (omega (arith, ag.size))
        ∙ omega (arith, ap (λ (x : ℕ). s.far x j) e, ag.far a j wa wj, ah.far b (i - g.atoms) wb wi, distance_sym mh wi wb, distance_back mg mh wa wb wi wj, ap (λ (x : ℕ). distance (joined g h a b) x j) fi)
    go i j w v false p false q =
        let li = leb-false i g.atoms p in
        let lj = leb-false j g.atoms q in
        let wi : Within h.atoms (i - g.atoms) = omega arith in
        let wj : Within h.atoms (j - g.atoms) = omega arith in
        let ei : i ≡ s.atoms + (i - g.atoms) = omega (arith, ag.size) in
        let ej : j ≡ s.atoms + (j - g.atoms) = omega (arith, ag.size) in
        let fi : g.atoms + (i - g.atoms) ≡ i = omega arith in
        let fj : g.atoms + (j - g.atoms) ≡ j = omega arith in
        ap₂ (far_joined s t c b) ei ej ∙ far_second s t c b (i - g.atoms) (j - g.atoms) wi.low wj.low ∙ ah.far (i - g.atoms) (j - g.atoms) wi wj
        ∙ sym (distance_second mg mh wa wb wi wj) ∙ ap₂ (distance (joined g h a b)) fi fj

-- just the atom itself is at 0
pub alone_molecule : {g : Graph} {a : ℕ} → Molecule g → Within g.atoms a → seen_by (table_of g) a (is_at 0) ≡ 1
unfolding seen_by vertex
alone_molecule m w = count_at_0 m w

-- THE JOINING RULES of two molecules: the six fields, and what is counted from an atom of either
module _ {g h : Graph} {a b : ℕ} (mg : Molecule g) (mh : Molecule h) (ha : Within g.atoms a) (hb : Within h.atoms b) where
  agrees : Agrees (joined_by (table_of g) (table_of h) a b) (joined g h a b)
  agrees = joined_agrees a b a refl mg mh ha hb (agrees_self g) (agrees_self h)

  some : {n v : ℕ} → Within n v → 1 ≤ n
  some w = omega (arith, w.low, w.high)

  pub six_molecules : indices_of (joined g h a b) ≡ join_six (indices_of g) (indices_of h) (vertex_of g a) (vertex_of h b)
  six_molecules =
      sym (six_is (joined g h a b)) ∙ sym (six_agrees agrees) ∙ six_joined (table_of g) (table_of h) a b (some ha) (some hb) (alone_molecule mg ha) (alone_molecule mh hb)
      ∙ rw (six_is g, six_is h, sight_is g a, sight_is h b)

  pub first_molecules : {c : ℕ} → Within g.atoms c → vertex_of (joined g h a b) c ≡ grow (vertex_of g c) (distance g a c) (vertex_of h b)
  unfolding joined
  first_molecules {c} w =
      sym (sight_is (joined g h a b) c) ∙ sym (sight_agrees agrees c (omega (arith, w.low, w.high)))
      ∙ sight_first (table_of g) (table_of h) a b c w.high (some hb) (alone_molecule mh hb) ∙ rw (sight_is g c, sight_is h b)

  pub second_molecules : {c : ℕ} → Within h.atoms c → vertex_of (joined g h a b) (g.atoms + c) ≡ grow (vertex_of h c) (distance h b c) (vertex_of g a)
  unfolding joined
  second_molecules {c} w =
      sym (sight_is (joined g h a b) (g.atoms + c)) ∙ sym (sight_agrees agrees (g.atoms + c) (omega (arith, w.low, w.high)))
      ∙ sight_second (table_of g) (table_of h) a b c w.low (some ha) (alone_molecule mg ha) ∙ rw (sight_is h c, sight_is g a)

module _ {tables : ℕ → Table} {blocks : ℕ → Graph} {joins : ℕ → Join} where
  pub written_agrees : (m : ℕ) → Assembled blocks joins m → ((k : ℕ) → k ≤ m → Agrees (tables k) (blocks k)) → Agrees (written_by tables joins m) (written blocks joins m)
  unfolding written_by written
  written_agrees zero a t = t 0 (omega arith)
  written_agrees (suc m) a t =
      let st = a.stands (suc m) (omega arith) (omega arith) in
      joined_agrees _ _ _ (ap (λ (x : ℕ). x + (joins (suc m)).site) (start_agrees tables blocks ((joins (suc m)).parent - 1) (λ l q. (t l (omega (arith, st.parent))).size)))
      (written_molecule m (sooner m (omega arith) a)) (a.molecules (suc m) (omega arith)) (placed_within blocks joins (site_placed m a (omega arith))) st.own
      (written_agrees m (sooner m (omega arith) a) (λ k h. t k (omega arith))) (t (suc m) (omega arith))

-- THE FIELDS WRITTEN OUT: of an assembly of molecules whose tables are kept, composing gives the six fields of the one molecule.
pub fields_written : {parts : ℕ → Part} {blocks : ℕ → Graph} {joins : ℕ → Join} (m : ℕ) → Assembled blocks joins m → ((k : ℕ) → k ≤ m → Told (parts k) (table_of (blocks k)))
    → six_in parts joins m ≡ indices_of (written blocks joins m)
fields_written {parts} {blocks} {joins} m a t =
    (whole m t (λ k h q. let s = a.stands k h q in record { parent = s.parent; site = s.site; own = s.own })).six
    ∙ six_agrees (written_agrees m a (λ k h. agrees_self (blocks k))) ∙ six_is (written blocks joins m)

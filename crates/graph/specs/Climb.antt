-- Laws. An assembly written out is one molecule; distances stay as more is placed. Across joining bonds: ClimbLaws. Assumes nothing.
use Prim.Native.Nat.{ℕ, zero, suc, ◌+◌, ◌-◌, ◌≤◌, ◌<◌}
use Rattle.std.proofs.Math.Logic.{⊎_elim}
use Rattle.std.specs.Prelude.{◌≡◌}
use Rattle.std.proofs.Math.Path.{refl, ap}
use Rattle.std.proofs.Common.{sym, ◌∙◌, ap₂, subst, zero-add}
use Rattle.std.proofs.Math.Nat.{le-suc_iff, le_of_eq}
use native.Mathlib.Omega.{arith}
use Rattle.graph.specs.Graph.{Graph, Within, Molecule, distance}
use Rattle.graph.specs.Assembly.{Join, joined, start_at, atom_of, written, Assembled, Placed}
use Rattle.graph.specs.Join.{joined_molecule, distance_first, distance_second}

-- the atom of the whole molecule that the placement at index k is joined to
abbrev pub site_of : (ℕ → Graph) → (ℕ → Join) → ℕ → ℕ
site_of blocks joins k = atom_of blocks (joins k).parent (joins k).site

-- the distance of atom i of placement number k and atom j of placement number l
abbrev pub apart : (ℕ → Graph) → (ℕ → Join) → ℕ → ℕ → ℕ → ℕ → ℕ → ℕ
apart blocks joins last k i l j = distance (written blocks joins last) (atom_of blocks k i) (atom_of blocks l j)

module _ (blocks : ℕ → Graph) (joins : ℕ → Join) where
  pub size_written : (m : ℕ) → start_at blocks (suc m) ≡ (written blocks joins m).atoms
  unfolding start_at written joined
  size_written zero = omega arith
  size_written (suc m) = ap (λ (n : ℕ). n + (blocks (suc m)).atoms) (size_written m)

  start_next : (n : ℕ) → start_at blocks (suc n) ≡ start_at blocks n + (blocks n).atoms
  unfolding start_at
  start_next n = refl

  start_most : (n m : ℕ) → n ≤ m → start_at blocks (suc n) ≤ start_at blocks (suc m)
  unfolding start_at
  start_most n zero h = let e : n ≡ 0 = omega arith in le_of_eq (ap (λ (k : ℕ). start_at blocks (suc k)) e)
  start_most n (suc m) h = ⊎_elim (λ q. omega (arith, start_most n m q)) (λ q. le_of_eq (ap (λ (k : ℕ). start_at blocks (suc k)) q)) (le-suc_iff.0 h)

  -- each placed atom is one of the whole
  pub placed_within : {m k i : ℕ} → Placed blocks m k i → Within (written blocks joins m).atoms (atom_of blocks k i)
  placed_within {m} {k} {i} p = omega (arith, p.atom, size_written m, start_most (k - 1) m (omega (arith, p.number)), start_next (k - 1))

-- an atom of an earlier placement is still placed when there are more, and that of a placement up to m is placed then
placed_later : {blocks : ℕ → Graph} {m k i : ℕ} (n : ℕ) → m ≤ n → Placed blocks m k i → Placed blocks n k i
placed_later n h p = record { number = omega (arith, p.number); atom = p.atom }

pub placed_sooner : {blocks : ℕ → Graph} {n k i : ℕ} (m : ℕ) → k ≤ suc m → Placed blocks n k i → Placed blocks m k i
placed_sooner m h p = record { number = omega (arith, p.number); atom = p.atom }

module _ {blocks : ℕ → Graph} {joins : ℕ → Join} where
  -- the beginning of an assembly
  pub sooner : {n : ℕ} (m : ℕ) → m ≤ n → Assembled blocks joins n → Assembled blocks joins m
  sooner m h a = record { molecules = λ k q. a.molecules k (omega arith); stands = λ k p q. a.stands k p (omega arith) }

  -- the atom that a later placement is joined to is placed before it
  pub site_placed : {n : ℕ} (k : ℕ) → Assembled blocks joins n → suc k ≤ n → Placed blocks k (joins (suc k)).parent (joins (suc k)).site
  site_placed k a h = let s = a.stands (suc k) (omega arith) h in record { number = s.parent; atom = s.site }

  pub written_molecule : (m : ℕ) → Assembled blocks joins m → Molecule (written blocks joins m)
  unfolding written
  written_molecule zero a = a.molecules 0 (omega arith)
  written_molecule (suc m) a =
      joined_molecule (written_molecule m (sooner m (omega arith) a)) (a.molecules (suc m) (omega arith)) (placed_within blocks joins (site_placed m a (omega arith)))
      (a.stands (suc m) (omega arith) (omega arith)).own

-- One placement more, at index m + 1: its number is m + 2.
module _ {blocks : ℕ → Graph} {joins : ℕ → Join} (m : ℕ) (a : Assembled blocks joins (suc m)) where
  pub core : Molecule (written blocks joins m)
  core = written_molecule m (sooner m (omega arith) a)

  pub block : Molecule (blocks (suc m))
  block = a.molecules (suc m) (omega arith)

  pub site : Within (written blocks joins m).atoms (site_of blocks joins (suc m))
  site = placed_within blocks joins (site_placed m a (omega arith))

  pub own : Within (blocks (suc m)).atoms (joins (suc m)).own
  own = (a.stands (suc m) (omega arith) (omega arith)).own

  -- an atom of the new placement, in its block and in the whole
  pub here : {k i : ℕ} → k ≡ suc (suc m) → Placed blocks (suc m) k i → Within (blocks (suc m)).atoms i
  here {k} {i} e p = subst (λ (n : ℕ). Within (blocks n).atoms i) (omega arith) p.atom

  pub behind : {k : ℕ} (i : ℕ) → k ≡ suc (suc m) → atom_of blocks k i ≡ (written blocks joins m).atoms + i
  behind {k} i e = let n : k - 1 ≡ suc m = omega arith in ap (λ (x : ℕ). x + i) (ap (start_at blocks) n ∙ size_written blocks joins m)

  -- distances: of two earlier atoms, of two of its atoms, and of one of each
  pub apart_old : {k i l j : ℕ} → Placed blocks m k i → Placed blocks m l j → apart blocks joins (suc m) k i l j ≡ apart blocks joins m k i l j
  unfolding written
  apart_old p q = distance_first core block site own (placed_within blocks joins p) (placed_within blocks joins q)

  apart_new : {k i l j : ℕ} → k ≡ suc (suc m) → Placed blocks (suc m) k i → l ≡ suc (suc m) → Placed blocks (suc m) l j
      → apart blocks joins (suc m) k i l j ≡ distance (blocks (suc m)) i j
  unfolding written
  apart_new {i = i} {j = j} e p f q = rw (behind i e, behind j f) (distance_second core block site own (here e p) (here f q))

-- distances stay as they are with every placement more
pub apart_keeps : {blocks : ℕ → Graph} {joins : ℕ → Join} {m k i l j : ℕ} (last : ℕ) → m ≤ last → Assembled blocks joins last → Placed blocks m k i → Placed blocks m l j
    → apart blocks joins last k i l j ≡ apart blocks joins m k i l j
apart_keeps {blocks} {joins} {m} {k} {i} {l} {j} zero h a p q = let e : 0 ≡ m = omega arith in ap (λ (n : ℕ). apart blocks joins n k i l j) e
apart_keeps {blocks} {joins} {m} {k} {i} {l} {j} (suc n) h a p q =
    ⊎_elim
    (λ s. apart_old n a (placed_later n s p) (placed_later n s q) ∙ apart_keeps n s (sooner n (omega arith) a) p q)
    (λ s. ap (λ (n : ℕ). apart blocks joins n k i l j) (sym s))
    (le-suc_iff.0 h)

-- THE CLIMBING RULE, in one placement: two atoms of it are as far apart as in its block.
module _ {blocks : ℕ → Graph} {joins : ℕ → Join} where
  -- the parent's atom of a later placement is placed in the whole
  pub climbed : {last l : ℕ} → Assembled blocks joins last → 1 < l → l ≤ suc last → Placed blocks last (joins (l - 1)).parent (joins (l - 1)).site
  climbed {last} {l} a h k = let s = a.stands (l - 1) (omega arith) (omega arith) in record { number = omega (arith, s.parent); atom = s.site }

  pub apart_same : (last : ℕ) {k i l j : ℕ} → Assembled blocks joins last → Placed blocks last k i → Placed blocks last l j → k ≡ l
      → apart blocks joins last k i l j ≡ distance (blocks (k - 1)) i j
  unfolding written start_at
  apart_same zero {k} {i} {l} {j} a p q e =
      let n : k - 1 ≡ 0 = omega (arith, p.number) in
      let m : l - 1 ≡ 0 = omega (arith, q.number) in
      rw (n, m) (ap₂ (distance (blocks 0)) (zero-add i) (zero-add j))
  apart_same (suc m) {k} {i} {l} {j} a p q e =
      ⊎_elim
      (λ s. let o = placed_sooner m s p in
      let r : Placed blocks m l j = placed_sooner m (omega arith) q in
      apart_old m a o r ∙ apart_same m (sooner m (omega arith) a) o r e)
      (λ s. let n : k - 1 ≡ suc m = omega arith in apart_new m a s p (sym e ∙ s) q ∙ ap (λ (x : ℕ). distance (blocks x) i j) (sym n))
      (le-suc_iff.0 p.number.high)

-- Laws. The sets of the atoms, put one behind the other: those of a block's neighbours are its summary's. Assumes nothing.
use Prim.Native.Nat.{ℕ, zero, suc, ◌+◌, ◌*◌, ◌-◌, ◌≤◌, ◌<◌}
use mathlib.Core.List.{List, ◌++◌}
use mathlib.Core.Path.{◌≡◌, refl, ◌∙◌, ap, ap₂}
use native.Mathlib.Numerals.{add-one}
use native.Mathlib.Omega.{arith}
use lib.ListN.{length, get_or}
use lib.Seq.{sets, length-sets}
use Rattle.graph.specs.Graph.{Graph, bonded}
use Rattle.half.specs.Half.{most_atoms}
use Rattle.block.specs.Opened.{set_of, neighbours_of}
use Rattle.block.specs.Tables.{get_or-table}
use Rattle.records.specs.Bytes.{little_bytes}
use Rattle.records.specs.Stored.{joined}
use Rattle.summary.specs.Layout.{summary_head, atom_bytes}
use Rattle.summary.specs.Summary.{atoms_from}
use Rattle.filling.specs.Work.{near_bytes}

length_set : (m : ℕ) → length (little_bytes 8 m) ≡ atom_bytes
unfolding little_bytes
length_set m = refl

-- the sets of i atoms of the first n are put
pub record AtomsPut (near : List ℕ) (n : ℕ) (old new : List ℕ) (i : ℕ) : Type 0 where
  pub is : sets new (summary_head + atom_bytes * i) (near_bytes near i (n - i)) ≡ sets old summary_head (near_bytes near 0 n)
  pub size : length new ≡ length old
  pub low : i ≤ n

pub atoms_start : (near : List ℕ) (n : ℕ) (old : List ℕ) → AtomsPut near n old old 0
atoms_start near n old = let e : n - 0 ≡ n = omega arith in record { is = rw e; size = refl; low = omega arith }

atoms_step : (near l : List ℕ) (i left p q : ℕ) → q ≡ p + atom_bytes → sets (sets l p (little_bytes 8 (get_or near i 0))) q (near_bytes near (suc i) left) ≡ sets l p (near_bytes near i (suc left))
unfolding near_bytes
atoms_step near l i left p q e = joined l (little_bytes 8 (get_or near i 0)) (near_bytes near (suc i) left) p q refl refl (omega (arith, length_set (get_or near i 0)))

pub atoms_next : {near : List ℕ} {n : ℕ} {old new r : List ℕ} {i : ℕ} → AtomsPut near n old new i → i < n
    → r ≡ sets new (summary_head + atom_bytes * i) (little_bytes 8 (get_or near i 0)) → AtomsPut near n old r (i + 1)
atoms_next {near} {n} {old} {new} {r} {i} A l e = record {
  is = rw (add-one i) (ap (λ (x : List ℕ). sets x (summary_head + atom_bytes * suc i) (near_bytes near (suc i) (n - suc i))) e
      ∙ atoms_step near new i (n - suc i) (summary_head + atom_bytes * i) (summary_head + atom_bytes * suc i) (omega arith)
      ∙ ap (λ (k : ℕ). sets new (summary_head + atom_bytes * i) (near_bytes near i k)) (omega arith) ∙ A.is);
  size = ap length e ∙ length-sets new (summary_head + atom_bytes * i) (little_bytes 8 (get_or near i 0)) ∙ A.size;
  low = omega arith;
}

pub atoms_end : {near : List ℕ} {n : ℕ} {old new : List ℕ} {i : ℕ} → AtomsPut near n old new i → n ≤ i → new ≡ sets old summary_head (near_bytes near 0 n)
unfolding near_bytes
atoms_end {n = n} {i = i} A l = let z : n - i ≡ 0 = omega arith in rw z at A.is

-- THE SETS OF A GRAPH'S NEIGHBOURS are the bytes of its summary
pub near_same : (g : Graph) (left i : ℕ) → i + left ≤ most_atoms → near_bytes (neighbours_of g) i left ≡ atoms_from g (suc i) left
unfolding near_bytes atoms_from neighbours_of
near_same g zero i l = refl
near_same g (suc left) i l =
    ap₂ (λ (m : ℕ) (rest : List ℕ). little_bytes 8 m ++ rest)
    (get_or-table most_atoms (λ u. set_of g.atoms (bonded g (suc u))) i 0 (omega arith))
    (near_same g left (suc i) (omega arith))

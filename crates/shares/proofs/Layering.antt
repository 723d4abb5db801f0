-- The atoms of a row by their distances, one by one; and the same from the top down. Assumes nothing.
use Prim.Native.Nat.{ℕ, suc, ◌+◌, ◌*◌, ◌-◌, ◌^◌, ◌≤◌, ◌<◌}
use mathlib.Core.Bool.{Bool, cond}
use mathlib.Core.List.{List}
use mathlib.Core.Path.{◌≡◌, sym, ◌∙◌, ap, subst⁻¹}
use native.Mathlib.Decide.{ℕ_discrete, dec_lt}
use native.Mathlib.Nat.{pow-suc}
use native.Mathlib.Omega.{arith}
use borrow.Author.Tests.{eq-eqb, ne_eqb}
use lib.Bits.{bit_or, or_comm, or_lt}
use lib.Dec.{eqb}
use lib.ListN.{length, get_or, set, length-set}
use lib.Pow.{pow_pos, pow-lt}
use lib.Seq.{get_or-set_same, get_or-set_other}
use Rattle.graph.specs.Graph.{Within, sum}
use Rattle.graph.specs.Sets.{alone}
use Rattle.graph.specs.Sums.{sum_cong}
use Rattle.block.specs.Block.{most_atoms}
use Rattle.block.specs.Opened.{set_of}
use Rattle.block.specs.Sums.{entry}
use Rattle.block.specs.Drawn.{set_more, set_same}
use Rattle.shares.specs.Work.{at, heights, Tops, Levels}

-- the first j atoms of a row by their distances
pub record Layered (j : ℕ) (row sets : List ℕ) : Type 0 where
  pub size : length sets ≡ suc most_atoms
  pub level : (d : ℕ) → d < most_atoms → at sets d ≡ set_of j (λ v. eqb (entry row v) d)
  pub fits : (d : ℕ) → at sets d < 2 ^ j

pub layered_start : (row sets : List ℕ) → length sets ≡ suc most_atoms → ((d : ℕ) → at sets d ≡ 0) → Layered 0 row sets
unfolding sum
layered_start row sets l z = record {
  size = l;
  level = λ d l. z d;
  fits = λ d. omega (arith, z d);
}

module _ (j : ℕ) (row sets : List ℕ) (L : Layered j row sets) (k : ℕ) (is : k ≡ get_or row j 0) (small : k < most_atoms) where
  last_is : entry row (suc j) ≡ k
  last_is = let e : suc j - 1 ≡ j = omega arith in ap (λ (x : ℕ). get_or row x 0) e ∙ sym is

  pub layered_next : Layered (suc j) row (set sets k (bit_or (at sets k) (2 ^ j)))
  layered_next = record {
    size = rw length-set L.size;
    level = λ d m. elim (ℕ_discrete d k) [
      | yes e ↦ subst⁻¹ (λ (x : ℕ). at (set sets k (bit_or (at sets k) (2 ^ j))) x ≡ set_of (suc j) (λ v. eqb (entry row v) x)) e
          (get_or-set_same sets k (bit_or (at sets k) (2 ^ j)) 0 (omega (arith, L.size))
          ∙ or_comm (at sets k) (2 ^ j)
          ∙ ap (λ (x : ℕ). bit_or x (at sets k)) (let o : 2 ^ j ≡ 1 * 2 ^ j = omega arith in o)
          ∙ ap (bit_or (1 * 2 ^ j)) (L.level k small)
          ∙ sym (set_more j (λ v. eqb (entry row v) k) (eq-eqb (entry row (suc j)) k last_is)))
      | no ne ↦
          get_or-set_other sets k d (bit_or (at sets k) (2 ^ j)) 0 ne ∙ L.level d m
          ∙ sym (set_same j (λ v. eqb (entry row v) d) (ne_eqb (entry row (suc j)) d (λ e. ne (sym e ∙ last_is))))
    ];
    fits = λ d. elim (ℕ_discrete d k) [
      | yes e ↦ subst⁻¹ (λ (x : ℕ). at (set sets k (bit_or (at sets k) (2 ^ j))) x < 2 ^ suc j) e
          (rw (get_or-set_same sets k (bit_or (at sets k) (2 ^ j)) 0 (omega (arith, L.size))) (or_lt (suc j) (at sets k) (2 ^ j) (omega (arith, L.fits k, pow-suc 2 j)) (pow-lt (omega arith))))
      | no ne ↦ omega (arith, get_or-set_other sets k d (bit_or (at sets k) (2 ^ j)) 0 ne, L.fits d, pow-suc 2 j)
    ];
  }

pub layered_end : (n : ℕ) (row sets : List ℕ) → n ≤ most_atoms → Layered n row sets → (top : ℕ) → Tops n (entry row) top → Levels n (entry row) sets top
layered_end n row sets l L top T = record {
  small = l;
  low = T.low;
  high = T.high;
  level = λ d m. L.level d (omega (arith, T.low));
  fits = L.fits;
}

-- the same levels, of keys that are the same
pub levels_same : (n : ℕ) (key other : ℕ → ℕ) (sets : List ℕ) (top : ℕ) → ((v : ℕ) → Within n v → key v ≡ other v) → Levels n key sets top → Levels n other sets top
levels_same n key other sets top e L = record {
  small = L.small;
  low = L.low;
  high = λ v w. omega (arith, e v w, L.high v w);
  level = λ d l. L.level d l ∙ sum_cong n (λ v w. ap (λ (k : ℕ). cond (eqb k d) (alone v) 0) (e v w));
  fits = L.fits;
}

pub turned : (n : ℕ) (key : ℕ → ℕ) (sets back : List ℕ) (top : ℕ) → ((d : ℕ) → d < top + 1 → at back d ≡ at sets (top - d)) → ((d : ℕ) → top + 1 ≤ d → at back d ≡ 0)
    → Levels n key sets top → Levels n (heights top key) back top
turned n key sets back top b z L = record {
  small = L.small;
  low = L.low;
  high = λ v w. omega arith;
  level = λ d l. b d (omega arith) ∙ L.level (top - d) (omega arith) ∙ sum_cong n (λ v w. ap (λ (t : Bool). cond t (alone v) 0) (same v d w l));
  fits = λ d. elim (dec_lt d (top + 1)) [
    | yes l ↦ rw (b d l) (L.fits (top - d))
    | no l ↦ omega (arith, z d (omega arith), pow_pos n)
  ];
}
  where
    same : (v d : ℕ) → Within n v → d ≤ top → eqb (key v) (top - d) ≡ eqb (heights top key v) d
    same v d w l = elim (ℕ_discrete (key v) (top - d)) [
      | yes e ↦ eq-eqb (key v) (top - d) e ∙ sym (eq-eqb (top - key v) d (omega (arith, L.high v w)))
      | no ne ↦ ne_eqb (key v) (top - d) ne ∙ sym (ne_eqb (top - key v) d (λ e. ne (omega (arith, L.high v w))))
    ]

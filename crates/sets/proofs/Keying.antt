-- Laws. The keys, bond by bond: the bonds from k on are still to be added. Assumes nothing.
use Prim.Native.Nat.{ℕ, suc, ◌+◌, ◌*◌, ◌/◌, ◌≤◌, ◌<◌}
use mathlib.Core.Bool.{Bool, true, false, cond}
use mathlib.Core.List.{List}
use mathlib.Core.Path.{◌≡◌, sym, ap, ap₂, subst⁻¹, ◌∙◌}
use native.Mathlib.Decide.{ℕ_discrete}
use native.Mathlib.Omega.{arith}
use lib.Dec.{eqb}
use lib.ListN.{length, get_or, set, replicate, length-set, length-replicate}
use lib.Seq.{get_or-set_same, get_or-set_other}
use borrow.Author.Tests.{eq-eqb, ne_eqb}
use Rattle.graph.specs.Graph.{bond, Within}
use Rattle.block.specs.Block.{most_atoms, bonds_of}
use Rattle.block.specs.Numbered.{bond_at, rest, rest_sum, rest_over}
use Rattle.block.specs.Lent.{zeros}
use Rattle.sets.specs.Merging.{places, unit, mark, tally, key, added, BondsListed, Adds, Keyed}
use Rattle.sets.proofs.Storing.{more_at}

-- the keys before bond k from 0, and what they are at most
pub record Keying (xs : List ℕ) (root : ℕ) (k : ℕ) (keys : List ℕ) : Type 0 where
  pub size : length keys ≡ places
  pub is : (v : ℕ) → Within most_atoms v → get_or keys v 0 + tally (rest xs k) v ≡ key root (bonds_of xs) v
  pub most : (v : ℕ) → Within most_atoms v → get_or keys v 0 ≤ 2 * unit + 2 * (unit + most_atoms) * k

if_most : (t : Bool) (x : ℕ) → cond t x 0 ≤ x
if_most true x = omega arith
if_most false x = omega arith

pub keying_start : (xs : List ℕ) (root : ℕ) → Within most_atoms root → Keying xs root 0 (set (replicate places 0) root (2 * unit))
keying_start xs root w = record {
  size = length-set (replicate places 0) root (2 * unit) ∙ length-replicate {A = ℕ} places 0;
  is = λ v h. ap (λ (x : ℕ). x + tally (bonds_of xs) v) (first v);
  most = λ v h. omega (arith, first v, if_most (eqb root v) (2 * unit));
}
  where
    first : (v : ℕ) → get_or (set (replicate places 0) root (2 * unit)) v 0 ≡ cond (eqb root v) (2 * unit) 0
    first v = elim (ℕ_discrete root v) [
      | yes e ↦ rw (eq-eqb root v e, ← e) (get_or-set_same (replicate places 0) root (2 * unit) 0 (omega (arith, length-replicate {A = ℕ} places 0)))
      | no ne ↦ rw (ne_eqb root v ne) (get_or-set_other (replicate places 0) root v (2 * unit) 0 (λ z. ne (sym z)) ∙ zeros places v)
    ]

-- the next bond is added at its one end, then at the other
module _ {xs : List ℕ} {root k : ℕ} {keys : List ℕ} (l : BondsListed xs root) (s : Keying xs root k keys) (i : k < length xs / 2) {a b : ℕ}
    (p : a ≡ (bond_at xs k).one) (q : b ≡ (bond_at xs k).two) where
  a_within : Within most_atoms a
  a_within = subst⁻¹ (Within most_atoms) p (l.ends k i).0

  b_within : Within most_atoms b
  b_within = subst⁻¹ (Within most_atoms) q (l.ends k i).1

  pub first_adds : Adds keys a b
  first_adds = record { there = omega (arith, a_within, s.size); other = b_within.high; room = omega (arith, s.most a a_within, l.few) }

  module _ {once : List ℕ} (e : once ≡ added keys a b) where
    at_once : (v : ℕ) → get_or once v 0 ≡ cond (eqb a v) (unit + b) 0 + get_or keys v 0
    at_once v = rw e (more_at keys a (unit + b) v (omega (arith, a_within, s.size)))

    size_once : length once ≡ places
    size_once = rw e (length-set keys a (get_or keys a 0 + (unit + b))) ∙ s.size

    pub second_adds : Adds once b a
    second_adds = record {
      there = omega (arith, b_within, size_once);
      other = a_within.high;
      room = omega (arith, at_once b, if_most (eqb a b) (unit + b), b_within, s.most b b_within, l.few);
    }

    pub keying_next : {twice : List ℕ} → twice ≡ added once b a → Keying xs root (k + 1) twice
    unfolding mark
    keying_next {twice} f = record {
      size = rw f (length-set once b (get_or once b 0 + (unit + a))) ∙ size_once;
      is = λ v h. omega (arith, both v, ap₂ (λ (x y : ℕ). mark v (bond x y)) p q, rest_sum (mark v) xs k i, s.is v h, ap (λ (j : ℕ). tally (rest xs j) v) after);
      most = λ v h. omega (arith, both v, if_most (eqb a v) (unit + b), if_most (eqb b v) (unit + a), a_within, b_within, s.most v h);
    }
      where
        after : k + 1 ≡ suc k
        after = omega arith

        both : (v : ℕ) → get_or twice v 0 ≡ cond (eqb a v) (unit + b) 0 + cond (eqb b v) (unit + a) 0 + get_or keys v 0
        both v = omega (arith, ap (λ (l : List ℕ). get_or l v 0) f, more_at once b (unit + a) v (omega (arith, b_within, size_once)), at_once v)

pub keying_end : {xs : List ℕ} {root k : ℕ} {keys : List ℕ} → Keying xs root k keys → length xs / 2 ≤ k → Keyed xs root keys
keying_end {xs} {root} {k} {keys} s l = record { size = s.size; is = λ v h. omega (arith, s.is v h, rest_over (mark v) xs k l) }

-- Laws. The climbing rule, across a joining bond: the distance of two placed atoms climbs from the later placement to its
-- parent. Assumes nothing.
use Prim.Native.Nat.{ℕ, zero, suc, ◌+◌, ◌-◌, ◌<◌}
use Rattle.std.proofs.Math.Logic.{⊎_elim}
use Rattle.std.specs.Prelude.{◌≡◌}
use Rattle.std.proofs.Common.{◌∙◌}
use Rattle.std.proofs.Math.Nat.{le-suc_iff}
use native.Mathlib.Omega.{arith}
use Rattle.graph.specs.Graph.{Graph, distance}
use Rattle.graph.specs.Assembly.{Join, written, Assembled, Placed}
use Rattle.graph.specs.Distance.{distance_sym}
use Rattle.graph.specs.Join.{distance_cross}
use Rattle.graph.specs.Climb.{apart, placed_within, placed_sooner, sooner, site_placed, written_molecule, core, block, site, own, here, behind, apart_old, climbed}

module _ {blocks : ℕ → Graph} {joins : ℕ → Join} (m : ℕ) (a : Assembled blocks joins (suc m)) where
  apart_on : {k i l j : ℕ} → Placed blocks m k i → l ≡ suc (suc m) → Placed blocks (suc m) l j
      → apart blocks joins (suc m) k i l j ≡ apart blocks joins m k i (joins (suc m)).parent (joins (suc m)).site + 1 + distance (blocks (suc m)) (joins (suc m)).own j
  unfolding written
  apart_on {j = j} p f q = rw (behind m a j f) (distance_cross (core m a) (block m a) (site m a) (own m a) (placed_within blocks joins p) (here m a f q))

-- THE CLIMBING RULE, of two placements: their atoms are joined by way of the later one's own atom and the atom of its parent.
module _ {blocks : ℕ → Graph} {joins : ℕ → Join} where
  pub apart_later : (last : ℕ) {k i l j : ℕ} → Assembled blocks joins last → Placed blocks last k i → Placed blocks last l j → k < l
      → apart blocks joins last k i l j ≡ apart blocks joins last k i (joins (l - 1)).parent (joins (l - 1)).site + 1 + distance (blocks (l - 1)) (joins (l - 1)).own j
  apart_later zero a p q h = absurd (omega (arith, p.number, q.number))
  apart_later (suc m) {k} {i} {l} {j} a p q h =
      let o : Placed blocks m k i = placed_sooner m (omega (arith, q.number)) p in
      ⊎_elim
      (λ s. let b = sooner m (omega arith) a in
      let above : 1 < l = omega (arith, p.number) in
      rw (apart_old m a o (climbed b above s)) (apart_old m a o (placed_sooner m s q) ∙ apart_later m b o (placed_sooner m s q) h))
      (λ s. let n : l - 1 ≡ suc m = omega arith in apart_on m a o s q ∙ rw (n, apart_old m a o (site_placed m a (omega arith))))
      (le-suc_iff.0 q.number.high)

  pub apart_earlier : (last : ℕ) {k i l j : ℕ} → Assembled blocks joins last → Placed blocks last k i → Placed blocks last l j → l < k
      → apart blocks joins last k i l j ≡ distance (blocks (k - 1)) i (joins (k - 1)).own + 1 + apart blocks joins last (joins (k - 1)).parent (joins (k - 1)).site l j
  apart_earlier last {k} {i} {l} {j} a p q h =
      let m = written_molecule last a in
      let b = (a.stands (k - 1) (omega (arith, q.number)) (omega (arith, p.number))).own in
      let r = placed_within blocks joins (climbed a (omega (arith, q.number)) p.number.high) in
      distance_sym m (placed_within blocks joins p) (placed_within blocks joins q)
      ∙ apart_later last a q p h
      ∙ omega (arith, distance_sym m (placed_within blocks joins q) r, distance_sym (a.molecules (k - 1) (omega (arith, p.number))) b p.atom)

-- Laws. Path counts follow their atoms, so D is the same and the contribution of each bond follows its bond. Assumes nothing.
use Prim.Native.Nat.{ℕ, zero, suc, ◌*◌, ◌/◌, ◌∣◌}
use Rattle.std.specs.Prelude.{Bool, ◌&&◌, ◌||◌, ◌≡◌, eqb}
use Rattle.std.proofs.Math.Bool.{cond, and_comm, or_comm, false}
use Rattle.std.proofs.Common.{⊎_elim, ◌∙◌}
use Rattle.std.proofs.Math.Path.{sym, ap, ap₂}
use Rattle.std.proofs.Math.Nat.{dvd_antisymm}
use native.Mathlib.Omega.{arith}
use Rattle.std.proofs.Math.ListN.{length}
use Rattle.graph.specs.Graph.{Graph, Bond, Within, Molecule, joins, bonded, distance}
use Rattle.graph.specs.Bonds.{joins_out}
use Rattle.graph.specs.Paths.{walks, shortest_paths, uses, passing_paths, path_count, paths_using, denominator, share}
use Rattle.graph.specs.Backwards.{power, walks-power, without, uses-power, count_sym, using_sym, count_dvd, denominator_dvd}
use Rattle.graph.specs.Matching.{Matching}
use Rattle.renumbered.specs.Renumbered.{Renumbered, Partners}
use Rattle.graph.proofs.MatchedLaws.{eqb-to, sum_same, pairs_same}
use Rattle.renumbered.proofs.Distances.{reversed, same_bonded, same_distance}

-- how many ways lead from i to j in k steps
power-to : {n m : ℕ} (p : Matching n m) (s t : ℕ → ℕ → Bool) → ((u v : ℕ) → Within n u → Within n v → s u v ≡ t (p.to u) (p.to v))
    → (k i j : ℕ) → Within n i → Within n j → power n s k i j ≡ power m t k (p.to i) (p.to j)
unfolding power
power-to p s t e zero i j hi hj = ap {B = ℕ} (λ (x : Bool). cond x 1 0) (eqb-to p i j hi hj)
power-to {n} {m} p s t e (suc k) i j hi hj =
    sum_same p (λ v. cond (t v (p.to j)) (power m t k (p.to i) v) 0)
    (λ v hv. ap₂ (λ (x : Bool) (y : ℕ). cond x y 0) (e v j hv hj) (power-to p s t e k i v hi hv))

-- where bonds are partners, one joins two atoms exactly where the other joins their partners
joins-to : {g h : Graph} (r : Renumbered g h) (e f : Bond) → Within g.atoms e.one → Within g.atoms e.two → Partners r e f
    → (u v : ℕ) → Within g.atoms u → Within g.atoms v → joins e u v ≡ joins f (r.numbers.to u) (r.numbers.to v)
unfolding joins
joins-to {g} r e f x y j u v hu hv =
    ⊎_elim
    (λ q. rw (q.0, q.1) (ap₂ ◌||◌ (ap₂ ◌&&◌ (one u hu) (two v hv)) (ap₂ ◌&&◌ (one v hv) (two u hu))))
    (λ q. rw (q.0, q.1) (or_comm (eqb e.one u && eqb e.two v) (eqb e.one v && eqb e.two u)
    ∙ ap₂ ◌||◌ (and_comm (eqb e.one v) (eqb e.two u) ∙ ap₂ ◌&&◌ (two u hu) (one v hv)) (and_comm (eqb e.one u) (eqb e.two v) ∙ ap₂ ◌&&◌ (two v hv) (one u hu))))
    (joins_out f (r.numbers.to e.one) (r.numbers.to e.two) j)
  where
    one : (z : ℕ) → Within g.atoms z → eqb e.one z ≡ eqb (r.numbers.to e.one) (r.numbers.to z)
    one z a = eqb-to r.numbers e.one z x a

    two : (z : ℕ) → Within g.atoms z → eqb e.two z ≡ eqb (r.numbers.to e.two) (r.numbers.to z)
    two z a = eqb-to r.numbers e.two z y a

module _ {g h : Graph} (m : Molecule g) (w : Molecule h) (r : Renumbered g h) {i j : ℕ} (hi : Within g.atoms i) (hj : Within g.atoms j) where
  -- path counts follow their atoms
  pub same_count : path_count g i j ≡ path_count h (r.numbers.to i) (r.numbers.to j)
  unfolding path_count shortest_paths
  same_count =
      let d = distance g i j in
      let x = r.numbers.to i in
      let y = r.numbers.to j in
      walks-power g d i j ∙ power-to r.numbers (bonded g) (bonded h) (same_bonded r) d i j hi hj ∙ sym (walks-power h d x y)
      ∙ ap (λ (k : ℕ). length (walks h k x y)) (same_distance m w r hi hj)

  -- and so do the counts of those that use a bond
  same_using : (e f : Bond) → Within g.atoms e.one → Within g.atoms e.two → Partners r e f → paths_using g e i j ≡ paths_using h f (r.numbers.to i) (r.numbers.to j)
  unfolding paths_using shortest_paths
  same_using e f a b t =
      let d = distance g i j in
      let x = r.numbers.to i in
      let y = r.numbers.to j in
      let same : passing_paths (uses e) (walks g d i j) ≡ passing_paths (uses f) (walks h d x y) =
      omega (
        arith,
        uses-power g e d i j,
        uses-power h f d x y,
        power-to r.numbers (bonded g) (bonded h) (same_bonded r) d i j hi hj,
        power-to r.numbers (without g e) (without h f)
            (λ u v hu hv. ap₂ (λ (x y : Bool). cond x false y) (joins-to r e f a b t u v hu hv) (same_bonded r u v hu hv)) d i j hi hj,
      ) in
      same ∙ ap (λ (k : ℕ). passing_paths (uses f) (walks h k x y)) (same_distance m w r hi hj)

-- D of one divides D of the other
divides : {g h : Graph} → Molecule g → Molecule h → Renumbered g h → denominator g ∣ denominator h
divides {g} {h} m w r =
    (denominator_dvd m (denominator h)).1 (λ i j p.
    let hi : Within g.atoms i = record { low = p.low; high = omega arith } in
    let hj : Within g.atoms j = record { low = omega arith; high = p.high } in
    rw (same_count m w r hi hj) (count_dvd w (r.numbers.there i hi) (r.numbers.there j hj)))

module _ {g h : Graph} (m : Molecule g) (w : Molecule h) (r : Renumbered g h) where
  -- D is the same
  pub same_denominator : denominator g ≡ denominator h
  same_denominator = dvd_antisymm (divides m w r) (divides w m (reversed r))

  -- THE LAW: a bond's contribution follows the bond
  pub same_share : (e f : Bond) → Within g.atoms e.one → Within g.atoms e.two → Partners r e f → share g e ≡ share h f
  unfolding share
  same_share e f a b t =
      pairs_same r.numbers (λ i j. paths_using h f i j * (denominator h / path_count h i j))
      (record { either = λ i j x y. ap₂ (λ (a b : ℕ). a * (denominator h / b)) (using_sym w x y f) (count_sym w x y) })
      (λ i j x y. ap₂ ◌*◌ (same_using m w r x y e f a b t) (ap₂ ◌/◌ same_denominator (same_count m w r x y)))

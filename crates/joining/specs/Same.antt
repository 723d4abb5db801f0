-- Laws. What is composed up to an index depends on the parts and the joins up to it. Assumes nothing.
use Prim.Native.Nat.{ℕ, zero, suc, ◌+◌, ◌-◌, ◌≤◌}
use Rattle.std.specs.Prelude.{Bool, true, false, ◌≡◌, eqb}
use Rattle.std.proofs.Math.Path.{refl, ap}
use Rattle.std.proofs.Common.{arith}
use Rattle.graph.specs.Assembly.{Join}
use Rattle.joining.specs.Parts.{Part, far_in, sight_in, six_in}

module _ (p q : ℕ → Part) (j h : ℕ → Join) where
  pub record SameTables (m : ℕ) : Type 0 where
    pub parts : (k : ℕ) → k ≤ m → p k ≡ q k
    pub joins : (k : ℕ) → k ≤ m → j k ≡ h k

  fewer : {m : ℕ} → SameTables (suc m) → SameTables m
  fewer a = record { parts = λ k l. a.parts k (omega arith); joins = λ k l. a.joins k (omega arith) }

  far_alike : (m : ℕ) → SameTables m → (k i l n : ℕ) → far_in p j m k i l n ≡ far_in q h m k i l n
  unfolding far_in
  far_alike zero a k i l n = ap (λ (x : Part). x.far i n) (a.parts 0 (omega arith))
  far_alike (suc m) a k i l n = go (far_alike m (fewer a)) (eqb k (suc m)) refl (eqb l (suc m)) refl
    where
      P : p (suc m) ≡ q (suc m)
      P = a.parts (suc m) (omega arith)

      J : j (suc m) ≡ h (suc m)
      J = a.joins (suc m) (omega arith)

      go : ((k i l n : ℕ) → far_in p j m k i l n ≡ far_in q h m k i l n) → (x : Bool) → eqb k (suc m) ≡ x → (y : Bool) → eqb l (suc m) ≡ y
          → far_in p j (suc m) k i l n ≡ far_in q h (suc m) k i l n
      go f true e true g = rw (e, far_in) (rw g (rw P))
      go f true e false g = rw (e, far_in) (rw g (rw (P, J) (ap (λ (x : ℕ). (q (suc m)).far (h (suc m)).own i + 1 + x) (f ((h (suc m)).parent - 1) (h (suc m)).site l n))))
      go f false e true g = rw (e, far_in) (rw g (rw (P, J) (ap (λ (x : ℕ). x + 1 + (q (suc m)).far (h (suc m)).own n) (f ((h (suc m)).parent - 1) (h (suc m)).site k i))))
      go f false e false g = rw (e, far_in) (rw g (f k i l n))

  sight_alike : (m : ℕ) → SameTables m → (k i : ℕ) → sight_in p j m k i ≡ sight_in q h m k i
  unfolding sight_in
  sight_alike zero a k i = ap (λ (x : Part). x.sight i) (a.parts 0 (omega arith))
  sight_alike (suc m) a k i = go (sight_alike m (fewer a)) (eqb k (suc m)) refl
    where
      P : p (suc m) ≡ q (suc m)
      P = a.parts (suc m) (omega arith)

      J : j (suc m) ≡ h (suc m)
      J = a.joins (suc m) (omega arith)

      go : ((k i : ℕ) → sight_in p j m k i ≡ sight_in q h m k i) → (x : Bool) → eqb k (suc m) ≡ x → sight_in p j (suc m) k i ≡ sight_in q h (suc m) k i
      go f true e = rw (e, sight_in) (rw (P, J, f ((h (suc m)).parent - 1) (h (suc m)).site))
      go f false e = rw (e, sight_in) (rw (P, J, f k i, far_alike m (fewer a) ((h (suc m)).parent - 1) (h (suc m)).site k i))

  pub six_alike : (m : ℕ) → SameTables m → six_in p j m ≡ six_in q h m
  unfolding six_in
  six_alike zero a = ap (λ (x : Part). x.six) (a.parts 0 (omega arith))
  six_alike (suc m) a =
      rw (a.parts (suc m) (omega arith), a.joins (suc m) (omega arith), six_alike m (fewer a), sight_alike m (fewer a) ((h (suc m)).parent - 1) (h (suc m)).site)

-- Laws. The weighted count over sets of atoms, each atom at weight (1, 1), is the Merrifield-Simmons index. Assumes nothing.
use Prim.Native.Nat.{ℕ, zero, suc, ◌+◌, ◌≤◌}
use mathlib.Core.Bool.{Bool, true, false, not, ◌&&◌, ◌||◌, cond, true≢false, false≢true, or_assoc, and-false}
use mathlib.Core.List.{List, [], ◌∷◌}
use mathlib.Core.Logic.{inl, ⊎_elim}
use mathlib.Core.Path.{◌≡◌, refl, sym, ap, ap₂, subst, ◌∙◌}
use native.Mathlib.Decide.{dec_le}
use native.Mathlib.Omega.{arith}
use lib.Dec.{eqb, leb}
use borrow.Author.Tests.{eq-eqb, ne_eqb, eqb-true, le-leb, lt-leb}
use Rattle.graph.specs.Graph.{Graph, Bond, any_joins, bonded}
use Rattle.graph.specs.Bonds.{both, both_true, one_of, first_of, second_of, any_out, any_head, any_tail, any_none, bonded_sym}
use Rattle.sets.specs.Sets.{subsets, passing, some, apart, sets_apart, atoms_down, merrifield_simmons}
use Rattle.sets.proofs.Counts.{Proper, count_cong, count_first, count_empty, some_cong}
use Rattle.sets.specs.Merging.{weight}
use Rattle.sets.proofs.Weigh.{mix, gone, where_so, at_one, at_two, weigh, weigh_cong, weigh-mix, weigh_none, product_ones}
use Rattle.sets.specs.declared.Weight.{Weight}

or_false : (t : Bool) → (t || false) ≡ t
or_false true = refl
or_false false = refl

-- an atom that is in, or out
sure : Bool → Weight
sure true = weight 0 1
sure false = weight 1 0

-- whether both ends of some bond are in
clash : List Bond → (ℕ → Bool) → Bool
clash bs is_in = some (λ b. is_in b.one && is_in b.two) bs

clash_cong : (bs : List Bond) {p q : ℕ → Bool} → ((v : ℕ) → p v ≡ q v) → clash bs p ≡ clash bs q
unfolding clash
clash_cong bs e = some_cong bs (λ b. ap₂ ◌&&◌ (e b.one) (e b.two))

module _ (b : Bond) (differ : b.one ≡ b.two → ⊥) (is_in : ℕ → Bool) where
  -- a bond that goes the way of its first end changes nothing, unless both ends are in
  goes : (way : Bool) → is_in b.one ≡ way → (way && is_in b.two) ≡ false → (v : ℕ) → gone false way b v (sure (is_in v)) ≡ sure (is_in v)
  unfolding gone sure
  goes way f g v = go (eqb b.one v) refl (eqb b.two v) refl (is_in v) refl way f g
    where
      go : (s : Bool) → eqb b.one v ≡ s → (t : Bool) → eqb b.two v ≡ t → (u : Bool) → is_in v ≡ u → (way : Bool) → is_in b.one ≡ way → (way && is_in b.two) ≡ false
          → where_so false s (at_one false way) (where_so false t (at_two false way) (sure u)) ≡ sure u
      go true e true h u k way f g = absurd (differ (eqb-true b.one v e ∙ sym (eqb-true b.two v h)))
      go true e false h true k true f g = refl
      go true e false h true k false f g = absurd (true≢false (sym k ∙ ap is_in (sym (eqb-true b.one v e)) ∙ f))
      go true e false h false k true f g = absurd (false≢true (sym k ∙ ap is_in (sym (eqb-true b.one v e)) ∙ f))
      go true e false h false k false f g = refl
      go false e true h true k true f g = absurd (true≢false (sym k ∙ ap is_in (sym (eqb-true b.two v h)) ∙ g))
      go false e true h true k false f g = refl
      go false e true h false k true f g = refl
      go false e true h false k false f g = refl
      go false e false h u k way f g = refl

  -- any other way counts nothing
  stops_one : (way : Bool) → is_in b.one ≡ not way → gone false way b b.one (sure (is_in b.one)) ≡ weight 0 0
  unfolding gone sure
  stops_one true f = rw (f, eq-eqb b.one b.one refl, ne_eqb b.two b.one (λ e. differ (sym e)))
  stops_one false f = rw (f, eq-eqb b.one b.one refl, ne_eqb b.two b.one (λ e. differ (sym e)))

  stops_two : is_in b.two ≡ true → gone false true b b.two (sure (is_in b.two)) ≡ weight 0 0
  unfolding gone sure
  stops_two f = rw (f, eq-eqb b.two b.two refl, ne_eqb b.one b.two differ)

-- where each atom is in or out, the count is 1 or 0
surely : (n : ℕ) (bs : List Bond) (is_in : ℕ → Bool) → Proper n bs → weigh false n bs (λ v. sure (is_in v)) ≡ cond (not (clash bs is_in)) 1 0
unfolding weigh sure clash some
surely n [] is_in h = product_ones n (λ v. (sure (is_in v)).x + (sure (is_in v)).y) (λ v w. one (is_in v))
  where
    one : (t : Bool) → (sure t).x + (sure t).y ≡ 1
    one true = refl
    one false = refl
surely n (b ∷ bs) is_in (one, two, differ, h) = go (is_in b.one) refl (is_in b.two) refl (surely n bs is_in h)
  where
    r : ℕ
    r = cond (not (clash bs is_in)) 1 0

    go : (s : Bool) → is_in b.one ≡ s → (t : Bool) → is_in b.two ≡ t → weigh false n bs (λ v. sure (is_in v)) ≡ r
        → weigh false n bs (λ v. gone false false b v (sure (is_in v))) + weigh false n bs (λ v. gone false true b v (sure (is_in v))) ≡ cond (not ((s && t) || clash bs is_in)) 1 0
    go false e t f i =
        omega (arith, weigh_cong false n bs (λ v w. goes b differ is_in false e refl v), weigh_none false n bs b.one (λ v. gone false true b v (sure (is_in v))) one (stops_one b differ is_in true e), i)
    go true e false f i =
        omega (arith, weigh_cong false n bs (λ v w. goes b differ is_in true e f v), weigh_none false n bs b.one (λ v. gone false false b v (sure (is_in v))) one (stops_one b differ is_in false e), i)
    go true e true f i =
        omega (arith, weigh_none false n bs b.two (λ v. gone false true b v (sure (is_in v))) two (stops_two b differ is_in f), weigh_none false n bs b.one (λ v. gone false false b v (sure (is_in v))) one (stops_one b differ is_in false e))

-- the atoms 1 to k may be in or out, and the others are
up_to : ℕ → (ℕ → Bool) → ℕ → Weight
up_to k is_in v = cond (leb v k) (weight 1 1) (sure (is_in v))

unfoldable pub member : List ℕ → ℕ → Bool
member s v = some (eqb v) s

module _ (n : ℕ) (bs : List Bond) (proper : Proper n bs) where
  by_atoms : (k : ℕ) (is_in : ℕ → Bool) → k ≤ n → ((v : ℕ) → v ≤ k → is_in v ≡ false)
      → weigh false n bs (up_to k is_in) ≡ passing (λ s. not (clash bs (λ v. is_in v || member s v))) (subsets (atoms_down k))
  unfolding up_to atoms_down member some sure
  by_atoms zero is_in l out =
      weigh_cong false n bs (λ v w. ap (λ (t : Bool). cond t (weight 1 1) (sure (is_in v))) (lt-leb v 0 w.low))
      ∙ surely n bs is_in proper
      ∙ ap (λ (t : Bool). cond {A = ℕ} (not t) 1 0) (clash_cong bs (λ v. sym (or_false (is_in v))))
      ∙ sym (count_empty (λ s. not (clash bs (λ v. is_in v || member s v))))
  by_atoms (suc k) is_in l out =
      weigh-mix false n bs (suc k) (up_to (suc k) is_in) (up_to k is_in) (up_to k more) 1 1 (record { low = omega arith; high = l }) (λ u i ne. (same u ne, same u ne ∙ also u ne)) here
      ∙ omega (
        arith,
        by_atoms k is_in (omega arith) (λ v h. out v (omega arith)),
        by_atoms k more (omega arith) (λ v h. still v h),
        count_first (λ s. not (clash bs (λ v. is_in v || member s v))) (suc k) (atoms_down k),
        count_cong (subsets (atoms_down k)) (λ s. ap not (clash_cong bs (λ v. or_assoc (is_in v) (eqb v (suc k)) (member s v)))),
      )
    where
      more : ℕ → Bool
      more v = is_in v || eqb v (suc k)

      still : (v : ℕ) → v ≤ k → more v ≡ false
      still v h = rw (out v (omega arith), ne_eqb v (suc k) (λ e. omega arith))

      same : (u : ℕ) → (u ≡ suc k → ⊥) → up_to (suc k) is_in u ≡ up_to k is_in u
      same u ne =
          let e : leb u (suc k) ≡ leb u k = elim (dec_le u k) [
            | yes h ↦ le-leb u (suc k) (omega arith) ∙ sym (le-leb u k h)
            | no h ↦ lt-leb u (suc k) (omega arith) ∙ sym (lt-leb u k (omega arith))
          ] in
          ap (λ (t : Bool). cond t (weight 1 1) (sure (is_in u))) e

      also : (u : ℕ) → (u ≡ suc k → ⊥) → up_to k is_in u ≡ up_to k more u
      also u ne = ap (λ (t : Bool). cond (leb u k) (weight 1 1) (sure t)) (sym (ap (λ (t : Bool). is_in u || t) (ne_eqb u (suc k) ne) ∙ or_false (is_in u)))

      here : up_to (suc k) is_in (suc k) ≡ mix 1 (up_to k is_in (suc k)) 1 (up_to k more (suc k))
      here = rw (le-leb (suc k) (suc k) (omega arith), lt-leb (suc k) k (omega arith), out (suc k) (omega arith), eq-eqb (suc k) (suc k) refl)

module _ (g : Graph) where
  -- two bonded atoms of a set are found, and what is found are two
  pub found : (s : List ℕ) (u v : ℕ) → (u ≡ v → ⊥) → member s u ≡ true → member s v ≡ true → bonded g u v ≡ true → apart (bonded g) s ≡ false
  unfolding member some apart
  found [] u v ne a b e = absurd (false≢true a)
  found (x ∷ s) u v ne a b e =
      ⊎_elim
      (λ p. ⊎_elim (λ q. absurd (ne (eqb-true u x p ∙ sym (eqb-true v x q)))) (λ q. hit (some_in s v q (subst (λ (z : ℕ). bonded g z v ≡ true) (eqb-true u x p) e))) (one_of (eqb v x) (some (eqb v) s) b))
      (λ p. ⊎_elim (λ q. hit (some_in s u p (subst (λ (z : ℕ). bonded g z u ≡ true) (eqb-true v x q) (bonded_sym g u v e)))) (λ q. later (found s u v ne p q e)) (one_of (eqb v x) (some (eqb v) s) b))
      (one_of (eqb u x) (some (eqb u) s) a)
    where
      hit : some (bonded g x) s ≡ true → (not (some (bonded g x) s) && apart (bonded g) s) ≡ false
      hit h = rw h

      later : apart (bonded g) s ≡ false → (not (some (bonded g x) s) && apart (bonded g) s) ≡ false
      later h = rw h (and-false (not (some (bonded g x) s)))

      some_in : (s : List ℕ) (y : ℕ) → some (eqb y) s ≡ true → bonded g x y ≡ true → some (bonded g x) s ≡ true
      some_in [] y m e = absurd (false≢true m)
      some_in (z ∷ s) y m e =
          ⊎_elim (λ q. first_of (bonded g x z) (some (bonded g x) s) (subst (λ (i : ℕ). bonded g x i ≡ true) (eqb-true y z q) e))
          (λ q. second_of (bonded g x z) (some (bonded g x) s) (some_in s y q e)) (one_of (eqb y z) (some (eqb y) s) m)

  -- a pair of bonded members
  Pair : List ℕ → Type 0
  Pair s = (u v : ℕ) × (member s u ≡ true) × (member s v ≡ true) × (bonded g u v ≡ true)

  lost : (s : List ℕ) → apart (bonded g) s ≡ false → Pair s
  unfolding member some apart Pair
  lost [] e = absurd (true≢false e)
  lost (x ∷ s) e = go (some (bonded g x) s) refl e (lost s)
    where
      out : (s : List ℕ) → some (bonded g x) s ≡ true → (y : ℕ) × (some (eqb y) s ≡ true) × (bonded g x y ≡ true)
      out [] e = absurd (false≢true e)
      out (z ∷ s) e =
          ⊎_elim (λ q. (z, first_of (eqb z z) (some (eqb z) s) (eq-eqb z z refl), q))
          (λ q. let r = out s q in (r.0, second_of (eqb r.0 z) (some (eqb r.0) s) r.1, r.2)) (one_of (bonded g x z) (some (bonded g x) s) e)

      go : (t : Bool) → some (bonded g x) s ≡ t → (not t && apart (bonded g) s) ≡ false → (apart (bonded g) s ≡ false → Pair s) → Pair (x ∷ s)
      go true h e i = let r = out s h in (x, r.0, first_of (eqb x x) (some (eqb x) s) (eq-eqb x x refl), second_of (eqb r.0 x) (some (eqb r.0) s) r.1, r.2)
      go false h e i = let r = i e in (r.0, r.1, second_of (eqb r.0 x) (some (eqb r.0) s) r.2, second_of (eqb r.1 x) (some (eqb r.1) s) r.3, r.4)

-- a clash is a bond between members
clash_out : (n : ℕ) (bs : List Bond) (m : ℕ → Bool) → Proper n bs → clash bs m ≡ true → (u v : ℕ) × (u ≡ v → ⊥) × (m u ≡ true) × (m v ≡ true) × (any_joins bs u v ≡ true)
unfolding clash some
clash_out n [] m h e = absurd (false≢true e)
clash_out n (b ∷ bs) m (one, two, differ, h) e =
    ⊎_elim (λ q. let r = both (m b.one) (m b.two) q in (b.one, b.two, differ, r.0, r.1, any_head b bs b.one b.two (inl (refl, refl))))
    (λ q. let r = clash_out n bs m h q in (r.0, r.1, r.2, r.3, r.4, any_tail b bs r.0 r.1 r.5))
    (one_of (m b.one && m b.two) (some (λ c. m c.one && m c.two) bs) e)

clash_in : (bs : List Bond) (m : ℕ → Bool) (u v : ℕ) → m u ≡ true → m v ≡ true → any_joins bs u v ≡ true → clash bs m ≡ true
unfolding clash some
clash_in [] m u v p q e = absurd (any_none u v e)
clash_in (b ∷ bs) m u v p q e =
    ⊎_elim
    (λ j. first_of (m b.one && m b.two) (some (λ c. m c.one && m c.two) bs) (⊎_elim (λ r. rw (r.0, r.1) (both_true (m u) (m v) p q)) (λ r. rw (r.0, r.1) (both_true (m v) (m u) q p)) j))
    (λ j. second_of (m b.one && m b.two) (some (λ c. m c.one && m c.two) bs) (clash_in bs m u v p q j))
    (any_out b bs u v e)

agree : (n : ℕ) (g : Graph) (s : List ℕ) → Proper n g.bonds → apart (bonded g) s ≡ not (clash g.bonds (member s))
unfolding bonded Pair
agree n g s h = go (clash g.bonds (member s)) refl (apart (bonded g) s) refl
  where
    go : (t : Bool) → clash g.bonds (member s) ≡ t → (a : Bool) → apart (bonded g) s ≡ a → a ≡ not t
    go true e true f = let r = clash_out n g.bonds (member s) h e in absurd (true≢false (sym f ∙ found g s r.0 r.1 r.2 r.3 r.4 r.5))
    go true e false f = refl
    go false e true f = refl
    go false e false f = let r = lost g s f in absurd (false≢true (sym e ∙ clash_in g.bonds (member s) r.0 r.1 r.2 r.3 r.4))

-- the count over all sets
pub of_atoms : (g : Graph) → Proper g.atoms g.bonds → merrifield_simmons g ≡ weigh false g.atoms g.bonds (λ v. weight 1 1)
unfolding merrifield_simmons sets_apart up_to
of_atoms g h =
    count_cong (subsets (atoms_down g.atoms)) (λ s. agree g.atoms g s h)
    ∙ sym (by_atoms g.atoms g.bonds h g.atoms (λ v. false) (omega arith) (λ v l. refl))
    ∙ weigh_cong false g.atoms g.bonds (λ v w. ap (λ (t : Bool). cond t (weight 1 1) (sure false)) (le-leb v g.atoms w.high))

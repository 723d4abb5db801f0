-- Laws. The weighted count over sets of bonds, each atom at weight (1, 1), is the Hosoya index. Assumes nothing.
use Prim.Native.Nat.{ℕ, ◌+◌, ◌*◌}
use mathlib.Core.Bool.{Bool, true, false, not, ◌&&◌, ◌||◌, cond, true≢false}
use mathlib.Core.List.{List, [], ◌∷◌}
use mathlib.Core.Path.{◌≡◌, refl, sym, ap, ap₂, ◌∙◌}
use native.Mathlib.Omega.{arith}
use lib.Dec.{eqb}
use borrow.Author.Tests.{eq-eqb, ne_eqb, eqb-true}
use Rattle.graph.specs.Graph.{Graph, Bond}
use Rattle.sets.specs.Sets.{subsets, passing, some, apart, sets_apart, touches, share_atom, hosoya}
use Rattle.sets.proofs.Counts.{Proper, count_cong, count_none, count_first, count_empty, some_cong, some_or, or_four}
use Rattle.sets.specs.Merging.{weight}
use Rattle.sets.proofs.Weigh.{gone, where_so, weigh, weigh_cong, weigh_none, product_ones}
use Rattle.graph.specs.Bonds.{one_of}
use Rattle.reply.specs.Chain.{neither}
use mathlib.Core.Logic.{⊎_elim}
use Rattle.sets.specs.declared.Weight.{Weight}

-- an end of a bond is used
hit : (ℕ → Bool) → Bond → Bool
hit used b = used b.one || used b.two

-- a set of bonds that share no atom, and use none that is used
free : (ℕ → Bool) → List Bond → Bool
free used s = not (some (hit used) s) && apart share_atom s

-- a used atom counts 1 as long as no bond uses it
spent : Bool → Weight
spent used = cond used (weight 1 0) (weight 1 1)

and_false : (t : Bool) → (t && false) ≡ false
and_false true = refl
and_false false = refl

-- left out, a bond changes nothing
out_same : (b : Bond) (v : ℕ) (p : Weight) → gone true false b v p ≡ p
unfolding gone
out_same b v p = go (eqb b.one v) (eqb b.two v)
  where
    once : weight (1 * p.x + 0 * p.y) (1 * p.y) ≡ p
    once = ap₂ weight (omega arith) (omega arith)

    go : (s t : Bool) → where_so true s (weight 1 0) (where_so true t (weight 1 0) p) ≡ p
    go true true = ap₂ weight (omega arith) (omega arith)
    go true false = once
    go false true = once
    go false false = refl

module _ (b : Bond) (differ : b.one ≡ b.two → ⊥) (used : ℕ → Bool) where
  more : ℕ → Bool
  more v = used v || touches b v

  -- a bond at an atom that is used counts nothing
  used-one : used b.one ≡ true → gone true true b b.one (spent (used b.one)) ≡ weight 0 0
  unfolding gone spent
  used-one u = rw (u, eq-eqb b.one b.one refl, ne_eqb b.two b.one (λ e. differ (sym e)))

  used-two : used b.two ≡ true → gone true true b b.two (spent (used b.two)) ≡ weight 0 0
  unfolding gone spent
  used-two u = rw (u, eq-eqb b.two b.two refl, ne_eqb b.one b.two differ)

  -- a bond between atoms that are not used uses them
  uses : used b.one ≡ false → used b.two ≡ false → (v : ℕ) → gone true true b v (spent (used v)) ≡ spent (more v)
  unfolding gone spent more touches
  uses f g v = go (eqb b.one v) refl (eqb b.two v) refl (used v) refl
    where
      go : (s : Bool) → eqb b.one v ≡ s → (t : Bool) → eqb b.two v ≡ t → (u : Bool) → used v ≡ u
          → where_so true s (weight 0 1) (where_so true t (weight 0 1) (cond u (weight 1 0) (weight 1 1))) ≡ cond (u || (s || t)) (weight 1 0) (weight 1 1)
      go true e true h u k = absurd (differ (eqb-true b.one v e ∙ sym (eqb-true b.two v h)))
      go true e false h true k = absurd (let z : true ≡ false = sym k ∙ ap used (sym (eqb-true b.one v e)) ∙ f in true≢false z)
      go true e false h false k = refl
      go false e true h true k = absurd (let z : true ≡ false = sym k ∙ ap used (sym (eqb-true b.two v h)) ∙ g in true≢false z)
      go false e true h false k = refl
      go false e false h true k = refl
      go false e false h false k = refl

  -- a set with b in it
  set_more : (s : List Bond) → hit used b ≡ false → free used (b ∷ s) ≡ free more s
  unfolding free some apart hit more share_atom
  set_more s h =
      rw (h, meets) (split (some (hit used) s) (some (share_atom b) s) (apart share_atom s))
    where
      split : (p q r : Bool) → (not p && (not q && r)) ≡ (not (p || q) && r)
      split true q r = refl
      split false q r = refl

      meets : some (hit more) s ≡ (some (hit used) s || some (share_atom b) s)
      meets = some_cong s (λ c. or_four (used c.one) (touches b c.one) (used c.two) (touches b c.two)) ∙ some_or (hit used) (share_atom b) s

  set_hit : (s : List Bond) → hit used b ≡ true → free used (b ∷ s) ≡ false
  unfolding free some
  set_hit s h = rw h

-- sets of the bonds that use no used atom
by_used : (n : ℕ) (bs : List Bond) (used : ℕ → Bool) → Proper n bs → passing (free used) (subsets bs) ≡ weigh true n bs (λ v. spent (used v))
unfolding weigh free some apart spent hit
by_used n [] used h = count_empty (free used) ∙ none ∙ sym (product_ones n (λ v. (spent (used v)).x) (λ v w. one (used v)))
  where
    none : cond {A = ℕ} (free used []) 1 0 ≡ 1
    none = refl

    one : (t : Bool) → (spent t).x ≡ 1
    one true = refl
    one false = refl
by_used n (b ∷ bs) used (one, two, differ, h) =
    count_first (free used) b bs
    ∙ ap₂ ◌+◌ (by_used n bs used h ∙ sym (weigh_cong true n bs (λ v w. out_same b v (spent (used v))))) (go (hit used b) refl (by_used n bs (more b differ used) h))
  where
    go : (t : Bool) → hit used b ≡ t → passing (free (more b differ used)) (subsets bs) ≡ weigh true n bs (λ v. spent (more b differ used v))
        → passing (λ s. free used (b ∷ s)) (subsets bs) ≡ weigh true n bs (λ v. gone true true b v (spent (used v)))
    go true e i =
        count_cong (subsets bs) (λ s. set_hit b differ used s e) ∙ count_none (subsets bs)
        ∙ sym (⊎_elim (λ q. weigh_none true n bs b.one _ one (used-one b differ used q)) (λ q. weigh_none true n bs b.two _ two (used-two b differ used q)) (one_of (used b.one) (used b.two) e))
    go false e i =
        let r = neither (used b.one) (used b.two) e in
        count_cong (subsets bs) (λ s. set_more b differ used s e) ∙ i ∙ sym (weigh_cong true n bs (λ v w. uses b differ used r.0 r.1 v))

-- the count over all sets
pub of_bonds : (g : Graph) → Proper g.atoms g.bonds → hosoya g ≡ weigh true g.atoms g.bonds (λ v. weight 1 1)
unfolding hosoya sets_apart some hit free spent
of_bonds g h = count_cong (subsets g.bonds) all ∙ by_used g.atoms g.bonds (λ v. false) h
  where
    none : (s : List Bond) → some (hit (λ v. false)) s ≡ false
    none [] = refl
    none (b ∷ s) = none s

    all : (s : List Bond) → apart share_atom s ≡ free (λ v. false) s
    all s = rw (none s)

-- Laws. Ways to list a molecule again: with its bonds in another order or from the other end, with other numbers, and one way after another. Assumes nothing.
use Rattle.std.specs.Prelude.{ℕ, true, List, [], ◌∷◌, ◌≡◌, refl}
use Rattle.std.proofs.Common.{inl, inr, ⊎_elim, sym, ◌∙◌, ap, ap₂}
use Rattle.std.proofs.Math.Logic.{⊎_map}
use Rattle.graph.specs.Graph.{Graph, Bond, bond, Sound, any_joins, bonded}
use Rattle.graph.specs.Bonds.{any_out, any_head, any_tail, any_none}
use Rattle.graph.specs.Walk.{far_end}
use Rattle.graph.specs.Matching.{Matching}
use Rattle.renumbered.specs.Renumbered.{Renumbered}

-- the same atoms, and bonds that join the same: in any order, either end first
pub relisted : (n : ℕ) (bs cs : List Bond) → ((u v : ℕ) → any_joins bs u v ≡ any_joins cs u v) → Renumbered (record { atoms = n; bonds = bs }) (record { atoms = n; bonds = cs })
unfolding bonded
relisted n bs cs e = record {
  numbers = record { to = λ v. v; back = λ v. v; there = λ v w. w; here = λ v w. w; home = λ v w. refl; away = λ v w. refl };
  carried = λ u v j. sym (e u v) ∙ j;
  brought = λ u v j. e u v ∙ j;
}

-- one way after another
pub after : {g h k : Graph} → Renumbered g h → Renumbered h k → Renumbered g k
after r q =
    let a = r.numbers in
    let b = q.numbers in
    record {
      numbers = record {
        to = λ v. b.to (a.to v);
        back = λ v. a.back (b.back v);
        there = λ v w. b.there (a.to v) (a.there v w);
        here = λ v w. a.here (b.back v) (b.here v w);
        home = λ v w. ap a.back (b.home (a.to v) (a.there v w)) ∙ a.home v w;
        away = λ v w. ap b.to (a.away (b.back v) (b.here v w)) ∙ b.away v w;
      };
      carried = λ u v e. q.carried (a.to u) (a.to v) (r.carried u v e);
      brought = λ u v e. r.brought (b.back u) (b.back v) (q.brought u v e);
    }

-- other numbers for the ends of each bond
unfoldable pub renamed : (ℕ → ℕ) → List Bond → List Bond
renamed f [] = []
renamed f (b ∷ bs) = bond (f b.one) (f b.two) ∷ renamed f bs

renamed_in : (f : ℕ → ℕ) (bs : List Bond) (u v : ℕ) → any_joins bs u v ≡ true → any_joins (renamed f bs) (f u) (f v) ≡ true
unfolding renamed
renamed_in f [] u v e = absurd (any_none u v e)
renamed_in f (b ∷ bs) u v e =
    ⊎_elim
    (λ q. any_head (bond (f b.one) (f b.two)) (renamed f bs) (f u) (f v) (⊎_map (λ r. (ap f r.0, ap f r.1)) (λ r. (ap f r.0, ap f r.1)) q))
    (λ q. any_tail (bond (f b.one) (f b.two)) (renamed f bs) (f u) (f v) (renamed_in f bs u v q)) (any_out b bs u v e)

renamed_out : (f : ℕ → ℕ) (bs : List Bond) (u v : ℕ) → any_joins (renamed f bs) u v ≡ true → (x y : ℕ) × (u ≡ f x) × (v ≡ f y) × (any_joins bs x y ≡ true)
unfolding renamed
renamed_out f [] u v e = absurd (any_none u v e)
renamed_out f (b ∷ bs) u v e =
    ⊎_elim
    (⊎_elim (λ r. (b.one, b.two, sym r.0, sym r.1, any_head b bs b.one b.two (inl (refl, refl))))
    (λ r. (b.two, b.one, sym r.1, sym r.0, any_head b bs b.two b.one (inr (refl, refl)))))
    (λ q. let r = renamed_out f bs u v q in (r.0, r.1, r.2, r.3, any_tail b bs r.0 r.1 r.4))
    (any_out (bond (f b.one) (f b.two)) (renamed f bs) u v e)

-- a graph whose atoms got other numbers, each its own
pub renaming : {g : Graph} {m : ℕ} → Sound g → (p : Matching g.atoms m) → Renumbered g (record { atoms = m; bonds = renamed p.to g.bonds })
unfolding bonded
renaming {g} s p = record { numbers = p; carried = renamed_in p.to g.bonds; brought = λ u v e. from u v (renamed_out p.to g.bonds u v e) }
  where
    from : (u v : ℕ) → (x y : ℕ) × (u ≡ p.to x) × (v ≡ p.to y) × (any_joins g.bonds x y ≡ true) → any_joins g.bonds (p.back u) (p.back v) ≡ true
    from u v (x, y, a, b, j) =
        let home : (p.back u ≡ x) × (p.back v ≡ y) = (ap p.back a ∙ p.home x (s.ends x y j), ap p.back b ∙ p.home y (far_end s x y j)) in
        ap₂ (any_joins g.bonds) home.0 home.1 ∙ j

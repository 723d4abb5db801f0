-- Work. A numbering that is handed in, tried by computing: where the test passes, two graphs differ only in the numbering. Assumes nothing.
use Rattle.std.specs.Prelude.{ℕ, ◌-◌, Bool, true, ◌&&◌, not, List, [], ◌∷◌, ◌≡◌, eqb, get_or}
use Rattle.std.proofs.Common.{⊎_elim, sym, ◌∙◌, ap₂, eqb-true}
use Rattle.std.proofs.lemmas.Bool.{not-true}
use Rattle.graph.specs.Graph.{Graph, Bond, Within, any_joins, bonded, all_atoms}
use Rattle.graph.specs.Bonds.{both, any_out, any_none, bonded_sym}
use Rattle.graph.specs.Connected.{all_out}
use Rattle.reply.specs.Read.{is_outside}
use Rattle.block.specs.Faults.{inside}
use Rattle.renumbered.specs.Renumbered.{Renumbered}

-- each of 1 to n has a partner of 1 to m that leads home
unfoldable pub leads_home : ℕ → ℕ → (ℕ → ℕ) → (ℕ → ℕ) → Bool
leads_home n m to back = all_atoms n (λ v. not (is_outside m (to v)) && eqb (back (to v)) v)

-- each bond of a list has its partner in a graph
unfoldable pub all_carried : List Bond → Graph → (ℕ → ℕ) → Bool
all_carried [] h to = true
all_carried (b ∷ bs) h to = bonded h (to b.one) (to b.two) && all_carried bs h to

unfoldable pub is_renumbered : Graph → Graph → (ℕ → ℕ) → (ℕ → ℕ) → Bool
is_renumbered g h to back =
    (leads_home g.atoms h.atoms to back && leads_home h.atoms g.atoms back to) && (all_carried g.bonds h to && all_carried h.bonds g back)

-- the numbers that a list has for 1, 2, 3 and so on
unfoldable pub listed : List ℕ → ℕ → ℕ
listed l v = get_or l (v - 1) 0

at_home : (n m : ℕ) (to back : ℕ → ℕ) → leads_home n m to back ≡ true → (v : ℕ) → Within n v → (Within m (to v)) × (back (to v) ≡ v)
unfolding leads_home
at_home n m to back e v w =
    let (a, b) = both (not (is_outside m (to v))) (eqb (back (to v)) v) (all_out n (λ v. not (is_outside m (to v)) && eqb (back (to v)) v) e v w) in
    (inside m (to v) (not-true (is_outside m (to v)) a), eqb-true (back (to v)) v b)

all_carried_lem : (bs : List Bond) (h : Graph) (to : ℕ → ℕ) → all_carried bs h to ≡ true → (u v : ℕ) → any_joins bs u v ≡ true → bonded h (to u) (to v) ≡ true
unfolding all_carried
all_carried_lem [] h to e u v j = absurd (any_none u v j)
all_carried_lem (b ∷ bs) h to e u v j =
    let (p, q) = both (bonded h (to b.one) (to b.two)) (all_carried bs h to) e in
    ⊎_elim
    (⊎_elim (λ r. ap₂ (λ (x y : ℕ). bonded h (to x) (to y)) (sym r.0) (sym r.1) ∙ p)
    (λ r. bonded_sym h (to v) (to u) (ap₂ (λ (x y : ℕ). bonded h (to x) (to y)) (sym r.0) (sym r.1) ∙ p)))
    (all_carried_lem bs h to q u v) (any_out b bs u v j)

pub renumbered_by : (g h : Graph) (to back : ℕ → ℕ) → is_renumbered g h to back ≡ true → Renumbered g h
unfolding is_renumbered bonded
renumbered_by g h to back e =
    let n = g.atoms in
    let m = h.atoms in
    let (a, b) = both (leads_home n m to back && leads_home m n back to) (all_carried g.bonds h to && all_carried h.bonds g back) e in
    let (c, d) = both (leads_home n m to back) (leads_home m n back to) a in
    let (p, q) = both (all_carried g.bonds h to) (all_carried h.bonds g back) b in
    record {
      numbers = record {
        to = to;
        back = back;
        there = λ v w. (at_home n m to back c v w).0;
        here = λ v w. (at_home m n back to d v w).0;
        home = λ v w. (at_home n m to back c v w).1;
        away = λ v w. (at_home m n back to d v w).1;
      };
      carried = all_carried_lem g.bonds h to p;
      brought = all_carried_lem h.bonds g back q;
    }

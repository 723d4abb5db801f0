-- Laws. Tests on lists of bonds, as facts. Assumes nothing.
use Rattle.std.specs.Prelude.{ℕ, ◌+◌, Bool, true, false, ◌&&◌, ◌||◌, List, [], ◌∷◌, ◌++◌, ◌⊎◌, ◌≡◌, refl, eqb}
use Rattle.std.proofs.Math.Bool.{or-true, or_assoc, or_comm}
use Rattle.std.proofs.lemmas.Bool.{false≢true}
use Rattle.std.proofs.Common.{inl, inr, ⊎_elim, sym, ◌∙◌, ap, ap₂, arith, eqb-true, eq-eqb}
use Rattle.std.proofs.Math.Logic.{⊎_map}
use Rattle.graph.specs.Graph.{Graph, Bond, bond, joins, any_joins, bonded, degree}
use Rattle.graph.specs.Assembly.{shifted}

-- both parts of a test, one of them
pub both : (a b : Bool) → (a && b) ≡ true → (a ≡ true) × (b ≡ true)
both true b e = (refl, e)
both false b e = absurd (false≢true e)

pub both_true : (a b : Bool) → a ≡ true → b ≡ true → (a && b) ≡ true
both_true a b p q = ap₂ ◌&&◌ p q

pub one_of : (a b : Bool) → (a || b) ≡ true → (a ≡ true) ⊎ (b ≡ true)
one_of true b e = inl refl
one_of false b e = inr e

pub first_of : (a b : Bool) → a ≡ true → (a || b) ≡ true
first_of a b p = ap (λ (t : Bool). t || b) p

pub second_of : (a b : Bool) → b ≡ true → (a || b) ≡ true
second_of a b q = ap (λ (t : Bool). a || t) q ∙ or-true a

-- two tests of which each follows from the other
pub same_test : (p q : Bool) → (p ≡ true → q ≡ true) → (q ≡ true → p ≡ true) → p ≡ q
same_test true q f g = sym (f refl)
same_test false true f g = g refl
same_test false false f g = refl

-- what a bond joins, as equations
abbrev pub Joins : Bond → ℕ → ℕ → Type 0
Joins b u v = ((b.one ≡ u) × (b.two ≡ v)) ⊎ ((b.one ≡ v) × (b.two ≡ u))

pub joins_out : (b : Bond) (u v : ℕ) → joins b u v ≡ true → Joins b u v
unfolding joins
joins_out b u v e = ⊎_map (pair u v) (pair v u) (one_of (eqb b.one u && eqb b.two v) (eqb b.one v && eqb b.two u) e)
  where
    pair : (x y : ℕ) → (eqb b.one x && eqb b.two y) ≡ true → (b.one ≡ x) × (b.two ≡ y)
    pair x y q = let r = both (eqb b.one x) (eqb b.two y) q in (eqb-true b.one x r.0, eqb-true b.two y r.1)

joins_in : (b : Bond) (u v : ℕ) → Joins b u v → joins b u v ≡ true
unfolding joins
joins_in b u v s =
    ⊎_elim (λ q. first_of (eqb b.one u && eqb b.two v) (eqb b.one v && eqb b.two u) (pair u v q))
    (λ q. second_of (eqb b.one u && eqb b.two v) (eqb b.one v && eqb b.two u) (pair v u q)) s
  where
    pair : (x y : ℕ) → (b.one ≡ x) × (b.two ≡ y) → (eqb b.one x && eqb b.two y) ≡ true
    pair x y q = both_true (eqb b.one x) (eqb b.two y) (eq-eqb b.one x q.0) (eq-eqb b.two y q.1)

-- a bond of a list is its first, or one of the others
pub any_out : (b : Bond) (bs : List Bond) (u v : ℕ) → any_joins (b ∷ bs) u v ≡ true → Joins b u v ⊎ (any_joins bs u v ≡ true)
unfolding any_joins
any_out b bs u v e = ⊎_map (joins_out b u v) (λ q. q) (one_of (joins b u v) (any_joins bs u v) e)

pub any_head : (b : Bond) (bs : List Bond) (u v : ℕ) → Joins b u v → any_joins (b ∷ bs) u v ≡ true
unfolding any_joins
any_head b bs u v s = first_of (joins b u v) (any_joins bs u v) (joins_in b u v s)

pub any_tail : (b : Bond) (bs : List Bond) (u v : ℕ) → any_joins bs u v ≡ true → any_joins (b ∷ bs) u v ≡ true
unfolding any_joins
any_tail b bs u v e = second_of (joins b u v) (any_joins bs u v) e

pub any_none : (u v : ℕ) → any_joins [] u v ≡ true → ⊥
unfolding any_joins
any_none u v e = false≢true e

-- a bond may be read from either end
pub joins_sym : (b : Bond) (u v : ℕ) → joins b u v ≡ joins b v u
unfolding joins
joins_sym b u v = or_comm (eqb b.one u && eqb b.two v) (eqb b.one v && eqb b.two u)

pub any_joins_sym : (bs : List Bond) (u v : ℕ) → any_joins bs u v ≡ any_joins bs v u
unfolding any_joins
any_joins_sym [] u v = refl
any_joins_sym (b ∷ bs) u v = ap₂ ◌||◌ (joins_sym b u v) (any_joins_sym bs u v)

pub bonded_sym : (g : Graph) (u v : ℕ) → bonded g u v ≡ true → bonded g v u ≡ true
unfolding bonded
bonded_sym g u v e = any_joins_sym g.bonds v u ∙ e

-- of two lists, one after the other
any_joins_append : (bs cs : List Bond) (u v : ℕ) → any_joins (bs ++ cs) u v ≡ (any_joins bs u v || any_joins cs u v)
unfolding any_joins
any_joins_append [] cs u v = refl
any_joins_append (b ∷ bs) cs u v = ap (λ (t : Bool). joins b u v || t) (any_joins_append bs cs u v) ∙ sym (or_assoc (joins b u v) (any_joins bs u v) (any_joins cs u v))

pub append_out : (bs cs : List Bond) (u v : ℕ) → any_joins (bs ++ cs) u v ≡ true → (any_joins bs u v ≡ true) ⊎ (any_joins cs u v ≡ true)
append_out bs cs u v e = one_of (any_joins bs u v) (any_joins cs u v) (sym (any_joins_append bs cs u v) ∙ e)

pub append_left : (bs cs : List Bond) (u v : ℕ) → any_joins bs u v ≡ true → any_joins (bs ++ cs) u v ≡ true
append_left bs cs u v e = any_joins_append bs cs u v ∙ first_of (any_joins bs u v) (any_joins cs u v) e

pub append_right : (bs cs : List Bond) (u v : ℕ) → any_joins cs u v ≡ true → any_joins (bs ++ cs) u v ≡ true
append_right bs cs u v e = any_joins_append bs cs u v ∙ second_of (any_joins bs u v) (any_joins cs u v) e

pub degree_append : (bs cs : List Bond) (v : ℕ) → degree (bs ++ cs) v ≡ degree bs v + degree cs v
unfolding degree
degree_append [] cs v = omega arith
degree_append (b ∷ bs) cs v = omega (arith, degree_append bs cs v)

-- of a list whose atoms are counted from n + 1
pub shifted_out : (n : ℕ) (bs : List Bond) (u v : ℕ) → any_joins (shifted n bs) u v ≡ true
    → (x y : ℕ) × (u ≡ n + x) × (v ≡ n + y) × (any_joins bs x y ≡ true)
unfolding shifted
shifted_out n [] u v e = absurd (any_none u v e)
shifted_out n (b ∷ bs) u v e =
    ⊎_elim
    (⊎_elim (λ r. (b.one, b.two, sym r.0, sym r.1, any_head b bs b.one b.two (inl (refl, refl))))
    (λ r. (b.two, b.one, sym r.1, sym r.0, any_head b bs b.two b.one (inr (refl, refl)))))
    (λ q. let r = shifted_out n bs u v q in (r.0, r.1, r.2, r.3, any_tail b bs r.0 r.1 r.4))
    (any_out (bond (n + b.one) (n + b.two)) (shifted n bs) u v e)

pub shifted_in : (n : ℕ) (bs : List Bond) (u v : ℕ) → any_joins bs u v ≡ true → any_joins (shifted n bs) (n + u) (n + v) ≡ true
unfolding shifted
shifted_in n [] u v e = absurd (any_none u v e)
shifted_in n (b ∷ bs) u v e =
    ⊎_elim
    (λ q. any_head (bond (n + b.one) (n + b.two)) (shifted n bs) (n + u) (n + v)
    (⊎_map (λ r. (ap (◌+◌ n) r.0, ap (◌+◌ n) r.1)) (λ r. (ap (◌+◌ n) r.0, ap (◌+◌ n) r.1)) q))
    (λ q. any_tail (bond (n + b.one) (n + b.two)) (shifted n bs) (n + u) (n + v) (shifted_in n bs u v q))
    (any_out b bs u v e)

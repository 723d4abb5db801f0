-- Laws. Sums over a list of bonds, and over a list of numbers that bonds give. Assumes nothing.
use Rattle.std.specs.Prelude.{ℕ, ◌+◌, ◌*◌, Bool, true, false, cond, List, [], ◌∷◌, map, ◌≡◌, refl}
use Rattle.std.proofs.Common.{inl, sym, ◌∙◌, ap, ap₂, arith}
use Rattle.graph.specs.Graph.{Bond, any_joins, sum, sum_pairs, sum_bonds}
use Rattle.graph.specs.Bonds.{any_head, any_tail}
use Rattle.graph.specs.Sums.{sum_add, sum_none, sum_pairs_add, sum_pairs_none}

-- functions that agree on the bonds of a list have equal sums
pub bonds_cong : (bs : List Bond) {f h : Bond → ℕ} → ((b : Bond) → any_joins bs b.one b.two ≡ true → f b ≡ h b) → sum_bonds bs f ≡ sum_bonds bs h
unfolding sum_bonds
bonds_cong [] e = refl
bonds_cong (b ∷ bs) e =
    ap₂ ◌+◌ (e b (any_head b bs b.one b.two (inl (refl, refl)))) (bonds_cong bs (λ c j. e c (any_tail b bs c.one c.two j)))

pub bonds_add : (bs : List Bond) (f h : Bond → ℕ) → sum_bonds bs (λ b. f b + h b) ≡ sum_bonds bs f + sum_bonds bs h
unfolding sum_bonds
bonds_add [] f h = refl
bonds_add (b ∷ bs) f h = omega (arith, bonds_add bs f h)

pub bonds_none : (bs : List Bond) → sum_bonds bs (λ b. 0) ≡ 0
unfolding sum_bonds
bonds_none [] = refl
bonds_none (b ∷ bs) = omega (arith, bonds_none bs)

-- a factor, and a test, that do not vary
pub bonds_scaled : (bs : List Bond) (f : Bond → ℕ) (c : ℕ) → sum_bonds bs (λ b. f b * c) ≡ sum_bonds bs f * c
unfolding sum_bonds
bonds_scaled [] f c = omega arith
bonds_scaled (b ∷ bs) f c = omega (arith, bonds_scaled bs f c)

pub bonds_cond : (bs : List Bond) (t : Bool) (f : Bond → ℕ) → sum_bonds bs (λ b. cond t (f b) 0) ≡ cond t (sum_bonds bs f) 0
bonds_cond bs true f = refl
bonds_cond bs false f = bonds_none bs

-- bonds and numbers, bonds and pairs in either order
pub bonds_swap : (bs : List Bond) (n : ℕ) (f : Bond → ℕ → ℕ) → sum_bonds bs (λ b. sum n (f b)) ≡ sum n (λ v. sum_bonds bs (λ b. f b v))
unfolding sum_bonds
bonds_swap [] n f = sym (sum_none n)
bonds_swap (b ∷ bs) n f = ap (λ (m : ℕ). sum n (f b) + m) (bonds_swap bs n f) ∙ sym (sum_add n (f b) (λ v. sum_bonds bs (λ c. f c v)))

pub bonds_swap_pairs : (bs : List Bond) (n : ℕ) (f : Bond → ℕ → ℕ → ℕ) → sum_bonds bs (λ b. sum_pairs n (f b)) ≡ sum_pairs n (λ i j. sum_bonds bs (λ b. f b i j))
unfolding sum_bonds
bonds_swap_pairs [] n f = sym (sum_pairs_none n)
bonds_swap_pairs (b ∷ bs) n f =
    ap (λ (m : ℕ). sum_pairs n (f b) + m) (bonds_swap_pairs bs n f) ∙ sym (sum_pairs_add n (f b) (λ i j. sum_bonds bs (λ c. f c i j)))

-- the sum of a list: of what bonds give it is the sum over the bonds
unfoldable pub added : List ℕ → ℕ
added [] = 0
added (x ∷ xs) = x + added xs

pub added-map : (f : Bond → ℕ) (bs : List Bond) → added (map f bs) ≡ sum_bonds bs f
unfolding added sum_bonds
added-map f [] = refl
added-map f (b ∷ bs) = ap (λ (x : ℕ). f b + x) (added-map f bs)

-- What is proved of every reply of `polynomial`: it is the only one, none of its values is a NaN or infinite, and at x = 0.5 they are exact.
use Prim.Native.Nat.{ℕ, ◌*◌, ◌^◌, ◌≤◌}
use mathlib.Core.Path.{◌≡◌, refl, sym, ap, ◌∙◌, subst}
use mathlib.Core.Bool.{Bool, true, false}
use mathlib.Core.List.{List}
use lib.Dec.{T}
use lib.Ieee.{Float, eq, lt, is_nan}
use lib.Ieee.Fits.{and_i}
use lib.Ieee.Exact.{HasValue}
use lib.Ieee.Scale.{finite}
use Rattle.graph.specs.Graph.{Graph, pairs_at}
use Rattle.graph.specs.Farthest.{largest}
use Rattle.reply.specs.Read.{Read, refused, read, ◌then◌, refuse_if, as_result}
use Rattle.block.specs.Block.{most_atoms, graph_of, block_reply}
use Rattle.block.specs.Told.{few_atoms, molecule}
use Rattle.poly.specs.Poly.{half, unusable, value, polynomial_values, polynomial_at, polynomial_reply}
use Rattle.poly.specs.Exact.{all_finite, exact_to, scaled, Exact}
use Rattle.poly.proofs.Counts.{count_most, none_beyond}
use Rattle.poly.proofs.Exact.{exact_at_half}
use Rattle.poly.proofs.Finite.{always_finite}
use Rattle.std.specs.Prelude.{Result}
use Rattle.reply.specs.declared.Refusal.{Refusal}
use Rattle.poly.specs.declared.Values.{Values}

-- two replies that satisfy the promise are equal
pub one_reply : (n : ℕ) (xs : List ℕ) (x : Float) (r s : Result Values Refusal) → r ≡ as_result (polynomial_reply n xs x) → s ≡ as_result (polynomial_reply n xs x) → r ≡ s
one_reply n xs x r s p q = p ∙ sym q

-- a block that is not refused has at most 64 atoms, so that no count is above the square of that
few : (n : ℕ) (xs : List ℕ) → block_reply n xs ≡ read tt → (k : ℕ) → pairs_at (graph_of n xs) k ≤ most_atoms * most_atoms
few n xs fine k = count_most (graph_of n xs) k most_atoms (few_atoms n xs fine).high

-- no value is a NaN or infinite
pub finite_reply : (n : ℕ) (xs : List ℕ) (x : Float) (r : Result Values Refusal) → r ≡ as_result (polynomial_reply n xs x) → T (all_finite r)
unfolding polynomial_reply polynomial_at polynomial_values
finite_reply n xs x r e = subst (λ (a : Result Values Refusal). T (all_finite a)) (sym e) (go (block_reply n xs) refl (unusable x) refl)
  where
    g : Graph
    g = graph_of n xs

    go : (b : Read (Unit {0})) → block_reply n xs ≡ b → (t : Bool) → unusable x ≡ t
        → T (all_finite (as_result (b then λ _. refuse_if t 10 0 then λ _. read (record { even = value 0 (pairs_at g) x; odd = value 1 (pairs_at g) x }))))
    go (refused s) b t u = tt
    go (read z) b true u = tt
    go (read z) b false u = and_i (finite (value 0 (pairs_at g) x)) (finite (value 1 (pairs_at g) x)) (always_finite 0 (pairs_at g) x (few n xs b) u) (always_finite 1 (pairs_at g) x (few n xs b) u)

-- at x = 0.5 both values of a block of largest distance at most 40 are exact
pub exact_reply : (n : ℕ) (xs : List ℕ) → block_reply n xs ≡ read tt → largest (graph_of n xs) ≤ exact_to → (r : Result Values Refusal) → r ≡ as_result (polynomial_reply n xs half) → Exact (graph_of n xs) r
unfolding polynomial_reply polynomial_at polynomial_values unusable eq lt is_nan
exact_reply n xs fine short r e = subst (Exact g) (sym (e ∙ ap said fine)) (both 0, both 1)
  where
    g : Graph
    g = graph_of n xs

    said : Read (Unit {0}) → Result Values Refusal
    said b = as_result (b then λ _. polynomial_at (pairs_at g) half)

    both : (p : ℕ) → HasValue (value p (pairs_at g) half) false (scaled p (pairs_at g)) (2 ^ exact_to)
    both p = exact_at_half p (pairs_at g) (few n xs fine) (λ k h. none_beyond g exact_to k (molecule n xs fine) short h)

-- Laws. What is proved of every reply: it is the only one, the terms of its sum are the largest numbers that the rules ask for, and how fine it is. Assumes nothing.
use Prim.Native.Nat.{ℕ, ◌+◌, ◌*◌, ◌≤◌}
use mathlib.Core.Bool.{true}
use mathlib.Core.List.{List, []}
use mathlib.Core.Path.{◌≡◌, refl, sym, ◌∙◌, subst}
use native.Mathlib.Nat.{mul-le-mul, zero-mul}
use native.Mathlib.Omega.{arith}
use Rattle.graph.specs.Graph.{bond, bonded, vertex_sum}
use Rattle.graph.specs.Walk.{far_end}
use Rattle.graph.specs.Bounds.{vertex_sum_positive}
use Rattle.graph.specs.Tree.{enough_bonds}
use Rattle.reply.specs.Read.{refused, read, as_result}
use Rattle.reply.specs.Chain.{then-read}
use Rattle.block.specs.Block.{graph_of, bonds_of, block_reply}
use Rattle.block.specs.Told.{fine_drawn, molecule, each_bond}
use Rattle.block.specs.Numbered.{ends_apart}
use Rattle.reply.specs.declared.Refusal.{Refusal}
use Rattle.balaban.specs.Balaban.{Largest, bound, term, bond_count, divisor, reckoned, balaban_reply, Fine}
use Rattle.balaban.proofs.Squares.{largest_root_lem}
use Rattle.balaban.proofs.Fineness.{fine_molecule}
use Rattle.std.specs.Prelude.{Result, Ok, Err}

-- two replies that satisfy the promise are equal
pub one_reply : (n : ℕ) (xs : List ℕ) (r s : Result ℕ Refusal) → r ≡ as_result (balaban_reply n xs) → s ≡ as_result (balaban_reply n xs) → r ≡ s
one_reply n xs r s p q = p ∙ sym q

module _ (n : ℕ) (xs : List ℕ) where
  pub refused_reply : (r : Refusal) → block_reply n xs ≡ refused r → Err r ≡ as_result (balaban_reply n xs)
  unfolding balaban_reply
  refused_reply r e = rw e

  module _ (fine : block_reply n xs ≡ read tt) where
    pub fine_reply : (j : ℕ) → j ≡ reckoned 1 (graph_of n xs) → Ok j ≡ as_result (balaban_reply n xs)
    unfolding balaban_reply
    fine_reply j e = rw (fine, e)

    -- what each bond brings is the largest t with t squared times S(u) times S(v) at most K squared times 10 ^ 18
    pub bond_largest : (K u v : ℕ) → bonded (graph_of n xs) u v ≡ true
        → Largest (bound K) (vertex_sum (graph_of n xs) u * vertex_sum (graph_of n xs) v) (term K (graph_of n xs) (bond u v))
    unfolding term
    bond_largest K u v b =
        let m = molecule n xs fine in
        let hu = m.sound.ends u v b in
        let hv = far_end m.sound u v b in
        let ne = ends_apart n xs (fine_drawn n xs fine) u v b in
        largest_root_lem (bound K) (vertex_sum (graph_of n xs) u * vertex_sum (graph_of n xs) v) (mul-le-mul (vertex_sum_positive m hu hv ne) (vertex_sum_positive m hv hu (λ e. ne (sym e))))

    -- the divisor is m - n + 2, with nothing cut off, and not 0
    pub divisor_is : (divisor (graph_of n xs) + n ≡ bond_count (graph_of n xs) + 2) × (1 ≤ divisor (graph_of n xs))
    divisor_is = let e = enough_bonds (molecule n xs fine) in (omega arith, omega arith)

  -- how fine an answer is, for every K from 1 up
  pub fine : (R : ℕ) → balaban_reply n xs ≡ read R → (K : ℕ) → 1 ≤ K → Fine K (graph_of n xs) R
  unfolding balaban_reply
  fine R e K pos =
      let (u, b, r) = then-read (block_reply n xs) (λ _. read (reckoned 1 (graph_of n xs))) e in
      let same : reckoned 1 (graph_of n xs) ≡ R = cc in
      subst (Fine K (graph_of n xs)) same (fine_molecule K pos (molecule n xs b))

-- one atom gives 0
pub one_atom : (xs : List ℕ) → block_reply 1 xs ≡ read tt → balaban_reply 1 xs ≡ read 0
unfolding balaban_reply reckoned
one_atom xs fine =
    let none : bonds_of xs ≡ [] = each_bond 1 xs fine (λ bs. bs ≡ []) refl (λ b bs new rest. absurd (new.differ (omega arith))) in
    rw (fine, none, zero-mul)

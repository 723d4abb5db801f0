-- The replies to a block, and the vertex sums that are left. Assumes nothing.
use Prim.Native.Nat.{ℕ, suc, ◌+◌, ◌-◌, ◌*◌, ◌≤◌, ◌<◌}
use mathlib.Core.Bool.{cond}
use mathlib.Core.List.{List}
use mathlib.Core.Path.{◌≡◌, sym, ap, ◌∙◌}
use native.Mathlib.Decide.{dec_lt}
use native.Mathlib.Omega.{arith}
use borrow.Author.Tests.{lt-ltb, le-ltb}
use lib.Dec.{ltb}
use lib.ListN.{length, get_or}
use lib.Seq.{ext_get_or}
use Rattle.graph.specs.Graph.{Graph, Within, vertex_sum}
use Rattle.graph.specs.Farthest.{largest}
use Rattle.graph.specs.Largest.{largest_over, largest_below}
use Rattle.half.specs.Half.{table}
use Rattle.reply.specs.Read.{refused, read, as_result}
use Rattle.reply.specs.declared.Refusal.{Refusal}
use Rattle.block.specs.Block.{most_atoms, graph_of, drawn_reply, block_reply}
use Rattle.block.specs.Index.{indices_of, indices_reply}
use Rattle.block.specs.Near.{around}
use Rattle.block.specs.Tables.{length-table, get_or-table}
use Rattle.block.specs.Told.{few_atoms, molecule, drawn_refused}
use Rattle.block.specs.declared.Indices.{Indices}
use Rattle.reach.specs.Reach.{first_level, Left, Reached}
use Rattle.reach.specs.Sums.{vertex_sums_of}
use Rattle.reach.proofs.Summing.{all_wanting}
use Rattle.std.specs.Prelude.{Err}

module _ (n : ℕ) (xs : List ℕ) where
  -- 1 to 6
  pub refused_reply : (r : Refusal) → drawn_reply n xs ≡ refused r → Err r ≡ as_result (indices_reply n xs)
  unfolding indices_reply
  refused_reply r e = rw (drawn_refused n xs r e)

  module _ (fine : block_reply n xs ≡ read tt) where
    abbrev g : Graph
    g = graph_of n xs

    module _ (x : Indices) (e : x ≡ indices_of g) (own : ℕ) (o : own ≡ first_level xs) (reached : List ℕ) (R : Reached g (first_level xs) n x.largest reached) where
      last_is : x.largest ≡ largest g
      unfolding indices_of
      last_is = ap (λ (y : Indices). y.largest) e

      left_is : (v : ℕ) → Within n v → own + around reached v + vertex_sum g v ≡ n * x.largest
      left_is v w = omega (arith, o, R.wanting v w, all_wanting g x.largest (λ i j a b. omega (arith, last_is, largest_over (molecule n xs fine) i j a b)) v w)

      pub sums_fit : (n ≤ most_atoms) × (x.largest ≤ most_atoms) × ((v : ℕ) → Within n v → own + around reached v ≤ n * x.largest)
      sums_fit =
          let f = few_atoms n xs fine in
          (f.high, omega (arith, last_is, largest_below (molecule n xs fine) f.low), λ v w. omega (arith, left_is v w))

      pub sums_left : (sums : List ℕ) → length reached ≡ most_atoms → Left n x.largest own reached sums → sums ≡ vertex_sums_of g
      unfolding vertex_sums_of
      sums_left sums size L =
          ext_get_or 0 sums (table most_atoms at) (L.same ∙ size ∙ sym (length-table most_atoms at))
          (λ p l. here p (dec_lt p n) ∙ sym (get_or-table most_atoms at p 0 (omega (arith, L.same))))
        where
          at : ℕ → ℕ
          at p = cond (ltb p n) (vertex_sum g (suc p)) 0

          here : (p : ℕ) → Dec (p < n) → get_or sums p 0 ≡ at p
          here p (yes l) =
              let k : suc p - 1 ≡ p = omega arith in
              let w = rw k at (left_is (suc p) (record { low = omega arith; high = omega arith })) in
              rw (lt-ltb p n l) (omega (arith, L.first p l))
          here p (no l) = rw (le-ltb p n (omega arith)) (L.kept p (omega arith) ∙ R.behind p (omega arith))

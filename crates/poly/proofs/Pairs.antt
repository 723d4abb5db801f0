-- The reply of a block, from its table of counts: a refusal is the block's, and the counts of a block that is fine are those of its graph.
use Prim.Native.Nat.{ℕ}
use mathlib.Core.Path.{◌≡◌, refl, sym, ap, ◌∙◌}
use mathlib.Core.List.{List}
use native.Mathlib.Omega.{arith}
use lib.Ieee.{Float}
use Rattle.graph.specs.Graph.{pairs_at}
use Rattle.reply.specs.Read.{Read, refused, read, ◌then◌, as_result}
use Rattle.block.specs.Block.{graph_of, block_reply}
use Rattle.block.specs.Index.{pairs_of, pairs_reply, said_pairs}
use Rattle.reply.specs.declared.Refusal.{Refusal}
use Rattle.block.specs.declared.Pairs.{Pairs}
use Rattle.poly.specs.Poly.{pairs_counted, polynomial_at, polynomial_reply}
use Rattle.poly.specs.declared.Values.{Values}
use Rattle.poly.proofs.Counts.{table_values}
use Rattle.std.specs.Prelude.{Ok, Err}

module _ (ns : List ℕ) (v : Read Values) (p : Pairs) where
  refused_then : (b : Read (Unit {0})) (r : Refusal) → p ≡ said_pairs (b then λ _. read ns) → p.reply ≡ Err r → Err r ≡ as_result (b then λ _. v)
  refused_then (refused s) r is e = let same : Err s ≡ Err r = sym (ap (λ (q : Pairs). q.reply) is) ∙ e in cc
  refused_then (read u) r is e =
      let differ : Ok tt ≡ Err r = sym (ap (λ (q : Pairs). q.reply) is) ∙ e in
      absurd (let z : ◌≡◌ {A = ℕ} 0 1 = cc in omega arith)

  fine_then : (b : Read (Unit {0})) → p ≡ said_pairs (b then λ _. read ns) → p.reply ≡ Ok tt → (p.at ≡ ns) × (as_result v ≡ as_result (b then λ _. v))
  fine_then (refused s) is e =
      let differ : Err s ≡ Ok tt = sym (ap (λ (q : Pairs). q.reply) is) ∙ e in
      absurd (let z : ◌≡◌ {A = ℕ} 0 1 = cc in omega arith)
  fine_then (read u) is e = (ap (λ (q : Pairs). q.at) is, refl)

module _ (n : ℕ) (xs : List ℕ) (x : Float) (p : Pairs) (is : p ≡ said_pairs (pairs_reply n xs)) where
  pub refused_reply : (r : Refusal) → p.reply ≡ Err r → Err r ≡ as_result (polynomial_reply n xs x)
  unfolding pairs_reply polynomial_reply
  refused_reply r e = refused_then (pairs_of (graph_of n xs)) (polynomial_at (pairs_at (graph_of n xs)) x) p (block_reply n xs) r is e

  pub fine_reply : p.reply ≡ Ok tt → as_result (polynomial_at (pairs_counted p.at) x) ≡ as_result (polynomial_reply n xs x)
  unfolding pairs_reply polynomial_reply
  fine_reply e =
      let (table, rest) = fine_then (pairs_of (graph_of n xs)) (polynomial_at (pairs_at (graph_of n xs)) x) p (block_reply n xs) is e in
      ap (λ (ns : List ℕ). as_result (polynomial_at (pairs_counted ns) x)) table ∙ ap as_result (table_values (graph_of n xs) x) ∙ rest

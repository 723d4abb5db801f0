-- Laws. Each promise determines the reply: two replies that satisfy it are equal. Assumes nothing.
use Rattle.std.specs.Prelude.{ℕ, ◌-◌, ◌^◌, min, ◌≤◌, List, ◌≡◌, length, Result}
use Rattle.std.specs.Int.Count.{ones}
use Rattle.graph.specs.Graph.{degree}
use Rattle.reply.specs.Chain.{unique}
use Rattle.block.specs.Block.{most_atoms, bonds_of, drawn_reply, block_reply}
use Rattle.block.specs.Rows.{half_after, far_after, row_reply, said_row}
use Rattle.block.specs.Opened.{drawn_near, opened_near}
use Rattle.block.specs.Index.{vertex_reply, distance_reply, pairs_reply, said_pairs}
use Rattle.block.specs.declared.OneRow.{OneRow}
use Rattle.block.specs.declared.Pairs.{Pairs}
use Rattle.reply.specs.Read.{as_result}
use Rattle.reply.specs.declared.Refusal.{Refusal}
use Rattle.block.specs.declared.Vertex.{Vertex}

module _ (n : ℕ) (xs : List ℕ) where
  pub unique-check : (r s : Result (Unit {0}) Refusal) → r ≡ as_result (block_reply n xs) → s ≡ as_result (block_reply n xs) → r ≡ s
  unique-check r s = unique

  -- the reply, and the lent neighbours
  pub unique-drawn : (r s : Result (Unit {0}) Refusal) (p q : List ℕ) → (r ≡ as_result (drawn_reply n xs)) × (p ≡ drawn_near n xs) → (s ≡ as_result (drawn_reply n xs)) × (q ≡ drawn_near n xs) → (r ≡ s) × (p ≡ q)
  unique-drawn r s p q x y = (unique x.0 y.0, unique x.1 y.1)

  pub unique-neighbours : (r s : Result (Unit {0}) Refusal) (p q : List ℕ) → (r ≡ as_result (block_reply n xs)) × (p ≡ opened_near n xs) → (s ≡ as_result (block_reply n xs)) × (q ≡ opened_near n xs) → (r ≡ s) × (p ≡ q)
  unique-neighbours r s p q x y = (unique x.0 y.0, unique x.1 y.1)

  -- and the lent half and largest distances, h and f before
  pub unique-table : (h f : List ℕ) (r s : Result (Unit {0}) Refusal) (a b p q u v : List ℕ) → (r ≡ as_result (block_reply n xs)) × (a ≡ opened_near n xs) × (p ≡ half_after n xs h) × (u ≡ far_after n xs f)
      → (s ≡ as_result (block_reply n xs)) × (b ≡ opened_near n xs) × (q ≡ half_after n xs h) × (v ≡ far_after n xs f) → (r ≡ s) × (a ≡ b) × (p ≡ q) × (u ≡ v)
  unique-table h f r s a b p q u v x y = (unique x.0 y.0, unique x.1 y.1, unique x.2 y.2, unique x.3 y.3)

  pub unique-halved : (h : List ℕ) (r s : Result (Unit {0}) Refusal) (p q : List ℕ) → (r ≡ as_result (block_reply n xs)) × (p ≡ half_after n xs h) → (s ≡ as_result (block_reply n xs)) × (q ≡ half_after n xs h) → (r ≡ s) × (p ≡ q)
  unique-halved h r s p q x y = (unique x.0 y.0, unique x.1 y.1)

  pub unique-row : (i : ℕ) (r s : OneRow) → r ≡ said_row (row_reply n xs i) → s ≡ said_row (row_reply n xs i) → r ≡ s
  unique-row i r s = unique

  pub unique-distance : (i j : ℕ) (r s : Result ℕ Refusal) → r ≡ as_result (distance_reply n xs i j) → s ≡ as_result (distance_reply n xs i j) → r ≡ s
  unique-distance i j r s = unique

  pub unique-vertex_sums : (a : ℕ) (r s : Result Vertex Refusal) → r ≡ as_result (vertex_reply n xs a) → s ≡ as_result (vertex_reply n xs a) → r ≡ s
  unique-vertex_sums a r s = unique

  pub unique-pair_counts : (r s : Pairs) → r ≡ said_pairs (pairs_reply n xs) → s ≡ said_pairs (pairs_reply n xs) → r ≡ s
  unique-pair_counts r s = unique

pub unique-first_atoms : (n r s : ℕ) → r ≡ 2 ^ min n most_atoms - 1 → s ≡ 2 ^ min n most_atoms - 1 → r ≡ s
unique-first_atoms n r s = unique

pub unique-size : (m r s : ℕ) → r ≡ ones m → s ≡ ones m → r ≡ s
unique-size m r s = unique

pub unique-degree_of : (bonds : List ℕ) (a r s : ℕ) → (r ≡ degree (bonds_of bonds) a) × (r ≤ length bonds) → (s ≡ degree (bonds_of bonds) a) × (s ≤ length bonds) → r ≡ s
unique-degree_of bonds a r s p q = unique p.0 q.0

-- Laws. What is put of a block that is not refused is its summary; and the reply, test by test. Assumes nothing.
use Prim.Native.Nat.{ℕ, ◌%◌, ◌≤◌, ◌<◌}
use mathlib.Core.List.{List}
use mathlib.Core.Path.{◌≡◌, refl, ◌∙◌, ap}
use native.Mathlib.Omega.{arith}
use borrow.Author.Tests.{lt-ltb, le-ltb}
use lib.ListN.{length}
use lib.Seq.{sets}
use Rattle.graph.specs.Graph.{Graph}
use Rattle.graph.specs.Largest.{largest_below}
use Rattle.reply.specs.Read.{refused, read, refusal}
use Rattle.reply.specs.declared.Refusal.{Refusal}
use Rattle.block.specs.Block.{graph_of, block_reply}
use Rattle.block.specs.Index.{indices_of}
use Rattle.block.specs.Opened.{neighbours_of}
use Rattle.block.specs.Told.{few_atoms, molecule}
use Rattle.block.specs.declared.Indices.{Indices}
use Rattle.records.specs.Bytes.{little_bytes}
use Rattle.records.specs.Stored.{joined}
use Rattle.summary.specs.Layout.{summary_head, summary_bytes}
use Rattle.summary.specs.Summary.{head_of, atoms_from, summary_of}
use Rattle.filling.specs.Reply.{fill_reply, filled_summary, fill_bytes}
use Rattle.filling.specs.Work.{near_bytes, first_bytes, total_bytes, head_on}
use Rattle.filling.proofs.Putting.{near_same}

small : (x : ℕ) → x < 256 → x % 256 ≡ x
small x h = omega arith

module _ (n : ℕ) (xs : List ℕ) (fine : block_reply n xs ≡ read tt) where
  abbrev g : Graph
  g = graph_of n xs

  head_same : (x : ℕ) → head_on x (indices_of g) ≡ head_of x (indices_of g)
  unfolding head_on first_bytes total_bytes head_of indices_of little_bytes
  head_same x =
      let f = few_atoms n xs fine in
      let l = largest_below (molecule n xs fine) f.low in
      rw (small n (omega (arith, f.high)), small (indices_of g).largest (omega (arith, l, f.high)))

  length_head : (x : ℕ) → length (head_of x (indices_of g)) ≡ summary_head
  unfolding head_of little_bytes
  length_head x = refl

  -- ALL OF IT
  pub all_put : (old : List ℕ) {m r : List ℕ} (x : ℕ) (s : Indices) → s ≡ indices_of g → m ≡ sets old 0 (head_on x s) → (near : List ℕ) → near ≡ neighbours_of g
      → r ≡ sets m summary_head (near_bytes near 0 n) → r ≡ sets old 0 (summary_of x g)
  unfolding summary_of
  all_put old {m} x s e a near q b =
      joined old (head_of x (indices_of g)) (atoms_from g 1 n) 0 summary_head (a ∙ ap (λ (t : Indices). sets old 0 (head_on x t)) e ∙ ap (sets old 0) (head_same x))
      (b ∙ ap (λ (l : List ℕ). sets m summary_head (near_bytes l 0 n)) q ∙ ap (sets m summary_head) (near_same g n 0 (omega (arith, (few_atoms n xs fine).high)))) (omega (arith, length_head x))

-- the replies
module _ (n : ℕ) (xs : List ℕ) where
  pub reply-refused : (room : ℕ) {r : Refusal} → block_reply n xs ≡ refused r → fill_reply n xs room ≡ refused r
  unfolding fill_reply
  reply-refused room e = rw e

  module _ (fine : block_reply n xs ≡ read tt) (room : ℕ) where
    pub reply_short : room < summary_bytes → fill_reply n xs room ≡ refused (refusal 9 0)
    unfolding fill_reply
    reply_short l = rw (fine, lt-ltb room summary_bytes l)

    pub reply_fine : summary_bytes ≤ room → fill_reply n xs room ≡ read tt
    unfolding fill_reply
    reply_fine l = rw (fine, le-ltb room summary_bytes l)

  pub bytes_stay : (x : ℕ) (out : List ℕ) {r : Refusal} → fill_reply n xs (length out) ≡ refused r → out ≡ fill_bytes x n xs out
  unfolding filled_summary
  bytes_stay x out e = rw e

  pub bytes_put : (x : ℕ) (out : List ℕ) {new : List ℕ} → fill_reply n xs (length out) ≡ read tt → new ≡ sets out 0 (summary_of x (graph_of n xs)) → new ≡ fill_bytes x n xs out
  unfolding filled_summary
  bytes_put x out e q = q ∙ rw e

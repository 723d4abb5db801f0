-- What is asked of a block, answer by answer. Assumes nothing.
use Prim.Native.Nat.{ℕ, min}
use mathlib.Core.Bool.{Bool, true, false}
use mathlib.Core.List.{List}
use mathlib.Core.Path.{◌≡◌, refl, sym, ap, ◌∙◌}
use native.Mathlib.Omega.{arith}
use Rattle.graph.specs.Farthest.{farthest}
use Rattle.reply.specs.Read.{Read, refused, read, ◌then◌, refuse_if, refusal, is_outside, as_result}
use lib.ListN.{replicate}
use Rattle.half.specs.Half.{all_pairs, half_at}
use Rattle.reply.specs.Chain.{not_read}
use Rattle.block.specs.Block.{most_atoms, graph_of, block_reply}
use Rattle.block.specs.Rows.{row_of, half_table, half_after, no_row, row_reply, said_row}
use Rattle.block.specs.Halved.{half_lent, table_distance}
use Rattle.block.specs.Index.{vertex_of, vertex_reply, distance_reply, pairs_of, pairs_reply, said_pairs}
use Rattle.block.specs.Sums.{entry, counts_by, vertex_by}
use Rattle.block.specs.Faults.{inside}
use Rattle.block.specs.Measures.{all_atoms, counts_are, vertex_is}
use Rattle.reply.specs.declared.Refusal.{Refusal}
use Rattle.block.specs.declared.Vertex.{Vertex}
use Rattle.block.specs.declared.Pairs.{Pairs}
use Rattle.block.specs.declared.OneRow.{OneRow}
use Rattle.std.specs.Prelude.{Result, Ok, Err}

not_fine : {r : Refusal} → ◌≡◌ {A = Result (Unit {0}) Refusal} (Err r) (Ok tt) → ⊥
not_fine e = let z : ◌≡◌ {A = ℕ} 0 1 = cc in omega arith

said_out : (m : Read (List ℕ × ℕ)) (r : Refusal) → Err r ≡ (said_row m).reply → m ≡ refused r
said_out (refused s) r e = cc
said_out (read x) r e = absurd (not_fine e)

said_in : (m : Read (List ℕ × ℕ)) → Ok tt ≡ (said_row m).reply → m ≡ read ((said_row m).row, (said_row m).largest)
said_in (refused s) e = absurd (not_fine (sym e))
said_in (read x) e = refl

-- a chain that asks for an atom first
abbrev asked : {A : Type 0} → Read (Unit {0}) → Bool → Read A → Read A
asked m o rest = m then λ _. refuse_if o 18 0 then λ _. rest

asked_out : {A B : Type 0} (m : Read (Unit {0})) (o : Bool) (a : A) (rest : Read B) (r : Refusal) → asked m o (read a) ≡ refused r → asked m o rest ≡ refused r
asked_out (refused s) o a rest r e = cc
asked_out (read u) true a rest r e = cc
asked_out (read u) false a rest r e = absurd (not_read (sym e))

asked_in : {A : Type 0} (m : Read (Unit {0})) (o : Bool) (a b : A) → asked m o (read a) ≡ read b → (m ≡ read tt) × (o ≡ false) × (b ≡ a)
asked_in (refused s) o a b e = absurd (not_read e)
asked_in (read u) true a b e = absurd (not_read e)
asked_in (read u) false a b e = (refl, refl, cc)

module _ (n : ℕ) (xs : List ℕ) where
  pub pairs_refused : (p : Pairs) (r : Refusal) → block_reply n xs ≡ refused r → p.reply ≡ Err r → p.at ≡ no_row → p ≡ said_pairs (pairs_reply n xs)
  unfolding pairs_reply
  pairs_refused p r e q a = rw e (λ i. record { reply = q i; at = a i })

  pub pairs_fine : block_reply n xs ≡ read tt → (half : List ℕ) → half ≡ half_table n xs → (p : Pairs) → p.reply ≡ Ok tt → p.at ≡ counts_by (min n most_atoms) (half_at half) → p ≡ said_pairs (pairs_reply n xs)
  unfolding pairs_reply
  pairs_fine e half q p f a =
      let b : p.at ≡ pairs_of (graph_of n xs) = rw (a, q, all_atoms n xs e) (counts_are n xs e) in
      rw e (λ i. record { reply = f i; at = b i })

  -- a distance out of the half
  module _ (i j : ℕ) where
    pub distance_refused : (r : Refusal) → block_reply n xs ≡ refused r → Err r ≡ as_result (distance_reply n xs i j)
    unfolding distance_reply
    distance_refused r e = rw e

    module _ (fine : block_reply n xs ≡ read tt) where
      pub distance_first : is_outside n i ≡ true → Err (refusal 18 0) ≡ as_result (distance_reply n xs i j)
      unfolding distance_reply
      distance_first o = rw (fine, o)

      module _ (a : is_outside n i ≡ false) where
        pub distance_second : is_outside n j ≡ true → Err (refusal 18 0) ≡ as_result (distance_reply n xs i j)
        unfolding distance_reply
        distance_second o = rw (fine, a, o)

        pub distance_fine : is_outside n j ≡ false → (half : List ℕ) → half ≡ half_after n xs (replicate all_pairs 0) → (d : ℕ) → d ≡ half_at half i j → Ok d ≡ as_result (distance_reply n xs i j)
        unfolding distance_reply
        distance_fine b half e d q = rw (fine, a, b) (ap Ok (q ∙ ap (λ (h : List ℕ). half_at h i j) (e ∙ half_lent n xs) ∙ table_distance n xs fine (inside n i a) (inside n j b)))

  module _ (i : ℕ) (v : OneRow) (W : v ≡ said_row (row_reply n xs i)) where
    replied : v.reply ≡ (said_row (row_reply n xs i)).reply
    replied = ap (λ (x : OneRow). x.reply) W

    module _ (r : Refusal) (e : v.reply ≡ Err r) where
      out : row_reply n xs i ≡ refused r
      out = said_out (row_reply n xs i) r (sym e ∙ replied)

      pub vertex_refused : Err r ≡ as_result (vertex_reply n xs i)
      unfolding vertex_reply row_reply
      vertex_refused = rw (asked_out (block_reply n xs) (is_outside n i) (row_of (graph_of n xs) i, farthest (graph_of n xs) i) (read (vertex_of (graph_of n xs) i)) r out)

    -- the row was read: of a block that is fine, for one of its atoms
    pub record Seen : Type 0 where
      pub fine : block_reply n xs ≡ read tt
      pub inner : is_outside n i ≡ false
      pub row_is : v.row ≡ row_of (graph_of n xs) i
      pub largest_is : v.largest ≡ farthest (graph_of n xs) i

    module _ (e : v.reply ≡ Ok tt) where
      pub seen : Seen
      unfolding row_reply
      seen =
          let (f, o, s) = asked_in (block_reply n xs) (is_outside n i) (row_of (graph_of n xs) i, farthest (graph_of n xs) i) ((said_row (row_reply n xs i)).row, (said_row (row_reply n xs i)).largest) (said_in (row_reply n xs i) (sym e ∙ replied)) in
          record {
            fine = f;
            inner = o;
            row_is = ap (λ (x : OneRow). x.row) W ∙ ap (λ (y : List ℕ × ℕ). y.0) s;
            largest_is = ap (λ (x : OneRow). x.largest) W ∙ ap (λ (y : List ℕ × ℕ). y.1) s;
          }

      pub vertex_fine : (x : Vertex) → x ≡ vertex_by (min n most_atoms) (entry v.row) v.largest → Ok x ≡ as_result (vertex_reply n xs i)
      unfolding vertex_reply
      vertex_fine x p = let S = seen in rw (S.fine, S.inner, p, S.row_is, S.largest_is, all_atoms n xs S.fine, vertex_is n xs S.fine i)

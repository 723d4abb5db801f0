-- Laws. Neighbour texts with the numbers beside them: each case of the reply. Assumes nothing.
use Prim.Native.Nat.{ℕ, ◌≤◌, ◌<◌}
use mathlib.Core.Bool.{not}
use mathlib.Core.List.{List, []}
use mathlib.Core.Path.{◌≡◌, refl, sym, ◌∙◌, ap}
use lib.Dec.{ltb}
use lib.ListN.{length}
use Rattle.graph.specs.Graph.{Graph, connected}
use Rattle.reply.specs.Read.{Read, refused, read, ◌then◌, refuse_if, is_outside, as_read}
use Rattle.block.specs.Block.{most_atoms, most_bytes, bonds_of, block_reply}
use Rattle.adjacency.specs.Neighbours.{bond_list_bytes, numbers, bytes_reply, atom_count_reply, steps, bonds_in, steps_reply, bonds_length, molecule, block_of, neighbours_reply, bytes_after}
use Rattle.adjacency.specs.Written.{written_text, neighbours_write_reply, text_after}
use Rattle.adjacency.proofs.Blocks.{bytes_length}
use Rattle.neighbours.specs.Said.{said_neighbours_written}
use Rattle.calls.specs.Convention.{coded, out_after, number_list, Lent, then_nine}
use Rattle.calls.specs.Blocks.{unlent_reply}
use Rattle.calls.proofs.Laws.{nine_then, nine_behind, beside_lacking, beside_number}
use Rattle.text_calls.specs.Texts.{TextWritten}
use Rattle.std.specs.Prelude.{Result}
use Rattle.reply.specs.declared.Refusal.{Refusal}

-- READING. What comes before 9, whatever the room is.
pub any_room : (t : List ℕ) (some room : ℕ) → then_nine (neighbours_reply t some) ≡ then_nine (neighbours_reply t room)
unfolding neighbours_reply block_of
any_room t some room =
    nine_then (bytes_reply t) _ _ (λ _. nine_then (atom_count_reply (length t) (numbers t)) _ _ (λ c. let ss = steps c.rest in
    nine_then (refuse_if (is_outside most_atoms c.count) 1 0) _ _ (λ _. nine_then (refuse_if (ltb most_bytes (bonds_length (bonds_in ss))) 2 0) _ _ (λ _. nine_then (steps_reply c.count [] ss) _ _ (λ _.
    let D = refuse_if (not (connected (molecule c.count ss))) 7 0 in nine_behind D (λ _. ltb some (bonds_length (bonds_in ss))) (λ _. molecule c.count ss) ∙ sym (nine_behind D (λ _. ltb room (bonds_length (bonds_in ss))) (λ _. molecule c.count ss)))))))

pub bytes_filled : (R : Read Graph) (out : List ℕ) → bytes_after R out ≡ out_after (R then λ g. read (bond_list_bytes g.bonds)) out
bytes_filled (refused r) out = refl
bytes_filled (read g) out = rw (bytes_length g.bonds) refl

-- WRITING.
module _ (n : ℕ) (xs out told : List ℕ) where
  pub write_lacking : (x : ℕ) → length told < 1 → x ≡ coded (unlent_reply n xs) → TextWritten n xs out told x out told
  unfolding neighbours_write_reply
  write_lacking x h q =
      let t = written_text n (bonds_of xs) in
      beside_lacking (neighbours_write_reply n xs (length out)) 1 _ _ out told x h (q ∙ ap coded (sym (nine_behind (block_reply n xs) (λ _. ltb (length out) (length t)) (λ _. t))))

  pub write_given : {out' told' : List ℕ} {x : ℕ} (a : Result ℕ Refusal) → 1 ≤ length told → a ≡ said_neighbours_written (neighbours_write_reply n xs (length out))
      → out' ≡ text_after (neighbours_write_reply n xs (length out)) out → Lent (number_list (as_read a)) told x told' → TextWritten n xs out told x out' told'
  write_given a h e b l = let R = neighbours_write_reply n xs (length out) in beside_number R (λ t. t) length out told a h e (b ∙ go R) l
    where
      go : (R : Read (List ℕ)) → text_after R out ≡ out_after (R then λ t. read t) out
      go (refused r) = refl
      go (read t) = refl

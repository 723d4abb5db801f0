-- Laws. Molfiles with the numbers beside them: each case of the reply. Assumes nothing.
use Prim.Native.Nat.{ℕ, ◌≤◌, ◌<◌}
use mathlib.Core.List.{List}
use mathlib.Core.Path.{◌≡◌, refl, sym, ◌∙◌, ap}
use lib.Dec.{ltb}
use lib.ListN.{length}
use Rattle.reply.specs.Read.{Read, refused, read, ◌then◌, as_result, as_read}
use Rattle.block.specs.Block.{bonds_of, block_reply}
use Rattle.molfile.specs.Molfile.{kept_atoms, bytes_of, lines_reply, file_reply}
use Rattle.molfile.specs.Said.{filled_bonds}
use Rattle.molwriter.specs.Written.{molfile_text, molfile_write_reply, filled_text}
use Rattle.calls.specs.Convention.{coded, out_after, number_list, Lent, then_nine}
use Rattle.calls.specs.Blocks.{unlent_reply}
use Rattle.calls.proofs.Laws.{and_on, nine_then, nine_room, nine_behind, beside_lacking, beside_number}
use Rattle.text_calls.specs.Molfiles.{MolfileWritten}
use Rattle.std.specs.Prelude.{Result}
use Rattle.reply.specs.declared.Refusal.{Refusal}

-- READING. What comes before 9, whatever the room is.
pub any_room : (kind : ℕ → List ℕ → Read (Unit {0})) (d : List ℕ) (some room : ℕ) → then_nine (file_reply kind d some) ≡ then_nine (file_reply kind d room)
unfolding file_reply
any_room kind d some room = nine_then (lines_reply d) _ _ (λ _. nine_then (kind (kept_atoms d) (bytes_of d)) _ _ (λ _. nine_room (ltb some (length (bytes_of d))) ∙ sym (nine_room (ltb room (length (bytes_of d))))))

pub bonds_filled : (R : Read (Unit {0})) (xs out : List ℕ) → filled_bonds R xs out ≡ out_after (R then λ _. read xs) out
unfolding filled_bonds
bonds_filled (refused r) xs out = refl
bonds_filled (read u) xs out = refl

-- WRITING.
module _ (n : ℕ) (xs out told : List ℕ) where
  pub write_lacking : (x : ℕ) → length told < 1 → x ≡ coded (unlent_reply n xs) → MolfileWritten n xs out told x out told
  unfolding molfile_write_reply
  write_lacking x h q =
      let k = length (molfile_text n (bonds_of xs)) in
      beside_lacking (molfile_write_reply n xs (length out)) 1 _ _ out told x h (q ∙ ap coded (sym (nine_behind (block_reply n xs) (λ _. ltb (length out) k) (λ _. k))))

  pub write_given : {out' told' : List ℕ} {x : ℕ} (a : Result ℕ Refusal) → 1 ≤ length told → a ≡ as_result (molfile_write_reply n xs (length out))
      → out' ≡ filled_text (molfile_write_reply n xs (length out)) (molfile_text n (bonds_of xs)) out → Lent (number_list (as_read a)) told x told' → MolfileWritten n xs out told x out' told'
  unfolding filled_text
  write_given a h e b l = let R = molfile_write_reply n xs (length out) in beside_number R _ (λ k. k) out told a h (e ∙ ap as_result (sym (and_on R))) (b ∙ go R) l
    where
      go : (R : Read ℕ) → filled_text R (molfile_text n (bonds_of xs)) out ≡ out_after (R then λ _. read (molfile_text n (bonds_of xs))) out
      go (refused r) = refl
      go (read k) = refl

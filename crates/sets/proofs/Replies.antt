-- Laws. The replies, by what the code finds, and that they do not depend on the root. Assumes nothing.
use Prim.Native.Nat.{ℕ, suc, ◌+◌, ◌/◌}
use mathlib.Core.Bool.{true, false}
use mathlib.Core.List.{List}
use mathlib.Core.Path.{◌≡◌, refl, ap}
use native.Mathlib.Omega.{arith}
use lib.ListN.{length}
use borrow.Author.Tests.{eq-eqb, ne_eqb, le-ltb}
use Rattle.graph.specs.Graph.{Within}
use Rattle.reply.specs.Read.{Read, refused, read, ◌then◌, refuse_if, refusal, is_outside, as_result}
use Rattle.reply.specs.declared.Refusal.{Refusal}
use Rattle.block.specs.Block.{bonds_of, graph_of, block_reply}
use Rattle.block.specs.Faults.{inside}
use Rattle.block.specs.Numbered.{bonds_length}
use Rattle.block.specs.Told.{few_atoms}
use Rattle.sets.specs.Merging.{Rooted}
use Rattle.sets.specs.Reply.{sets_of, tree_reply, sets_reply, sets_from_reply}
use Rattle.sets.specs.declared.Sets.{Sets}
use Rattle.std.specs.Prelude.{Ok, Err}

module _ (n : ℕ) (xs : List ℕ) (root : ℕ) where
  pub reply-refused : (r : Refusal) → block_reply n xs ≡ refused r → Err r ≡ as_result (sets_from_reply n xs root)
  unfolding sets_from_reply
  reply-refused r e = rw e

  module _ (fine : block_reply n xs ≡ read tt) where
    pub reply_outside : is_outside n root ≡ true → Err (refusal 18 0) ≡ as_result (sets_from_reply n xs root)
    unfolding sets_from_reply
    reply_outside e = rw (fine, e)

    module _ (there : is_outside n root ≡ false) where
      pub reply_no_tree : (length xs / 2 + 1 ≡ n → ⊥) → Err (refusal 34 0) ≡ as_result (sets_from_reply n xs root)
      unfolding sets_from_reply tree_reply
      reply_no_tree ne = rw (fine, there, ne_eqb (suc (length (bonds_of xs))) n (λ z. ne (omega (arith, bonds_length xs))))

      module _ (few : length xs / 2 + 1 ≡ n) where
        pub reply_rooted : Rooted n xs root
        reply_rooted = record { fine = fine; few = few; start = inside n root there }

        pub reply_counted : {s : Sets} → s ≡ sets_of (graph_of n xs) → Ok s ≡ as_result (sets_from_reply n xs root)
        unfolding sets_from_reply tree_reply
        reply_counted e = rw (fine, there, eq-eqb (suc (length (bonds_of xs))) n (omega (arith, bonds_length xs))) (ap Ok e)

-- WHICHEVER ROOT: the reply does not depend on it, as long as there is such an atom
pub whichever_root : (n : ℕ) (xs : List ℕ) (root : ℕ) → (block_reply n xs ≡ read tt → Within n root) → sets_from_reply n xs root ≡ sets_reply n xs
unfolding sets_from_reply sets_reply
whichever_root n xs root there = go (block_reply n xs) refl
  where
    go : (m : Read (Unit {0})) → block_reply n xs ≡ m → (m then λ _. refuse_if (is_outside n root) 18 0 then λ _. tree_reply n xs) ≡ (m then λ _. tree_reply n xs)
    go (refused r) e = refl
    go (read u) e = let w = there e in rw (ne_eqb root 0 (omega arith), le-ltb n root w.high)

-- atom 1 is there in every block that is not refused
pub from_first : (n : ℕ) (xs : List ℕ) → sets_from_reply n xs 1 ≡ sets_reply n xs
from_first n xs = whichever_root n xs 1 (λ e. record { low = omega arith; high = (few_atoms n xs e).low })

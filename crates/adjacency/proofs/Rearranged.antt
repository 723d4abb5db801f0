-- Laws. The bonds in the order of a written text are the block's in another order, some with their ends turned, each once. Assumes nothing.
use Rattle.std.specs.Prelude.{ℕ, ◌+◌, ◌≤◌, Bool, true, false, cond, List, ◌≡◌, refl}
use Rattle.std.proofs.Common.{true≢false, sym, ◌∙◌, ap, arith}
use Rattle.graph.specs.Graph.{Bond, joins, any_joins}
use Rattle.graph.specs.Choices.{cond_or}
use Rattle.graph.specs.Uses.{join_other}
use Rattle.reply.specs.Read.{read}
use Rattle.block.specs.Block.{bonds_of, block_reply}
use Rattle.block.specs.Told.{each_bond}
use Rattle.adjacency.specs.Neighbours.{bond_list_bytes}
use Rattle.adjacency.specs.Canonical.{canonical, times_joined, Rearranged}
use Rattle.adjacency.proofs.Blocks.{bytes_bonds}
use Rattle.adjacency.proofs.RoundTrip.{same_joins, same_count, fine_again}

one_at_most : (t : Bool) → cond t 1 0 ≤ 1
one_at_most true = omega arith
one_at_most false = omega arith

-- in a block that is not refused no bond stands twice
joined_once : (n : ℕ) (xs : List ℕ) → block_reply n xs ≡ read tt → (u v : ℕ) → times_joined (bonds_of xs) u v ≡ cond (any_joins (bonds_of xs) u v) 1 0
unfolding times_joined any_joins
joined_once n xs fine =
    each_bond n xs fine (λ bs. (u v : ℕ) → times_joined bs u v ≡ cond (any_joins bs u v) 1 0) (λ u v. refl)
    (λ b bs new r u v. ap (λ (k : ℕ). cond (joins b u v) 1 0 + k) (r u v) ∙ sym (cond_or (joins b u v) (any_joins bs u v) 1 (λ j e. true≢false (sym e ∙ join_other bs b u v j new.new))))

pub rearranged : (n : ℕ) (xs : List ℕ) → block_reply n xs ≡ read tt → Rearranged (bonds_of xs) (canonical n (bonds_of xs))
rearranged n xs fine = record { many = same_count n xs fine; times = same; once = λ u v. rw (joined_once n xs fine u v) (one_at_most (any_joins (bonds_of xs) u v)) }
  where
    same : (u v : ℕ) → times_joined (canonical n (bonds_of xs)) u v ≡ times_joined (bonds_of xs) u v
    same u v =
        ap (λ (l : List Bond). times_joined l u v) (sym (bytes_bonds (canonical n (bonds_of xs))))
        ∙ joined_once n (bond_list_bytes (canonical n (bonds_of xs))) (fine_again n xs fine) u v
        ∙ ap (λ (l : List Bond). cond (any_joins l u v) 1 0) (bytes_bonds (canonical n (bonds_of xs)))
        ∙ ap (λ (t : Bool). cond t 1 0) (same_joins n xs fine u v)
        ∙ sym (joined_once n xs fine u v)

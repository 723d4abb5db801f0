-- The place of a refusal of composing at the table is a placement's number, or 0. Assumes nothing.
use Prim.Native.Nat.{ℕ, ◌≤◌}
use mathlib.Core.Bool.{Bool, true, false}
use mathlib.Core.List.{List}
use mathlib.Core.Path.{◌≡◌, sym}
use native.Mathlib.Omega.{arith}
use lib.Dec.{ltb}
use lib.ListN.{length}
use Rattle.reply.specs.Read.{Read, refused, read, refusal, ◌then◌, refuse_if}
use Rattle.reply.specs.Chain.{not_read}
use Rattle.reply.specs.declared.Refusal.{Refusal}
use Rattle.assembly.specs.Placements.{most_placements, shelf_reply}
use Rattle.assembly.proofs.Faults.{shelf_few}
use Rattle.summary.specs.Layout.{summary_bytes}
use Rattle.shelf.specs.Shelf.{shelf_in}
use Rattle.summaries.specs.Composing.{composed_reply}
use Rattle.queues.specs.Table.{table_bytes}
use Rattle.queues.specs.declared.Queue.{Queue}
use Rattle.queues.specs.Queues.{own_places, compose_told}

composed_few : (b xs : List ℕ) (r : Refusal) → composed_reply b xs ≡ refused r → r.place ≤ most_placements
unfolding composed_reply
composed_few b xs r e = shelf_few (shelf_in b) xs r (go (shelf_reply (shelf_in b) xs) _ e)
  where
    go : {A B : Type 0} (m : Read A) (f : A → B) → (m then λ x. read (f x)) ≡ refused r → m ≡ refused r
    go (refused q) f e = cc
    go (read x) f e = absurd (not_read (sym e))

pub told_few : (t : List ℕ) (q : Queue) (xs : List ℕ) (r : Refusal) → compose_told t q xs ≡ refused r → r.place ≤ most_placements
told_few t q xs r = go (ltb (length t) (table_bytes summary_bytes))
  where
    go : (b : Bool) → (refuse_if b 9 0 then λ _. composed_reply (own_places t q) xs) ≡ refused r → r.place ≤ most_placements
    go true e = let same : refusal 9 0 ≡ r = cc in rw (← same) (omega arith)
    go false e = composed_few (own_places t q) xs r e

-- Laws. The text of a block by the sets of its neighbours, and the reply. Assumes nothing.
use Prim.Native.Nat.{ℕ, zero, suc, ◌<◌, ◌≤◌}
use Rattle.std.specs.Prelude.{Bool, ◌&&◌, List, ◌++◌, ◌≡◌, length, take, drop}
use Rattle.std.proofs.Math.Bool.{true, false}
use Rattle.std.proofs.Math.Path.{refl}
use Rattle.std.proofs.Common.{◌∙◌, arith, lt-ltb, le-ltb, ltb-true, take_at}
use Rattle.std.proofs.Math.Dec.{ltb}
use Rattle.graph.specs.Graph.{bonded, any_joins, Within}
use Rattle.reply.specs.Read.{Read, refused, read, refusal}
use Rattle.block.specs.Block.{bonds_of, graph_of, block_reply}
use Rattle.block.specs.Opened.{neighbours_of, opened_near}
use Rattle.block.specs.Drawn.{has_neighbour, opened_near_lem}
use Rattle.block.specs.Told.{few_atoms}
use Rattle.reply.specs.declared.Refusal.{Refusal}
use Rattle.text.specs.Put.{Puts}
use Rattle.text.proofs.Putting.{same_length, at_front}
use Rattle.adjacency.specs.Written.{up_to, is_greater, greater, lines, text_by, written_text, neighbours_write_reply, text_after}
use Rattle.adjacency.specs.Work.{given_reply, joined_in}

-- where two tests agree, the texts agree
up_same : (m : ℕ) (p q : ℕ → Bool) → ((j : ℕ) → Within m j → p j ≡ q j) → up_to m p ≡ up_to m q
unfolding up_to
up_same zero p q h = refl
up_same (suc m) p q h = rw (h (suc m) (omega arith), up_same m p q (λ j w. h j (omega arith)))

module _ (n : ℕ) (p q : ℕ → ℕ → Bool) (h : (i j : ℕ) → Within n i → Within n j → i < j → p i j ≡ q i j) where
  greater_same : (i : ℕ) → Within n i → greater p n i ≡ greater q n i
  unfolding greater
  greater_same i w = up_same n (is_greater p i) (is_greater q i) (λ j v. go j v (ltb i j) refl)
    where
      go : (j : ℕ) → Within n j → (t : Bool) → ltb i j ≡ t → (t && p i j) ≡ (t && q i j)
      go j v true e = h i j w v (ltb-true i j e)
      go j v false e = refl

  lines_same : (m : ℕ) → m ≤ n → lines p n m ≡ lines q n m
  unfolding lines
  lines_same zero l = refl
  lines_same (suc m) l = rw (lines_same m (omega arith), greater_same (suc m) (omega arith))

  pub text_same : text_by p n ≡ text_by q n
  unfolding text_by
  text_same = rw (lines_same n (omega arith))

module _ (n : ℕ) (xs : List ℕ) (fine : block_reply n xs ≡ read tt) where
  pub by_sets : (near : List ℕ) → near ≡ opened_near n xs → text_by (joined_in near) n ≡ written_text n (bonds_of xs)
  unfolding bonded
  by_sets near e =
      let a = few_atoms n xs fine in
      rw (e ∙ opened_near_lem n xs fine) (text_same n (joined_in (neighbours_of (graph_of n xs))) (any_joins (bonds_of xs)) (λ i j v w l. has_neighbour (graph_of n xs) i j (omega arith) w))

  pub write_given : (room : ℕ) → neighbours_write_reply n xs room ≡ given_reply (written_text n (bonds_of xs)) room
  unfolding neighbours_write_reply
  write_given room = rw fine

pub write_refused : (n : ℕ) (xs : List ℕ) (room : ℕ) (r : Refusal) → block_reply n xs ≡ refused r → neighbours_write_reply n xs room ≡ refused r
unfolding neighbours_write_reply
write_refused n xs room r e = rw e

-- a text that is given out, and what that leaves in the lent bytes
module _ (t : List ℕ) (room : ℕ) where
  pub given_short : room < length t → given_reply t room ≡ refused (refusal 9 0)
  given_short h = rw (lt-ltb room (length t) h)

  pub given_all : length t ≤ room → given_reply t room ≡ read t
  given_all h = rw (le-ltb room (length t) h)

module _ {x : Read (List ℕ)} (out : List ℕ) where
  pub text_stays : {r : Refusal} → x ≡ refused r → out ≡ text_after x out
  text_stays e = rw e

  pub text_put : {t last : List ℕ} → x ≡ read t → last ≡ t ++ drop (length t) out → last ≡ text_after x out
  text_put e p = rw e p

-- a text that there is room for stands at the front of what it is put into
module _ {before last t : List ℕ} {r : ℕ} (p : Puts before 0 t last r) (h : length t ≤ length before) where
  pub front_within : r ≤ length last
  front_within = omega (arith, (at_front p h).0, same_length p)

  pub front_is : take r last ≡ t
  front_is = rw ((at_front p h).0, (at_front p h).1) (take_at t (drop (length t) before) (length t) refl)

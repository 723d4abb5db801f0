-- Laws. What the one number of a C reply about a neighbour text tells, with nothing assumed; of a text shorter than 2^56 bytes it tells the place itself.
use Rattle.std.specs.Prelude.{ℕ, suc, ◌+◌, ◌≤◌, ◌<◌, Bool, not, ◌≡◌, refl, ltb, length}
use Rattle.std.proofs.Math.Bool.{true, false}
use mathlib.Core.List.{List, [], ◌∷◌}
use Rattle.std.proofs.Common.{arith}
use borrow.Author.Tests.{ltb-true, ltb-false}
use Rattle.graph.specs.Graph.{Bond, connected}
use Rattle.reply.specs.Read.{refuse_if, refuse_for, is_outside, if_else}
use Rattle.reply.specs.Chain.{if_read}
use Rattle.text.specs.Text.{is_digit}
use Rattle.block.specs.Block.{most_atoms, most_bytes, bonds_of, bond_fault, block_reply}
use Rattle.adjacency.specs.Neighbours.{TextNumber, Run, none, run, longer, ended, numbers_from, numbers, fault_at, bytes_reply, is_last, label_after, last_reply, shape_from, atom_count_reply, Step, described, bonded, steps, bonds_in, steps_reply, bonds_length, molecule, block_of, neighbours_reply}
use Rattle.adjacency.specs.Written.{written_text, neighbours_write_reply}
use Rattle.calls.specs.Convention.{most_place}
use Rattle.told.specs.Bounded.{Bounded, then_bounded, if_bounded, for_bounded, wider, bond_number, block_bounded}
use Rattle.text_calls.specs.Texts.{text_reply, told_reply}
use Rattle.told.specs.Recovered.{Tells, roomed, TellsText, roomed_text}

module _ (c : ℕ) (big : suc most_bytes < c) where
  -- the numbers of a text stand in it
  data Low : List TextNumber → Type 0 where
    nothing : Low []
    before : {x : TextNumber} {xs : List TextNumber} → x.place < c → Low xs → Low (x ∷ xs)

  abbrev LowRun : Run → Type 0
  LowRun none = Unit {0}
  LowRun (run x) = x.place < c

  longer_low : (r : Run) (at b : ℕ) → LowRun r → at < c → LowRun (longer r at b)
  longer_low none at b h l = l
  longer_low (run x) at b h l = h

  ended_low : (r : Run) {xs : List TextNumber} → LowRun r → Low xs → Low (ended r xs)
  ended_low none h l = l
  ended_low (run x) h l = before h l

  numbers_low : (r : Run) (at : ℕ) (bs : List ℕ) → LowRun r → at + length bs ≤ c → Low (numbers_from r at bs)
  unfolding numbers_from
  numbers_low r at [] h l = ended_low r h nothing
  numbers_low r at (b ∷ bs) h l =
      go (is_digit b) (numbers_low (longer r at b) (at + 1) bs (longer_low r at b h (omega arith)) (omega arith)) (numbers_low none (at + 1) bs tt (omega arith))
    where
      go : (t : Bool) → Low (numbers_from (longer r at b) (at + 1) bs) → Low (numbers_from none (at + 1) bs)
          → Low (if_else t (λ _. numbers_from (longer r at b) (at + 1) bs) (λ _. ended r (numbers_from none (at + 1) bs)))
      go true p q = p
      go false p q = ended_low r h q

  -- 22
  shape_bounded : (end label : ℕ) (xs : List TextNumber) → end < c → Low xs → Bounded c (shape_from end label xs)
  unfolding shape_from
  shape_bounded end label [] l h = record { low = omega arith; high = omega arith; place = l }
  shape_bounded end label (x ∷ xs) l (before p h) = go (is_last label x.value) (shape_bounded end (label_after label x.value) xs l h) xs h
    where
      go : (t : Bool) → Bounded c (shape_from end (label_after label x.value) xs) → (ys : List TextNumber) → Low ys
          → Bounded c (if_else t (λ _. last_reply ys) (λ _. shape_from end (label_after label x.value) xs))
      go true b [] q = tt
      go true b (y ∷ ys) (before q r) = record { low = omega arith; high = omega arith; place = q }
      go false b ys q = b

  count_bounded : (end : ℕ) (xs : List TextNumber) → end < c → Low xs → Bounded c (atom_count_reply end xs)
  count_bounded end [] l h = record { low = omega arith; high = omega arith; place = l }
  count_bounded end (x ∷ xs) l (before p h) = then_bounded c (shape_from end 0 xs) _ (shape_bounded end 0 xs l h) (λ u e. tt)

  -- 3 to 6 have the number of the next bond
  steps_bounded : (n : ℕ) (done : List Bond) (ss : List Step) → suc (length done + length (bonds_in ss)) < c → Bounded c (steps_reply n done ss)
  unfolding steps_reply bonds_in
  steps_bounded n done [] l = tt
  steps_bounded n done (described x ∷ ss) l =
      then_bounded c (refuse_if (ltb n x) 3 (suc (length done))) _ (if_bounded c (ltb n x) 3 (suc (length done)) (omega (arith, l))) (λ u e. steps_bounded n done ss l)
  steps_bounded n done (bonded b ∷ ss) l =
      then_bounded c (refuse_for (bond_fault n done b) (suc (length done))) _ (for_bounded c (bond_fault n done b) (suc (length done)) (bond_number n done b) (omega (arith, l))) (λ u e. steps_bounded n (b ∷ done) ss (omega (arith, l)))

  read_bounded : (n : ℕ) (ss : List Step) (room : ℕ) → Bounded c (block_of n ss room)
  unfolding block_of
  read_bounded n ss room =
      let bytes = bonds_length (bonds_in ss) in
      then_bounded c (refuse_if (is_outside most_atoms n) 1 0) _ (if_bounded c (is_outside most_atoms n) 1 0 (omega arith)) (λ u e.
      then_bounded c (refuse_if (ltb most_bytes bytes) 2 0) _ (if_bounded c (ltb most_bytes bytes) 2 0 (omega arith)) (λ v f.
      then_bounded c (steps_reply n [] ss) _ (steps_bounded n [] ss (omega (arith, ltb-false most_bytes bytes (if_read (ltb most_bytes bytes) 2 0 f)))) (λ w g.
      then_bounded c (refuse_if (not (connected (molecule n ss))) 7 0) _ (if_bounded c (not (connected (molecule n ss))) 7 0 (omega arith)) (λ x h.
      then_bounded c (refuse_if (ltb room bytes) 9 0) _ (if_bounded c (ltb room bytes) 9 0 (omega arith)) (λ y i. tt)))))

  module _ (t : List ℕ) (l : length t < c) where
    fault_bounded : Bounded c (bytes_reply t)
    fault_bounded = go (ltb (fault_at t) (length t)) (ltb-true (fault_at t) (length t))
      where
        go : (b : Bool) → (b ≡ true → fault_at t < length t) → Bounded c (refuse_if b 21 (fault_at t))
        go true h = record { low = omega arith; high = omega arith; place = omega (arith, h refl) }
        go false h = tt

    text_bounded : (room : ℕ) → Bounded c (neighbours_reply t room)
    unfolding neighbours_reply
    text_bounded room =
        then_bounded c (bytes_reply t) _ fault_bounded (λ u e.
        then_bounded c (atom_count_reply (length t) (numbers t)) _ (count_bounded (length t) (numbers t) l (numbers_low none 0 t tt (omega (arith, l)))) (λ c f.
        read_bounded c.count (steps c.rest) room))

-- WHATEVER THE TEXT: 0 exactly where nothing is refused; else the refusal's number, and its place as far as 56 bits go
pub neighbours_read_tells : (t : List ℕ) (room entries : ℕ) → TellsText (text_reply t room entries)
neighbours_read_tells t room entries =
    let c = suc (suc (length t + most_bytes)) in
    roomed_text c entries 2 (neighbours_reply t room) (omega arith) (text_bounded c (omega arith) t (omega arith) room)

-- the place of a refused text is a place in it
pub neighbours_read_place : (t : List ℕ) → length t < most_place → (room entries : ℕ) → Tells (text_reply t room entries)
neighbours_read_place t l room entries = roomed entries 2 (neighbours_reply t room) (text_bounded most_place (omega arith) t l room)

pub neighbours_written_tells : (n : ℕ) (xs : List ℕ) (room entries : ℕ) → Tells (told_reply n xs room entries)
unfolding neighbours_write_reply
neighbours_written_tells n xs room entries =
    let size = length (written_text n (bonds_of xs)) in
    roomed entries 1 (neighbours_write_reply n xs room)
    (then_bounded most_place (block_reply n xs) _ (wider (suc most_bytes) most_place (block_reply n xs) (omega arith) (block_bounded n xs)) (λ u e.
    then_bounded most_place (refuse_if (ltb room size) 9 0) _ (if_bounded most_place (ltb room size) 9 0 (omega arith)) (λ v f. tt)))

-- Laws. A molecule written out with the numbers of its atoms and bonds beside it: each case of the reply. Assumes nothing.
use Prim.Native.Nat.{ℕ, ◌+◌, ◌*◌, ◌≤◌}
use mathlib.Core.List.{List, ◌++◌}
use mathlib.Core.Path.{◌≡◌, refl, sym, ◌∙◌, ap}
use native.Mathlib.Omega.{arith}
use borrow.Author.Tests.{ltb-false}
use lib.Dec.{ltb}
use lib.ListN.{length, drop}
use lib.Seq.{sets, sets-eq}
use Rattle.graph.specs.Graph.{Graph}
use Rattle.reply.specs.Read.{Read, refused, read, ◌then◌, refuse_if}
use Rattle.reply.specs.Chain.{then-read, if_read}
use Rattle.deck.specs.Deck.{deck_reply}
use Rattle.deck.specs.Molecule.{molecule_of}
use Rattle.deck.specs.declared.Form.TheVariants.{Composed}
use Rattle.whole.specs.Whole.{pair_numbers, whole_reply, numbers_after}
use Rattle.whole.specs.Laws.{pairs_length}
use Rattle.calls.specs.Convention.{over, out_after, then_nine}
use Rattle.calls.proofs.Laws.{nine_behind}

-- what comes before 9, whatever the room is
before_nine : (d : List ℕ) (room : ℕ) → then_nine (whole_reply d room) ≡ then_nine (deck_reply Composed d)
unfolding whole_reply
before_nine d room = nine_behind (deck_reply Composed d) (λ k. ltb room (2 * length (molecule_of d k).bonds)) (molecule_of d)

pub any_room : (d : List ℕ) (some room : ℕ) → then_nine (whole_reply d some) ≡ then_nine (whole_reply d room)
any_room d some room = before_nine d some ∙ sym (before_nine d room)

-- a molecule that is written out fits
fits : (d : List ℕ) (room : ℕ) (g : Graph) → whole_reply d room ≡ read g → length (pair_numbers g.bonds) ≤ room
unfolding whole_reply
fits d room g e =
    let (k, a, f) = then-read (deck_reply Composed d) _ e in
    let (u, b, h) = then-read (refuse_if (ltb room (2 * length (molecule_of d k).bonds)) 9 0) (λ _. read (molecule_of d k)) f in
    let same : molecule_of d k ≡ g = cc in
    rw (← same) (omega (arith, ltb-false room (2 * length (molecule_of d k).bonds) (if_read _ 9 0 b), pairs_length (molecule_of d k).bonds))

put_over : (xs out : List ℕ) → length xs ≤ length out → sets out 0 xs ≡ over xs out
put_over xs out h = let z : 0 + length xs ≡ length xs = omega arith in sets-eq xs out 0 (omega arith) ∙ ap (λ (n : ℕ). xs ++ drop n out) z

pub numbers_filled : (d out : List ℕ) → numbers_after (whole_reply d (length out)) out ≡ out_after (whole_reply d (length out) then λ g. read (pair_numbers g.bonds)) out
unfolding numbers_after
numbers_filled d out = go (whole_reply d (length out)) refl
  where
    go : (R : Read Graph) → whole_reply d (length out) ≡ R → numbers_after R out ≡ out_after (R then λ g. read (pair_numbers g.bonds)) out
    go (refused r) e = refl
    go (read g) e = put_over (pair_numbers g.bonds) out (fits d (length out) g e)

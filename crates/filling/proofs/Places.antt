-- Filling one place of a book, lent as a part of it: the reply, and the book afterwards. Assumes nothing.
use Prim.Native.Nat.{ℕ, zero, suc, ◌+◌, ◌*◌, ◌-◌, ◌≤◌}
use mathlib.Core.Bool.{false}
use mathlib.Core.List.{List, [], ◌∷◌, ◌++◌, append_assoc}
use mathlib.Core.Path.{◌≡◌, refl, sym, ◌∙◌, ap}
use native.Mathlib.Omega.{arith}
use borrow.Author.Tests.{le-ltb}
use lib.ListN.{length, take, drop, length-take, length-drop, take-append-drop}
use lib.Seq.{sets, sets-eq, drop-drop}
use Rattle.reply.specs.Read.{Read, refused, read, ◌then◌, refuse_if}
use Rattle.reply.specs.declared.Refusal.{Refusal}
use Rattle.block.specs.Block.{graph_of, block_reply}
use Rattle.summary.specs.Layout.{summary_bytes}
use Rattle.summary.specs.Summary.{summary_of}
use Rattle.summary.specs.Back.{summary_fits}
use Rattle.filling.specs.Reply.{fill_reply, filled_summary, fill_bytes}

-- a part of a list that is lent, stored to at its front, and put back
behind : (n w : ℕ) (d : List ℕ) → n ≤ w → drop n (take w d) ++ drop w d ≡ drop n d
behind zero w d h = take-append-drop w d
behind (suc n) zero d h = absurd (omega arith)
behind (suc n) (suc w) [] h = refl
behind (suc n) (suc w) (x ∷ d) h = behind n w d (omega arith)

in_place : (w at : ℕ) (s v : List ℕ) → length v ≤ w → at + w ≤ length s → take at s ++ (sets (take w (drop at s)) 0 v ++ drop w (drop at s)) ≡ sets s at v
in_place w at s v l h =
    let d = drop at s in
    let z : 0 + length v ≤ length (take w d) = omega (arith, length-take w d, length-drop at s) in
    let n : 0 + length v ≡ length v = omega arith in
    ap (λ (t : List ℕ). take at s ++ (t ++ drop w d)) (sets-eq v (take w d) 0 z ∙ ap (λ (k : ℕ). v ++ drop k (take w d)) n)
    ∙ ap (λ (t : List ℕ). take at s ++ t) (append_assoc v (drop (length v) (take w d)) (drop w d) ∙ ap (λ (t : List ℕ). v ++ t) (behind (length v) w d l ∙ drop-drop (length v) at s))
    ∙ sym (append_assoc (take at s) v (drop (at + length v) s))
    ∙ sym (sets-eq v s at (omega arith))

untouched : (w at : ℕ) (s : List ℕ) → take at s ++ (take w (drop at s) ++ drop w (drop at s)) ≡ s
untouched w at s = ap (λ (t : List ℕ). take at s ++ t) (take-append-drop w (drop at s)) ∙ take-append-drop at s

-- place i of a book that has it
module _ (b : List ℕ) (i : ℕ) (room : summary_bytes * i + summary_bytes ≤ length b) (x n : ℕ) (xs : List ℕ) where
  abbrev lent : List ℕ
  lent = take (summary_bytes * i + summary_bytes - summary_bytes * i) (drop (summary_bytes * i) b)

  pub place_told : fill_reply n xs (length (take (summary_bytes * i + summary_bytes - summary_bytes * i) (drop (summary_bytes * i) b))) ≡ block_reply n xs
  unfolding fill_reply
  place_told = rw (le-ltb (length lent) summary_bytes (omega (arith, length-take (summary_bytes * i + summary_bytes - summary_bytes * i) (drop (summary_bytes * i) b), length-drop (summary_bytes * i) b))) (go (block_reply n xs))
    where
      go : (r : Read (Unit {0})) → (r then λ _. refuse_if false 9 0) ≡ r
      go (refused q) = refl
      go (read u) = refl

  module _ (new : List ℕ) (q : new ≡ fill_bytes x n xs (take (summary_bytes * i + summary_bytes - summary_bytes * i) (drop (summary_bytes * i) b))) where
    pub place_stays : (r : Refusal) → block_reply n xs ≡ refused r → take (summary_bytes * i) b ++ (new ++ drop (summary_bytes * i + summary_bytes - summary_bytes * i) (drop (summary_bytes * i) b)) ≡ b
    unfolding filled_summary
    place_stays r e = rw (q, place_told, e) (untouched (summary_bytes * i + summary_bytes - summary_bytes * i) (summary_bytes * i) b)

    pub place_puts : block_reply n xs ≡ read tt
        → take (summary_bytes * i) b ++ (new ++ drop (summary_bytes * i + summary_bytes - summary_bytes * i) (drop (summary_bytes * i) b)) ≡ sets b (summary_bytes * i) (summary_of x (graph_of n xs))
    unfolding filled_summary
    place_puts e =
        let width : summary_bytes * i + summary_bytes - summary_bytes * i ≡ summary_bytes = omega arith in
        rw (q, place_told, e, width) (in_place summary_bytes (summary_bytes * i) b (summary_of x (graph_of n xs)) (summary_fits x n xs e) room)

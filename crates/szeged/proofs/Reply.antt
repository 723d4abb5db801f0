-- Laws. The reply, test by test; that it and the entries are determined; that the entries add up to the index; and that the index of a tree is W. Assumes nothing.
use Prim.Native.Nat.{ℕ, ◌+◌, ◌/◌, ◌≤◌, ◌<◌}
use mathlib.Core.List.{List}
use mathlib.Core.Path.{◌≡◌, sym, ◌∙◌, ap}
use native.Mathlib.Omega.{arith}
use borrow.Author.Tests.{lt-ltb, le-ltb}
use lib.Dec.{ltb}
use lib.ListN.{length, take, drop, length-map}
use lib.Seq.{take_at}
use Rattle.graph.specs.Graph.{wiener}
use Rattle.graph.specs.BondSums.{added, added-map}
use Rattle.reply.specs.Read.{refused, read, refuse_if, refusal, as_result}
use Rattle.reply.specs.Chain.{then-read, read_back}
use Rattle.block.specs.Block.{bonds_of, graph_of, block_reply}
use Rattle.block.specs.Told.{molecule}
use Rattle.block.specs.Numbered.{bonds_length}
use Rattle.block.specs.Lent.{filled_bonds}
use Rattle.reply.specs.declared.Refusal.{Refusal}
use Rattle.szeged.specs.Szeged.{szeged_term, szeged_terms, szeged}
use Rattle.szeged.specs.Reply.{szeged_reply, filled_terms, szeged_entries}
use Rattle.szeged.specs.Work.{Done}
use Rattle.szeged.proofs.Tree.{szeged_of_tree}
use Rattle.std.specs.Prelude.{Result, Ok}

module _ (n : ℕ) (xs : List ℕ) where
  pub reply-refused : (room : ℕ) {r : Refusal} → block_reply n xs ≡ refused r → szeged_reply n xs room ≡ refused r
  unfolding szeged_reply
  reply-refused room e = rw e

  module _ (fine : block_reply n xs ≡ read tt) (room : ℕ) where
    pub reply_short : room < length xs / 2 → szeged_reply n xs room ≡ refused (refusal 9 0)
    unfolding szeged_reply
    reply_short l = rw (fine, lt-ltb room (length (bonds_of xs)) (omega (arith, bonds_length xs)))

    pub reply_done : length xs / 2 ≤ room → szeged_reply n xs room ≡ read (szeged (graph_of n xs))
    unfolding szeged_reply
    reply_done l = rw (fine, le-ltb room (length (bonds_of xs)) (omega (arith, bonds_length xs)))

  -- a refusal leaves the entries as they are
  pub entries_stay : (out : List ℕ) {r : Refusal} → szeged_reply n xs (length out) ≡ refused r → out ≡ szeged_entries n xs out
  unfolding filled_terms
  entries_stay out e = rw e

  pub entries_done : {out new : List ℕ} {s r : ℕ} → szeged_reply n xs (length out) ≡ read s → length xs / 2 ≤ length out → Done n xs out new r → new ≡ szeged_entries n xs out
  unfolding filled_terms
  entries_done e room d = filled_bonds (szeged_term (graph_of n xs)) xs d.entries room ∙ rw e

-- THE PROMISE DETERMINES the reply and the entries
pub one_reply : (n : ℕ) (xs out : List ℕ) (r s : Result ℕ Refusal) (o p : List ℕ) → r ≡ as_result (szeged_reply n xs (length out)) → o ≡ szeged_entries n xs out
    → s ≡ as_result (szeged_reply n xs (length out)) → p ≡ szeged_entries n xs out → (r ≡ s) × (o ≡ p)
one_reply n xs out r s o p a b c d = (a ∙ sym c, b ∙ sym d)

-- what a reply that is the index tells
told : (n : ℕ) (xs : List ℕ) (room s : ℕ) → szeged_reply n xs room ≡ read s → (block_reply n xs ≡ read tt) × (szeged (graph_of n xs) ≡ s)
unfolding szeged_reply
told n xs room s e =
    let (u, fine, f) = then-read (block_reply n xs) _ e in
    let (v, p, h) = then-read (refuse_if (ltb room (length (bonds_of xs))) 9 0) _ f in
    (fine, cc)

-- THE ENTRIES ADD UP to the index
pub adds_up : (n : ℕ) (xs out : List ℕ) (s : ℕ) → szeged_reply n xs (length out) ≡ read s → added (take (length (bonds_of xs)) (szeged_entries n xs out)) ≡ s
unfolding filled_terms
adds_up n xs out s e =
    rw e
    (ap added (take_at (szeged_terms (graph_of n xs)) (drop (length (bonds_of xs)) out) (length (bonds_of xs)) (length-map (bonds_of xs) (szeged_term (graph_of n xs))))
    ∙ added-map (szeged_term (graph_of n xs)) (bonds_of xs)
    ∙ (told n xs (length out) s e).1)

-- THE TREES: for every block that is not refused and has one bond fewer than atoms the index is W
pub szeged_tree : (n : ℕ) (xs : List ℕ) → block_reply n xs ≡ read tt → length (bonds_of xs) + 1 ≡ n → szeged (graph_of n xs) ≡ wiener (graph_of n xs)
szeged_tree n xs fine few = szeged_of_tree (molecule n xs fine) few

-- and so is the index that is told
pub tree_told : (n : ℕ) (xs : List ℕ) (room : ℕ) (r : Result ℕ Refusal) → r ≡ as_result (szeged_reply n xs room)
    → (w : ℕ) → r ≡ Ok w → length (bonds_of xs) + 1 ≡ n → w ≡ wiener (graph_of n xs)
tree_told n xs room r e w i few =
    let (fine, is) = told n xs room w (sym (read_back (Ok w) (szeged_reply n xs room) (sym i ∙ e))) in
    sym is ∙ szeged_tree n xs fine few

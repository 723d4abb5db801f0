-- The reply, test by test; that it and the entries are determined; and that the entries add up to D times W. Assumes nothing.
use Prim.Native.Nat.{ℕ, ◌*◌, ◌/◌, ◌≤◌, ◌<◌}
use mathlib.Core.List.{List, map}
use mathlib.Core.Path.{◌≡◌, sym, ◌∙◌, ap}
use native.Mathlib.Omega.{arith}
use borrow.Author.Tests.{lt-ltb, le-ltb}
use lib.Dec.{ltb}
use lib.ListN.{length, take, drop, length-map}
use lib.Seq.{take_at}
use Rattle.graph.specs.Graph.{wiener}
use Rattle.graph.specs.BondSums.{added, added-map}
use Rattle.graph.specs.Paths.{denominator, share}
use Rattle.graph.proofs.UsesLaws.{shares_total}
use Rattle.reply.specs.Read.{refused, read, refuse_if, refusal, as_result}
use Rattle.reply.specs.Chain.{then-read}
use Rattle.block.specs.Block.{bonds_of, graph_of, block_reply}
use Rattle.block.specs.Told.{molecule}
use Rattle.block.specs.Numbered.{bond_at, bonds_length}
use Rattle.block.specs.Lent.{EntriesFilled, filled_bonds}
use Rattle.reply.specs.declared.Refusal.{Refusal}
use Rattle.shares.specs.Reply.{most_denominator, shares_reply, filled_shares, shares_entries}
use Rattle.shares.proofs.Blocks.{plain}
use Rattle.std.specs.Prelude.{Result}

module _ (n : ℕ) (xs : List ℕ) where
  pub reply-refused : (room : ℕ) {r : Refusal} → block_reply n xs ≡ refused r → shares_reply n xs room ≡ refused r
  unfolding shares_reply
  reply-refused room e = rw e

  module _ (fine : block_reply n xs ≡ read tt) (room : ℕ) where
    pub reply_short : room < length xs / 2 → shares_reply n xs room ≡ refused (refusal 9 0)
    unfolding shares_reply
    reply_short l = rw (fine, lt-ltb room (length (bonds_of xs)) (omega (arith, bonds_length xs)))

    module _ (fits : length xs / 2 ≤ room) where
      pub reply_large : most_denominator < denominator (graph_of n xs) → shares_reply n xs room ≡ refused (refusal 8 0)
      unfolding shares_reply
      reply_large l = rw (fine, le-ltb room (length (bonds_of xs)) (omega (arith, bonds_length xs)), lt-ltb most_denominator (denominator (graph_of n xs)) l)

      pub reply_done : denominator (graph_of n xs) ≤ most_denominator → shares_reply n xs room ≡ read (denominator (graph_of n xs))
      unfolding shares_reply
      reply_done l = rw (fine, le-ltb room (length (bonds_of xs)) (omega (arith, bonds_length xs)), le-ltb most_denominator (denominator (graph_of n xs)) l)

  -- a refusal leaves the entries as they are
  pub entries_stay : (out : List ℕ) {r : Refusal} → shares_reply n xs (length out) ≡ refused r → out ≡ shares_entries n xs out
  unfolding filled_shares
  entries_stay out e = rw e

  pub entries_done : {out new : List ℕ} {d : ℕ} → shares_reply n xs (length out) ≡ read d → EntriesFilled (length xs / 2) (λ k. share (graph_of n xs) (bond_at xs k)) out new
      → length xs / 2 ≤ length out → new ≡ shares_entries n xs out
  unfolding filled_shares
  entries_done e f room = filled_bonds (share (graph_of n xs)) xs f room ∙ rw e

-- THE PROMISE DETERMINES the reply and the entries
pub one_reply : (n : ℕ) (xs out : List ℕ) (r s : Result ℕ Refusal) (o p : List ℕ) → r ≡ as_result (shares_reply n xs (length out)) → o ≡ shares_entries n xs out
    → s ≡ as_result (shares_reply n xs (length out)) → p ≡ shares_entries n xs out → (r ≡ s) × (o ≡ p)
one_reply n xs out r s o p a b c d = (a ∙ sym c, b ∙ sym d)

-- what a reply that is D tells
told : (n : ℕ) (xs : List ℕ) (room d : ℕ) → shares_reply n xs room ≡ read d → (block_reply n xs ≡ read tt) × (denominator (graph_of n xs) ≡ d)
unfolding shares_reply
told n xs room d e =
    let (u, fine, f) = then-read (block_reply n xs) _ e in
    let (v, p, g) = then-read (refuse_if (ltb room (length (bonds_of xs))) 9 0) _ f in
    let (w, q, h) = then-read (refuse_if (ltb most_denominator (denominator (graph_of n xs))) 8 0) _ g in
    (fine, cc)

-- THE ENTRIES ADD UP: those of the bonds make D times W
pub adds_up : (n : ℕ) (xs out : List ℕ) (d : ℕ) → shares_reply n xs (length out) ≡ read d
    → added (take (length (bonds_of xs)) (shares_entries n xs out)) ≡ d * wiener (graph_of n xs)
unfolding filled_shares
adds_up n xs out d e =
    let (fine, is) = told n xs (length out) d e in
    rw e
    (ap added (take_at (map (share (graph_of n xs)) (bonds_of xs)) (drop (length (bonds_of xs)) out) (length (bonds_of xs)) (length-map (bonds_of xs) (share (graph_of n xs))))
    ∙ added-map (share (graph_of n xs)) (bonds_of xs)
    ∙ shares_total (molecule n xs fine) (plain n xs fine)
    ∙ ap (λ (x : ℕ). x * wiener (graph_of n xs)) is)

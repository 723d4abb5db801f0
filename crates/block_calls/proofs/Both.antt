-- Laws. A number for each bond with one number beside them: each case of the reply; contributions and Szeged terms as they are lent. Assumes nothing.
use Prim.Native.Nat.{ℕ, ◌≤◌, ◌<◌}
use mathlib.Core.Bool.{Bool, true, false}
use mathlib.Core.List.{List, [], ◌∷◌, ◌++◌, map}
use mathlib.Core.Path.{◌≡◌, refl, sym, ◌∙◌, ap}
use borrow.Author.Tests.{lt-ltb, le-ltb}
use lib.Dec.{ltb}
use lib.ListN.{length, drop, length-map}
use Rattle.reply.specs.Read.{Read, refused, read, ◌then◌, refuse_if, refusal}
use Rattle.reply.specs.declared.Refusal.{Refusal}
use Rattle.graph.specs.Graph.{Bond}
use Rattle.graph.specs.Paths.{share}
use Rattle.block.specs.Block.{graph_of, bonds_of, block_reply}
use Rattle.shares.specs.Reply.{shares_reply, filled_shares, shares_entries}
use Rattle.szeged.specs.Szeged.{szeged_term, szeged_terms, szeged}
use Rattle.szeged.specs.Reply.{szeged_reply, filled_terms, szeged_entries}
use Rattle.calls.specs.Convention.{code, coded, over, out_after, number_list, Lent, then_nine}
use Rattle.calls.specs.Beside.{Beside}
use Rattle.calls.specs.Blocks.{unlent_reply}
use Rattle.calls.proofs.Laws.{number_fits}
use Rattle.block_calls.specs.Replies.{beside_reply}

unlent_is : (B : Read (Unit {0})) (rest : Unit {0} → Read ℕ) → (r : Refusal) × (then_nine B ≡ refused r) × ((B then λ _. refuse_if true 9 0 then rest) ≡ refused r)
unlent_is (refused r) rest = (r, refl, refl)
unlent_is (read u) rest = (refusal 9 0, refl, refl)

module _ (n : ℕ) (bonds : List ℕ) (R : Read ℕ) (numbers each one : List ℕ) where
  -- a refusal leaves both outputs as they were
  of_refusal : (r : Refusal) (x : ℕ) (one' : List ℕ) → beside_reply n bonds (length one) R ≡ refused r → x ≡ code r → one' ≡ one → Beside (beside_reply n bonds (length one) R) (λ _. numbers) (λ d. d ∷ []) each one x each one'
  of_refusal r x one' e q s = record { replied = rw e q; first = rw e refl; second = rw e s }

  -- no entry for the one number: the block's refusal, or 9
  pub block_lacking : (x : ℕ) {one' : List ℕ} → length one < 1 → (x ≡ coded (unlent_reply n bonds)) × (one' ≡ one) → Beside (beside_reply n bonds (length one) R) (λ _. numbers) (λ d. d ∷ []) each one x each one'
  block_lacking x h q =
      let (r, e, f) = unlent_is (block_reply n bonds) (λ _. R) in
      of_refusal r x _ (rw (lt-ltb (length one) 1 h) f) (q.0 ∙ ap coded e) q.1

  -- an entry for it: the library's answer, which refuses what the block's check refuses
  module _ (stops : (r : Refusal) → block_reply n bonds ≡ refused r → R ≡ refused r) (room : 1 ≤ length one) where
    same : beside_reply n bonds (length one) R ≡ R
    same = rw (le-ltb (length one) 1 room) (go (block_reply n bonds) refl)
      where
        go : (B : Read (Unit {0})) → block_reply n bonds ≡ B → (B then λ _. R) ≡ R
        go (refused r) e = sym (stops r e)
        go (read u) e = refl

    pub block_given : {each' one' : List ℕ} {x : ℕ} → each' ≡ out_after (R then λ _. read numbers) each → Lent (number_list R) one x one'
        → Beside (beside_reply n bonds (length one) R) (λ _. numbers) (λ d. d ∷ []) each one x each' one'
    block_given s l =
        let (p, q) = number_fits R room l in
        record { replied = p ∙ rw same refl; first = s ∙ rw same refl; second = q ∙ rw same refl }

-- the lent entries, as the convention has them
each_lent : (f : Bond → ℕ) (bs : List Bond) (out : List ℕ) → map f bs ++ drop (length bs) out ≡ over (map f bs) out
each_lent f bs out = ap (λ (k : ℕ). map f bs ++ drop k out) (sym (length-map bs f))

pub shares_lent : (n : ℕ) (bonds out : List ℕ) → shares_entries n bonds out ≡ out_after (shares_reply n bonds (length out) then λ _. read (map (share (graph_of n bonds)) (bonds_of bonds))) out
unfolding filled_shares
shares_lent n bonds out = go (shares_reply n bonds (length out))
  where
    go : (R : Read ℕ) → filled_shares R (graph_of n bonds) out ≡ out_after (R then λ _. read (map (share (graph_of n bonds)) (bonds_of bonds))) out
    go (refused r) = refl
    go (read d) = each_lent (share (graph_of n bonds)) (bonds_of bonds) out

-- with no entry for the index and none for a term: the block's refusal, or 9
pub szeged_unlent : (n : ℕ) (bonds one one' : List ℕ) (x : ℕ) → length one < 1 → Lent (number_list (szeged_reply n bonds 0)) one x one' → (x ≡ coded (unlent_reply n bonds)) × (one' ≡ one)
unfolding szeged_reply
szeged_unlent n bonds one one' x h = go (block_reply n bonds) (ltb 0 (length (bonds_of bonds)))
  where
    go : (B : Read (Unit {0})) (t : Bool) → Lent (number_list (B then λ _. refuse_if t 9 0 then λ _. read (szeged (graph_of n bonds)))) one x one' → (x ≡ coded (then_nine B)) × (one' ≡ one)
    go (refused r) t l = (l.replied, l.lent)
    go (read u) true l = (l.replied, l.lent)
    go (read u) false l = (rw (lt-ltb (length one) 1 h) at l.replied, rw (lt-ltb (length one) 1 h) at l.lent)

pub szeged_lent : (n : ℕ) (bonds out : List ℕ) → szeged_entries n bonds out ≡ out_after (szeged_reply n bonds (length out) then λ _. read (szeged_terms (graph_of n bonds))) out
unfolding filled_terms
szeged_lent n bonds out = go (szeged_reply n bonds (length out))
  where
    go : (R : Read ℕ) → filled_terms R (graph_of n bonds) out ≡ out_after (R then λ _. read (szeged_terms (graph_of n bonds))) out
    go (refused r) = refl
    go (read x) = each_lent (szeged_term (graph_of n bonds)) (bonds_of bonds) out

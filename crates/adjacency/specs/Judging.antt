-- Laws. The block's refusals of bonds after which a label above n may stand. Assumes nothing.
use Rattle.std.specs.Prelude.{ℕ, zero, suc, ◌≤◌, Bool, true, false, ◌||◌, not, cond, List, [], ◌∷◌, ◌≡◌, refl, eqb, leb, length}
use Rattle.std.proofs.Common.{true≢false, sym, ◌∙◌, arith}
use Rattle.graph.specs.Graph.{Bond, any_joins, degree, connected}
use Rattle.reply.specs.Read.{Read, refused, read, ◌then◌, refuse_if, refuse_for, is_outside}
use Rattle.reply.specs.Chain.{not_read}
use Rattle.block.specs.Block.{limit, bonds_of, graph_of, bond_fault, bonds_reply, block_reply}
use Rattle.reply.specs.declared.Refusal.{Refusal}
use Rattle.adjacency.specs.Work.{Sized, label_refused, high_reply}

fault_small : (n : ℕ) (before : List Bond) (b : Bond) → bond_fault n before b ≤ 6
unfolding bond_fault
fault_small n before b =
    go (is_outside n b.one || is_outside n b.two) (eqb b.one b.two) (any_joins before b.one b.two) (leb limit (degree before b.one) || leb limit (degree before b.two))
  where
    go : (s t u v : Bool) → cond s 3 (cond t 4 (cond u 5 (cond v 6 0))) ≤ 6
    go true t u v = omega arith
    go false true u v = omega arith
    go false false true v = omega arith
    go false false false true = omega arith
    go false false false false = omega arith

-- a bond's refusal is never 7
not_seven : (n : ℕ) (before bs : List Bond) (r : Refusal) → bonds_reply n before bs ≡ refused r → r.number ≡ 7 → ⊥
unfolding bonds_reply
not_seven n before [] r e h = not_read (sym e)
not_seven n before (b ∷ bs) r e h = go (bond_fault n before b) (fault_small n before b) e (not_seven n (b ∷ before) bs r)
  where
    go : (f : ℕ) → f ≤ 6 → (refuse_for f (suc (length before)) then λ _. bonds_reply n (b ∷ before) bs) ≡ refused r → (bonds_reply n (b ∷ before) bs ≡ refused r → r.number ≡ 7 → ⊥) → ⊥
    go zero l q more = more q h
    go (suc f) l q more = let p : suc f ≡ r.number = cc in omega arith

module _ (n : ℕ) (xs : List ℕ) where
  pub no_label : (high : Bool) → not high ≡ true → high_reply n xs high ≡ block_reply n xs
  no_label false e = refl
  no_label true e = absurd (true≢false (sym e))

  module _ (s : Sized n xs) where
    pub sized : block_reply n xs ≡ (bonds_reply n [] (bonds_of xs) then λ _. refuse_if (not (connected (graph_of n xs))) 7 0)
    unfolding block_reply
    sized = rw (s.atoms, s.bytes)

    pub label_alone : (high : Bool) → not high ≡ false → block_reply n xs ≡ read tt → high_reply n xs high ≡ label_refused xs
    label_alone false e f = absurd (true≢false e)
    label_alone true e f = go (bonds_reply n [] (bonds_of xs)) (sym sized ∙ f)
      where
        go : (m : Read (Unit {0})) → (m then λ _. refuse_if (not (connected (graph_of n xs))) 7 0) ≡ read tt → (m then λ _. label_refused xs) ≡ label_refused xs
        go (refused r) q = absurd (not_read q)
        go (read u) q = refl

    pub label_before : (high : Bool) (r : Refusal) → not high ≡ false → block_reply n xs ≡ refused r → r.number ≡ 7 → high_reply n xs high ≡ label_refused xs
    label_before false r e f h = absurd (true≢false e)
    label_before true r e f h = go (bonds_reply n [] (bonds_of xs)) (sym sized ∙ f) (λ q. not_seven n [] (bonds_of xs) r q h)
      where
        go : (m : Read (Unit {0})) → (m then λ _. refuse_if (not (connected (graph_of n xs))) 7 0) ≡ refused r → (m ≡ refused r → ⊥) → (m then λ _. label_refused xs) ≡ label_refused xs
        go (refused t) q other = absurd (other q)
        go (read u) q other = refl

    pub label_after : (high : Bool) (r : Refusal) → not high ≡ false → block_reply n xs ≡ refused r → (r.number ≡ 7 → ⊥) → high_reply n xs high ≡ refused r
    label_after false r e f h = absurd (true≢false e)
    label_after true r e f h = go (bonds_reply n [] (bonds_of xs)) (not (connected (graph_of n xs))) (sym sized ∙ f)
      where
        go : (m : Read (Unit {0})) (u : Bool) → (m then λ _. refuse_if u 7 0) ≡ refused r → (m then λ _. label_refused xs) ≡ refused r
        go (refused t) u q = q
        go (read v) true q = let p : 7 ≡ r.number = cc in absurd (h (sym p))
        go (read v) false q = absurd (not_read (sym q))

-- Laws. What is told of a deck's molecule and of a block, case by case. Assumes nothing.
use Prim.Native.Nat.{ℕ, zero, suc, ◌+◌, ◌-◌, ◌*◌, ◌/◌, ◌≤◌}
use mathlib.Core.Bool.{Bool, true, false, not}
use mathlib.Core.List.{List, [], ◌∷◌}
use mathlib.Core.Path.{◌≡◌, refl, sym, ◌∙◌, ap}
use native.Mathlib.Numerals.{add-one}
use native.Mathlib.Omega.{arith}
use borrow.Author.Tests.{le-ltb}
use lib.Dec.{eqb}
use lib.ListN.{length}
use Rattle.graph.specs.Graph.{Graph}
use Rattle.reply.specs.Read.{Read, read, ◌then◌, refuse_if, as_result}
use Rattle.reply.specs.Chain.{not_read, made_refused, made_read, read_back}
use Rattle.reply.specs.declared.Refusal.{Refusal}
use Rattle.block.specs.Block.{most_bytes, bonds_of, graph_of, block_reply}
use Rattle.block.specs.Index.{indices_of, indices_reply}
use Rattle.block.specs.Numbered.{bonds_length, few_bytes, least_bonds}
use Rattle.block.specs.declared.Indices.{Indices}
use Rattle.deck.specs.Deck.{Deck, deck_reply}
use Rattle.deck.specs.Molecule.{molecule_of}
use Rattle.deck.specs.declared.Form.TheVariants.{Composed}
use Rattle.sheets.specs.Sheets.{all_fields}
use Rattle.compose.specs.Fields.{fields_reply}
use Rattle.judging.specs.Judging.{said_verdict}
use Rattle.judging.specs.declared.Verdict.{Verdict}
use Rattle.judging.specs.declared.Verdict.TheVariants as verdict
use Rattle.reach.specs.Told.{indices_refused}
use Rattle.szeged.specs.Szeged.{szeged}
use Rattle.szeged.specs.Reply.{szeged_reply}
use Rattle.sets.specs.Sets.{hosoya, merrifield_simmons}
use Rattle.sets.specs.Reply.{sets_of, tree_reply, sets_reply}
use Rattle.sets.specs.declared.Sets.{Sets}
use Rattle.balaban.specs.Balaban.{reckoned, balaban_reply}
use Rattle.claiming.specs.Claims.{truth, field_of, claims_reply}
use Rattle.claiming.specs.Asked.{asks}
use Rattle.claiming.specs.Alike.{AlikeIn, told_alike}
use Rattle.claims.specs.Molecules.{deck_truth, deck_claims_reply, is_tree, of_tree, block_fields, fine_above, block_truth, block_claims_reply}
use Rattle.std.specs.Prelude.{Ok, Err}

-- of a deck
module _ (d cs : List ℕ) where
  pub deck_refused : {r : Refusal} → Err r ≡ as_result (fields_reply Composed d) → verdict.Refused r ≡ said_verdict (deck_claims_reply d cs)
  unfolding fields_reply deck_claims_reply
  deck_refused e = let f = made_refused (deck_reply Composed d) _ (sym (read_back _ _ e)) in rw f

  pub deck-read : {x : Indices} (own : List ℕ) {v : Verdict} → Ok x ≡ as_result (fields_reply Composed d) → own ≡ all_fields x → v ≡ said_verdict (claims_reply (truth own 0 true) cs)
      → v ≡ said_verdict (deck_claims_reply d cs)
  unfolding fields_reply deck_claims_reply deck_truth
  deck-read own e o q =
      let (k, f, same) = made_read (deck_reply Composed d) _ (sym (read_back _ _ e)) in
      q ∙ ap (λ (l : List ℕ). said_verdict (claims_reply (truth l 0 true) cs)) (o ∙ ap all_fields (sym same))
      ∙ ap (λ (m : Read Deck). said_verdict (m then λ k. claims_reply (deck_truth (molecule_of d k)) cs)) (sym f)

-- of a block
module _ (n : ℕ) (xs cs : List ℕ) where
  pub block_refused : {r : Refusal} → Err r ≡ as_result (indices_reply n xs) → verdict.Refused r ≡ said_verdict (block_claims_reply n xs cs)
  unfolding block_claims_reply
  block_refused e = rw (indices_refused n xs _ (sym e))

-- Of a block that is not refused.
module _ (n : ℕ) (xs : List ℕ) (fine : block_reply n xs ≡ read tt) where
  -- there is an entry for each bond
  szeged-read : szeged_reply n xs 192 ≡ read (szeged (graph_of n xs))
  unfolding szeged_reply
  szeged-read = rw (fine, le-ltb 192 (length (bonds_of xs)) (omega (arith, bonds_length xs, few_bytes n xs fine)))

  pub szeged_none : {r : Refusal} → Err r ≡ as_result (szeged_reply n xs 192) → 0 ≡ szeged (graph_of n xs)
  szeged_none {r} e = absurd (not_read (read_back (Err r) (szeged_reply n xs 192) e ∙ szeged-read))

  pub szeged_is : {s : ℕ} → Ok s ≡ as_result (szeged_reply n xs 192) → s ≡ szeged (graph_of n xs)
  szeged_is {s} e = let f : read s ≡ read (szeged (graph_of n xs)) = read_back (Ok s) (szeged_reply n xs 192) e ∙ szeged-read in cc

  fine_read : balaban_reply n xs ≡ read (reckoned 1 (graph_of n xs))
  unfolding balaban_reply
  fine_read = rw fine

  pub fine_none : {r : Refusal} → Err r ≡ as_result (balaban_reply n xs) → 0 ≡ reckoned 1 (graph_of n xs)
  fine_none {r} e = absurd (not_read (read_back (Err r) (balaban_reply n xs) e ∙ fine_read))

  pub fine_is : {j : ℕ} → Ok j ≡ as_result (balaban_reply n xs) → j ≡ reckoned 1 (graph_of n xs)
  fine_is {j} e = let f : read j ≡ read (reckoned 1 (graph_of n xs)) = read_back (Ok j) (balaban_reply n xs) e ∙ fine_read in cc

  -- a tree has the two numbers, another block is told 0
  abbrev tree_or : Bool → Read Sets
  tree_or t = refuse_if (not t) 34 0 then λ _. read (sets_of (graph_of n xs))

  sets_read : sets_reply n xs ≡ tree_or (is_tree (graph_of n xs))
  unfolding sets_reply tree_reply
  sets_read = rw fine

  pub sets_none : {r : Refusal} → Err r ≡ as_result (sets_reply n xs)
      → (0 ≡ of_tree (is_tree (graph_of n xs)) (hosoya (graph_of n xs))) × (0 ≡ of_tree (is_tree (graph_of n xs)) (merrifield_simmons (graph_of n xs)))
  sets_none {r} e = go (is_tree (graph_of n xs)) (e ∙ ap as_result sets_read)
    where
      go : (t : Bool) → Err r ≡ as_result (tree_or t) → (0 ≡ of_tree t (hosoya (graph_of n xs))) × (0 ≡ of_tree t (merrifield_simmons (graph_of n xs)))
      go true f = absurd (let z : ◌≡◌ {A = ℕ} 0 1 = cc in omega arith)
      go false f = (refl, refl)

  pub sets_is : {s : Sets} → Ok s ≡ as_result (sets_reply n xs)
      → (s.bonds ≡ of_tree (is_tree (graph_of n xs)) (hosoya (graph_of n xs))) × (s.atoms ≡ of_tree (is_tree (graph_of n xs)) (merrifield_simmons (graph_of n xs)))
  unfolding sets_of
  sets_is {s} e = go (is_tree (graph_of n xs)) (e ∙ ap as_result sets_read)
    where
      go : (t : Bool) → Ok s ≡ as_result (tree_or t) → (s.bonds ≡ of_tree t (hosoya (graph_of n xs))) × (s.atoms ≡ of_tree t (merrifield_simmons (graph_of n xs)))
      go true f = let same : s ≡ sets_of (graph_of n xs) = cc in (ap (λ (x : Sets). x.bonds) same, ap (λ (x : Sets). x.atoms) same)
      go false f = absurd (let z : ◌≡◌ {A = ℕ} 0 1 = cc in omega arith)

  -- the bonds are few, and at least n - 1
  pub bonds_fit : (length xs / 2 ≤ most_bytes) × (n ≤ length xs / 2 + 1)
  bonds_fit = (omega (arith, few_bytes n xs fine), least_bonds n xs fine)

  pub block_read : (cs own : List ℕ) (m most : ℕ) (tree : Bool) {v : Verdict} → AlikeIn cs own (block_fields (graph_of n xs)) → m ≡ length xs / 2 → most ≡ 1 + m * m / (m + 2 - n) → tree ≡ eqb (m + 1) n
      → v ≡ said_verdict (claims_reply (truth own most tree) cs) → v ≡ said_verdict (block_claims_reply n xs cs)
  unfolding block_claims_reply block_truth fine_above
  block_read cs own m most tree o e a t q =
      let b : m ≡ length (bonds_of xs) = e ∙ sym (bonds_length xs) in
      q ∙ ap said_verdict (told_alike cs own (block_fields (graph_of n xs)) most tree o) ∙ rw (fine, a, t, b, add-one (length (bonds_of xs)))

-- the ten fields, of which four are there where they are asked for
module _ (n : ℕ) (xs cs : List ℕ) (x : Indices) (s h i j : ℕ) where
  abbrev g : Graph
  g = graph_of n xs

  abbrev own : List ℕ
  own = x.atoms ∷ x.w ∷ x.even ∷ x.odd ∷ x.polarity ∷ x.largest ∷ s ∷ h ∷ i ∷ j ∷ []

  pub ten_fields : x ≡ indices_of g → (asks 7 cs ≡ true → s ≡ szeged g) → (asks 8 cs ≡ true → h ≡ of_tree (is_tree g) (hosoya g)) → (asks 9 cs ≡ true → i ≡ of_tree (is_tree g) (merrifield_simmons g))
      → (asks 10 cs ≡ true → j ≡ reckoned 1 g) → AlikeIn cs own (block_fields g)
  unfolding block_fields all_fields
  ten_fields e p q r t = record { count = refl; alike = same }
    where
      same : (f : ℕ) → asks f cs ≡ true → field_of own f ≡ field_of (block_fields g) f
      same zero a = refl
      same (suc zero) a = ap (λ (y : Indices). y.atoms) e
      same (suc (suc zero)) a = ap (λ (y : Indices). y.w) e
      same (suc (suc (suc zero))) a = ap (λ (y : Indices). y.even) e
      same (suc (suc (suc (suc zero)))) a = ap (λ (y : Indices). y.odd) e
      same (suc (suc (suc (suc (suc zero))))) a = ap (λ (y : Indices). y.polarity) e
      same (suc (suc (suc (suc (suc (suc zero)))))) a = ap (λ (y : Indices). y.largest) e
      same (suc (suc (suc (suc (suc (suc (suc zero))))))) a = p a
      same (suc (suc (suc (suc (suc (suc (suc (suc zero)))))))) a = q a
      same (suc (suc (suc (suc (suc (suc (suc (suc (suc zero))))))))) a = r a
      same (suc (suc (suc (suc (suc (suc (suc (suc (suc (suc zero)))))))))) a = t a
      same (suc (suc (suc (suc (suc (suc (suc (suc (suc (suc (suc f))))))))))) a = refl

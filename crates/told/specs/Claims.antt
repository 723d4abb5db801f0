-- Laws. What the one number of a C reply about claims, and about a record or a data item of an SDF, tells. A claim's number and the place of an item are at most the length of what was lent, which is here shorter than 2^56 bytes.
use Prim.Native.Nat.{ℕ, zero, suc, ◌+◌, ◌≤◌, ◌<◌}
use Rattle.std.specs.Prelude.{Bool, ◌&&◌, ◌||◌, cond, List, [], ◌∷◌, ◌↔◌, ◌≡◌, eqb, leb, length, Option, Some, None}
use Rattle.std.proofs.Math.Bool.{true, false, not}
use Rattle.std.proofs.Math.Path.{refl, ap}
use Rattle.std.proofs.Common.{arith}
use borrow.Author.Tests.{ltb-true}
use Rattle.std.proofs.Math.Dec.{ltb}
use Rattle.reply.specs.Read.{read, ◌then◌, refuse_if, is_outside, if_else}
use Rattle.reply.specs.Chain.{then-read}
use Rattle.block.specs.Block.{graph_of, block_reply}
use Rattle.records.specs.Bytes.{byte_at, part}
use Rattle.deck.specs.Deck.{Deck, deck_reply}
use Rattle.deck.specs.Molecule.{molecule_of}
use Rattle.deck.specs.declared.Form.TheVariants.{Composed}
use Rattle.judging.specs.Judging.{said_verdict}
use Rattle.claiming.specs.Claims.{printed_of, claim_of, said_reading, size_at, claim_reply, claims_from, claims_in, Truth, is_right, first_wrong_claim, any_sets, claims_reply}
use Rattle.claiming.specs.Going.{claim_read}
use Rattle.claiming.specs.Headline.{Right, Claimed}
use Rattle.claiming.specs.declared.Claim.{Claim}
use Rattle.claims.specs.Molecules.{deck_truth, deck_claims_reply, block_truth, block_claims_reply}
use Rattle.claims.specs.Headline.{SaysField, accepted_deck, accepted_block}
use Rattle.sdfile.specs.Sdf.{header_one, value_chars, is_no_name, value_reply, item_reply, step_at}
use Rattle.sdfile.specs.Found.{value_place, header_two}
use Rattle.sdfile.specs.declared.Piece.{Piece}
use Rattle.sdfile.specs.declared.Span.{Span}
use Rattle.printed.specs.declared.Number.{Number}
use Rattle.calls.specs.Convention.{most_place, coded, fitting}
use Rattle.deck_calls.specs.Replies.{verdict_code}
use Rattle.claim_calls.specs.Spans.{step_list, item_list}
use Rattle.told.specs.Bounded.{Bounded, then_bounded, if_bounded, deck_bounded}
use Rattle.told.specs.Recovered.{Tells, Judges, judges, block_here, listed, lent}

-- One claim, the k-th.
of_bounded : (f k : ℕ) (p : Option Number) → k < most_place → Bounded most_place (claim_of f k p)
of_bounded f k None h = record { low = omega arith; high = omega arith; place = h }
of_bounded f k (Some x) h = tt

claim_bounded : (most : ℕ) (cs : List ℕ) (at k : ℕ) → k < most_place → Bounded most_place (claim_reply most cs at k)
unfolding claim_reply said_reading
claim_bounded most cs at k h =
    let t = is_outside most (byte_at cs at) || ltb (length cs) (at + size_at cs at) in
    then_bounded most_place (refuse_if t 35 k) _ (if_bounded most_place t 35 k (record { low = omega arith; high = omega arith; place = h })) (λ u e.
    of_bounded (byte_at cs at) k (printed_of (byte_at cs at) (part cs (at + 2) (byte_at cs (at + 1)))) h)

-- All claims: each takes a byte at least, so that the number of one that is there is at most the length.
module _ (cs : List ℕ) (l : length cs < most_place) where
  from_bounded : (most fuel at k : ℕ) → k ≤ suc at → Bounded most_place (claims_from fuel most cs at k)
  unfolding claims_from
  from_bounded most zero at k h = tt
  from_bounded most (suc fuel) at k h = go (ltb at (length cs)) refl (from_bounded most fuel (at + size_at cs at) (suc k) (omega arith))
    where
      go : (t : Bool) → ltb at (length cs) ≡ t → Bounded most_place (claims_from fuel most cs (at + size_at cs at) (suc k))
          → Bounded most_place (if_else t (λ _. claim_reply most cs at k then λ c. claims_from fuel most cs (at + size_at cs at) (suc k) then λ more. read (c ∷ more)) (λ _. read []))
      go true e later =
          let here = ltb-true at (length cs) e in
          then_bounded most_place (claim_reply most cs at k) _ (claim_bounded most cs at k (omega (arith, l))) (λ c f.
          then_bounded most_place (claims_from fuel most cs (at + size_at cs at) (suc k)) (λ more. read (c ∷ more)) later (λ more g. tt))
      go false e later = tt

few_claims : (most : ℕ) (cs : List ℕ) (fuel at k : ℕ) (xs : List Claim) → at ≤ length cs → claims_from fuel most cs at k ≡ read xs → at + length xs ≤ length cs
unfolding claims_from
few_claims most cs zero at k xs h e = let none : [] ≡ xs = cc in omega (arith, ap length none)
few_claims most cs (suc fuel) at k xs h e = go (ltb at (length cs)) e (λ more l f. few_claims most cs fuel (at + size_at cs at) (suc k) more l f)
  where
    go : (t : Bool) → if_else t (λ _. claim_reply most cs at k then λ c. claims_from fuel most cs (at + size_at cs at) (suc k) then λ more. read (c ∷ more)) (λ _. read []) ≡ read xs
        → ((more : List Claim) → at + size_at cs at ≤ length cs → claims_from fuel most cs (at + size_at cs at) (suc k) ≡ read more → at + size_at cs at + length more ≤ length cs)
        → at + length xs ≤ length cs
    go false f ih = let none : [] ≡ xs = cc in omega (arith, ap length none)
    go true f ih =
        let (c, p, g) = then-read (claim_reply most cs at k) _ f in
        let (more, q, r) = then-read (claims_from fuel most cs (at + size_at cs at) (suc k)) _ g in
        let all : c ∷ more ≡ xs = cc in
        omega (arith, ap length all, ih more (claim_read most cs at k p).1 q)

first_within : (fs : List ℕ) (above k : ℕ) (xs : List Claim) → first_wrong_claim fs above (suc k) xs ≤ k + length xs
unfolding first_wrong_claim
first_within fs above k [] = omega arith
first_within fs above k (c ∷ xs) = go (is_right fs above c) (first_within fs above (suc k) xs)
  where
    go : (t : Bool) → first_wrong_claim fs above (suc (suc k)) xs ≤ suc k + length xs → cond t (first_wrong_claim fs above (suc (suc k)) xs) (suc k) ≤ k + suc (length xs)
    go true h = omega (arith, h)
    go false h = omega arith

module _ (t : Truth) (cs : List ℕ) (l : length cs < most_place) where
  claims_bounded : Bounded most_place (claims_reply t cs)
  unfolding claims_reply claims_in
  claims_bounded =
      then_bounded most_place (refuse_if (eqb (length cs) 0) 36 0) _ (if_bounded most_place (eqb (length cs) 0) 36 0 (omega arith)) (λ u e.
      then_bounded most_place (claims_from (length cs) (length t.fields) cs 0 1) _ (from_bounded cs l (length t.fields) (length cs) 0 1 (omega arith)) (λ xs f.
      then_bounded most_place (refuse_if (any_sets xs && not t.tree) 34 0) (λ _. read (first_wrong_claim t.fields t.above 1 xs)) (if_bounded most_place (any_sets xs && not t.tree) 34 0 (omega arith)) (λ v g. tt)))

  -- the claim that is named is one of them
  claim_small : (k : ℕ) → claims_reply t cs ≡ read k → k < most_place
  unfolding claims_reply claims_in
  claim_small k e =
      let (u, p, f) = then-read (refuse_if (eqb (length cs) 0) 36 0) _ e in
      let (xs, q, g) = then-read (claims_from (length cs) (length t.fields) cs 0 1) _ f in
      let (v, r, h) = then-read (refuse_if (any_sets xs && not t.tree) 34 0) _ g in
      let same : first_wrong_claim t.fields t.above 1 xs ≡ k = cc in
      omega (arith, same, first_within t.fields t.above 0 xs, few_claims (length t.fields) cs (length cs) 0 1 xs (omega arith) q, l)

-- FUNCTION BY FUNCTION
module _ (cs : List ℕ) (l : length cs < most_place) where
  pub judge_claims_tells : (d : List ℕ) → Judges (deck_claims_reply d cs)
  unfolding deck_claims_reply
  judge_claims_tells d =
      judges (deck_claims_reply d cs)
      (then_bounded most_place (deck_reply Composed d) (λ k. claims_reply (deck_truth (molecule_of d k)) cs) (deck_bounded Composed d) (λ k e. claims_bounded (deck_truth (molecule_of d k)) cs l))
      (λ k e. let (x, p, f) = then-read (deck_reply Composed d) (λ k. claims_reply (deck_truth (molecule_of d k)) cs) e in claim_small (deck_truth (molecule_of d x)) cs l k f)

  pub judge_block_tells : (n : ℕ) (xs : List ℕ) → Judges (block_claims_reply n xs cs)
  unfolding block_claims_reply
  judge_block_tells n xs =
      judges (block_claims_reply n xs cs)
      (then_bounded most_place (block_reply n xs) (λ _. claims_reply (block_truth (graph_of n xs)) cs) (block_here n xs) (λ u e. claims_bounded (block_truth (graph_of n xs)) cs l))
      (λ k e. let (x, p, f) = then-read (block_reply n xs) (λ _. claims_reply (block_truth (graph_of n xs)) cs) e in claim_small (block_truth (graph_of n xs)) cs l k f)

  -- THE HEADLINE in the number that C is told: 0 if and only if the deck, or the block, is not refused, and the claims are the bytes of one printout or more, of which each says its field of the molecule written out
  pub zero_claims : (d : List ℕ) → (verdict_code (said_verdict (deck_claims_reply d cs)) ≡ 0) ↔ ((k : Deck) × (deck_reply Composed d ≡ read k) × Claimed (SaysField (molecule_of d k)) cs)
  unfolding deck_claims_reply
  zero_claims d = (
    (λ z.
        let a = (judge_claims_tells d).accepted z in
        let (k, e, f) = then-read (deck_reply Composed d) (λ k. claims_reply (deck_truth (molecule_of d k)) cs) a in
        (k, e, (accepted_deck d cs k e).0 (ap said_verdict a))),
    (λ (k, e, H). ap verdict_code ((accepted_deck d cs k e).1 H)),
  )

  pub zero_block : (n : ℕ) (xs : List ℕ) → (verdict_code (said_verdict (block_claims_reply n xs cs)) ≡ 0) ↔ ((block_reply n xs ≡ read tt) × Claimed (Right (block_truth (graph_of n xs))) cs)
  unfolding block_claims_reply
  zero_block n xs = (
    (λ z.
        let a = (judge_block_tells n xs).accepted z in
        let (u, e, f) = then-read (block_reply n xs) (λ _. claims_reply (block_truth (graph_of n xs)) cs) a in
        (e, (accepted_block n xs cs e).0 (ap said_verdict a))),
    (λ (e, H). ap verdict_code ((accepted_block n xs cs e).1 H)),
  )

-- The item of a name: 39 is told at a header, which begins within the record.
second_bounded : (d : List ℕ) → length d < most_place → (p : ℕ) (s : Span) → Bounded most_place (refuse_if (ltb p (length d)) 39 p then λ _. read s)
second_bounded d l p s = go (ltb p (length d)) refl
  where
    go : (t : Bool) → ltb p (length d) ≡ t → Bounded most_place (refuse_if t 39 p then λ _. read s)
    go true e = record { low = omega arith; high = omega arith; place = omega (arith, l, ltb-true p (length d) e) }
    go false e = tt

pub sdf_item_tells : (d name : List ℕ) (room : ℕ) → length d < most_place → Tells (fitting room (item_list d name))
unfolding item_reply value_reply
sdf_item_tells d name room l =
    lent room (item_list d name) (listed (item_reply d name) (λ s. s.start ∷ s.len ∷ [])
    (then_bounded most_place (refuse_if (is_no_name name) 38 0) _ (if_bounded most_place (is_no_name name) 38 0 (omega arith)) (λ u e.
    then_bounded most_place (refuse_if (leb (length d) (header_one d name)) 38 0) _ (if_bounded most_place (leb (length d) (header_one d name)) 38 0 (omega arith)) (λ v f.
    second_bounded d l (header_two d name) (record { start = value_place d name; len = value_chars d (value_place d name) })))))

-- A record: 0 where there is one, 254 where all are done, 9 where there is one and fewer than three entries are lent.
pub record Steps (room : ℕ) (s : Option Piece) : Type 0 where
  pub fine : coded (fitting room (step_list s)) ≡ 0 → (p : Piece) × (s ≡ Some p)
  pub ended : coded (fitting room (step_list s)) ≡ 254 → s ≡ None
  pub lacking : coded (fitting room (step_list s)) ≡ 9 → (p : Piece) × (s ≡ Some p) × (room < 3)

steps : (room : ℕ) (s : Option Piece) → Steps room s
steps room None = record { fine = λ e. absurd (omega (arith, e)); ended = λ e. refl; lacking = λ e. absurd (omega (arith, e)) }
steps room (Some p) = go (ltb room 3) refl
  where
    go : (t : Bool) → ltb room 3 ≡ t → Steps room (Some p)
    go true e = record { fine = λ f. (p, refl); ended = λ f. absurd (omega (arith, rw e at f)); lacking = λ f. (p, refl, ltb-true room 3 e) }
    go false e = record { fine = λ f. (p, refl); ended = λ f. absurd (omega (arith, rw e at f)); lacking = λ f. absurd (omega (arith, rw e at f)) }

pub sdf_record_tells : (d : List ℕ) (from room : ℕ) → Steps room (step_at d from)
sdf_record_tells d from room = steps room (step_at d from)

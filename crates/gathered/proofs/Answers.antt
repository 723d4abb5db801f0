-- What composing from a record is told, test by test. Assumes nothing.
use Prim.Native.Nat.{ℕ, zero, suc, ◌*◌, ◌≤◌, ◌<◌}
use mathlib.Core.Bool.{Bool, true, false, cond}
use mathlib.Core.List.{List, [], ◌∷◌}
use mathlib.Core.Path.{◌≡◌, refl, sym, ◌∙◌, ap}
use native.Mathlib.Omega.{arith}
use borrow.Author.Tests.{lt-ltb, le-ltb}
use lib.Dec.{ltb}
use lib.ListN.{length}
use Rattle.reply.specs.Read.{Read, refused, read, refusal, ◌then◌, refuse_if, refuse_for, as_result, as_read}
use Rattle.reply.specs.declared.Refusal.{Refusal}
use Rattle.block.specs.declared.Indices.{Indices}
use Rattle.records.specs.Records.{assembly_kind, payload_at, end_at, record_reply}
use Rattle.records.specs.declared.Sheet.{Sheet}
use Rattle.summary.specs.Layout.{summary_bytes}
use Rattle.summaries.specs.Composing.{composed_reply}
use Rattle.queues.specs.Table.{table_bytes}
use Rattle.queues.specs.declared.Queue.{Queue}
use Rattle.queues.specs.Queues.{own_places, compose_told}
use Rattle.queues.proofs.Answers.{short_reply, long_reply}
use Rattle.deck.specs.Deck.{longest_deck, moved, placement_place, end_reply}
use Rattle.sheets.specs.Sheets.{sheet_bytes}
use Rattle.gathered.specs.Gathered.{behind_head, over_record, over_output, sheet_told}
use Rattle.reply.specs.Chain.{read_back}
use Rattle.std.specs.Prelude.{Result, Ok, Err}

-- the placement's first byte
pub placed_refused : (m : Read Indices) (r : Refusal) → m ≡ refused r → Err (refusal r.number (6 * r.place)) ≡ as_result (moved (placement_place 0) m)
placed_refused m r e = rw e (let z : 6 * r.place ≡ placement_place 0 r = omega arith in ap (λ (p : ℕ). Err (refusal r.number p)) z)

pub placed_read : (m : Read Indices) (x : Indices) → m ≡ read x → Ok x ≡ as_result (moved (placement_place 0) m)
placed_read m x e = rw e

-- behind the record
module _ (d : List ℕ) (x : Indices) where
  pub more_follows : end_at d 0 < length d → (end_reply d (end_at d 0) then λ _. read x) ≡ refused (refusal 11 (end_at d 0))
  unfolding end_reply
  more_follows h = rw (lt-ltb (end_at d 0) (length d) h)

  pub none_follows : length d ≤ end_at d 0 → (end_reply d (end_at d 0) then λ _. read x) ≡ read x
  unfolding end_reply
  none_follows h = rw (le-ltb (end_at d 0) (length d) h)

-- the record
module _ (m : Read Indices) (d : List ℕ) where
  pub behind_refused : (r : Refusal) → moved (placement_place 0) m ≡ refused r → behind_head m d ≡ refused r
  unfolding behind_head
  behind_refused r e = rw e

  pub behind_read : (x : Indices) → moved (placement_place 0) m ≡ read x → behind_head m d ≡ (end_reply d (end_at d 0) then λ _. read x)
  unfolding behind_head
  behind_read x e = rw e

  pub record_refused : (r : Refusal) → record_reply (assembly_kind ∷ []) d 0 ≡ refused r → over_record m d ≡ refused r
  unfolding over_record
  record_refused r e = rw e

  pub record_fine : record_reply (assembly_kind ∷ []) d 0 ≡ read tt → over_record m d ≡ behind_head m d
  unfolding over_record
  record_fine e = rw e

-- the number of what is wrong before the record is read
module _ (s : Sheet) (long output : ℕ) where
  pub too_long : longest_deck < long → cond {A = ℕ} (ltb longest_deck long) 20 (cond (ltb output (sheet_bytes s)) 9 0) ≡ 20
  too_long h = rw (lt-ltb longest_deck long h)

  pub too_short : long ≤ longest_deck → output < sheet_bytes s → cond {A = ℕ} (ltb longest_deck long) 20 (cond (ltb output (sheet_bytes s)) 9 0) ≡ 9
  too_short h l = rw (le-ltb longest_deck long h, lt-ltb output (sheet_bytes s) l)

  pub both_fit : long ≤ longest_deck → sheet_bytes s ≤ output → cond {A = ℕ} (ltb longest_deck long) 20 (cond (ltb output (sheet_bytes s)) 9 0) ≡ 0
  both_fit h l = rw (le-ltb longest_deck long h, le-ltb output (sheet_bytes s) l)

-- the table, the record's length and the output
module _ (t : List ℕ) (q : Queue) (s : Sheet) (d : List ℕ) (n : ℕ) where
  pub short_table : length t < table_bytes summary_bytes → sheet_told t q s d n ≡ refused (refusal 9 0)
  short_table h = short_reply t (over_output s (composed_reply (own_places t q) (payload_at d 0)) d n) h

  module _ (h : table_bytes summary_bytes ≤ length t) where
    over : sheet_told t q s d n ≡ over_output s (compose_told t q (payload_at d 0)) d n
    over =
        long_reply t (over_output s (composed_reply (own_places t q) (payload_at d 0)) d n) h
        ∙ ap (λ (m : Read Indices). over_output s m d n) (sym (long_reply t (composed_reply (own_places t q) (payload_at d 0)) h))

    -- by what is wrong before the record is read
    faults : sheet_told t q s d n ≡ (refuse_for (cond (ltb longest_deck (length d)) 20 (cond (ltb n (sheet_bytes s)) 9 0)) 0 then λ _. over_record (compose_told t q (payload_at d 0)) d)
    unfolding over_output
    faults = over ∙ go (ltb longest_deck (length d)) (ltb n (sheet_bytes s))
      where
        go : (a b : Bool) → (refuse_if a 20 0 then λ _. refuse_if b 9 0 then λ _. over_record (compose_told t q (payload_at d 0)) d)
            ≡ (refuse_for (cond a 20 (cond b 9 0)) 0 then λ _. over_record (compose_told t q (payload_at d 0)) d)
        go true b = refl
        go false true = refl
        go false false = refl

    module _ (f : ℕ) (e : f ≡ cond (ltb longest_deck (length d)) 20 (cond (ltb n (sheet_bytes s)) 9 0)) where
      pub told_fault : (f ≡ 0 → ⊥) → sheet_told t q s d n ≡ refused (refusal f 0)
      told_fault z = faults ∙ rw (← e) (go f z)
        where
          go : (k : ℕ) → (k ≡ 0 → ⊥) → (refuse_for k 0 then λ _. over_record (compose_told t q (payload_at d 0)) d) ≡ refused (refusal k 0)
          go zero z = absurd (z refl)
          go (suc k) z = refl

      pub record_told : (a : Result Indices Refusal) → f ≡ 0 → a ≡ as_result (over_record (compose_told t q (payload_at d 0)) d) → sheet_told t q s d n ≡ as_read a
      record_told a z h = faults ∙ rw (sym e ∙ z) (sym (read_back a _ h))

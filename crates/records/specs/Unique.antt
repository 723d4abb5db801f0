-- Laws. Each promise determines the reply: two replies that satisfy it are equal, and two parts hold the same bytes at the same place. Assumes nothing.
use Rattle.std.specs.Prelude.{ℕ, ◌+◌, List, [], ◌∷◌, ◌≡◌, Result}
use Rattle.std.specs.Borrow.{Bor}
use Rattle.reply.specs.Chain.{unique}
use Rattle.std.proofs.lemmas.List.Edits.{sets}
use Rattle.records.specs.Bytes.{byte_at, little, little_bytes, PartOf}
use Rattle.records.specs.Records.{head_bytes, sheet_kind, length_at, sheet_at, record_reply}
use Rattle.records.specs.declared.Kind.{Kind}
use Rattle.records.specs.declared.Sheet.{Sheet}
use Rattle.reply.specs.Read.{as_result}
use Rattle.reply.specs.declared.Refusal.{Refusal}

pub unique-part : {s : Bor (List ℕ)} {from len : ℕ} {q r : Bor (List ℕ)} → PartOf s from len q → PartOf s from len r → (q.now ≡ r.now) × (q.ref_ptr ≡ r.ref_ptr)
unique-part p q = (unique p.bytes q.bytes, unique p.place q.place)

module _ (d : List ℕ) (at : ℕ) where
  pub unique-byte_at : (r s : ℕ) → r ≡ byte_at d at → s ≡ byte_at d at → r ≡ s
  unique-byte_at r s = unique

  -- of two, four and eight bytes
  pub unique-little : (k r s : ℕ) → r ≡ little k d at → s ≡ little k d at → r ≡ s
  unique-little k r s = unique

  pub unique-record_at : (a b : Kind) (r s : Result (Unit {0}) Refusal) → r ≡ as_result (record_reply (a ∷ b ∷ []) d at) → s ≡ as_result (record_reply (a ∷ b ∷ []) d at) → r ≡ s
  unique-record_at a b r s = unique

  pub unique-sheet_at : (r s : Sheet) → r ≡ sheet_at d at → s ≡ sheet_at d at → r ≡ s
  unique-sheet_at r s = unique

pub unique-put_little : (k n at : ℕ) (o p q : List ℕ) → p ≡ sets o at (little_bytes k n) → q ≡ sets o at (little_bytes k n) → p ≡ q
unique-put_little k n at o p q = unique

pub unique-sheet_kind : (k : Sheet) (r s : Kind) → r ≡ sheet_kind k → s ≡ sheet_kind k → r ≡ s
unique-sheet_kind k r s = unique

pub unique-payload_at : (s : Bor (List ℕ)) (at : ℕ) (q r : Bor (List ℕ)) → PartOf s (at + head_bytes) (length_at s.now at) q → PartOf s (at + head_bytes) (length_at s.now at) r → (q.now ≡ r.now) × (q.ref_ptr ≡ r.ref_ptr)
unique-payload_at s at q r = unique-part

-- Laws. Each promise determines the reply: two replies that satisfy it are equal. Assumes nothing.
use Rattle.std.specs.Prelude.{ℕ, ◌*◌, List, ◌≡◌, Result}
use Rattle.std.specs.Borrow.{Bor}
use Rattle.reply.specs.Chain.{unique}
use Rattle.records.specs.Bytes.{PartOf}
use Rattle.records.specs.Unique.{unique-part}
use Rattle.assembly.specs.Placements.{shelf_reply}
use Rattle.summary.specs.Layout.{summary_bytes}
use Rattle.shelf.specs.Shelf.{place_of, shelf_in}
use Rattle.reply.specs.Read.{as_result}
use Rattle.reply.specs.declared.Refusal.{Refusal}

pub unique-summary_at : (b : Bor (List ℕ)) (i : ℕ) (q r : Bor (List ℕ)) → PartOf b (summary_bytes * i) summary_bytes q → PartOf b (summary_bytes * i) summary_bytes r → (q.now ≡ r.now) × (q.ref_ptr ≡ r.ref_ptr)
unique-summary_at b i q r = unique-part

pub unique-place_of : (b : List ℕ) (x r s : ℕ) → r ≡ place_of b x → s ≡ place_of b x → r ≡ s
unique-place_of b x r s = unique

pub unique-check : (b xs : List ℕ) (r s : Result (Unit {0}) Refusal) → r ≡ as_result (shelf_reply (shelf_in b) xs) → s ≡ as_result (shelf_reply (shelf_in b) xs) → r ≡ s
unique-check b xs r s = unique

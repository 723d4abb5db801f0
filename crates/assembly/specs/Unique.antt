-- Laws. Each promise determines the reply: two replies that satisfy it are equal. Assumes nothing.
use Rattle.std.specs.Prelude.{ℕ, ◌+◌, ◌*◌, Bool, List, ◌≡◌, take}
use Rattle.std.specs.Borrow.{Bor}
use Rattle.reply.specs.Chain.{unique}
use Rattle.records.specs.Bytes.{PartOf}
use Rattle.records.specs.Records.{block_kind}
use Rattle.records.specs.Unique.{unique-part}
use Rattle.assembly.specs.Book.{find, is_numbered}
use Rattle.assembly.specs.Placements.{placement_at, join_on, first_fault, parent_fault, join_fault}
use Rattle.assembly.specs.declared.BlockAt.{BlockAt}
use Rattle.assembly.specs.declared.Placement.{Placement}
use Rattle.assembly.specs.declared.JoinSite.{JoinSite}

pub unique-find_block : (blocks : List BlockAt) (count number : ℕ) (r s : BlockAt) → r ≡ find (take count blocks) number → s ≡ find (take count blocks) number → r ≡ s
unique-find_block blocks count number r s = unique

pub unique-is_numbered : (b : BlockAt) (number : ℕ) (r s : Bool) → r ≡ is_numbered b number → s ≡ is_numbered b number → r ≡ s
unique-is_numbered b number r s = unique

pub unique-bonds_part : (s : Bor (List ℕ)) (b : BlockAt) (q r : Bor (List ℕ)) → PartOf s (b.start + block_kind.fixed) (block_kind.item * b.bonds) q → PartOf s (b.start + block_kind.fixed) (block_kind.item * b.bonds) r → (q.now ≡ r.now) × (q.ref_ptr ≡ r.ref_ptr)
unique-bonds_part s b q r = unique-part

pub unique-placement_at : (xs : List ℕ) (k : ℕ) (r s : Placement) → r ≡ placement_at xs k → s ≡ placement_at xs k → r ≡ s
unique-placement_at xs k r s = unique

pub unique-first_fault : (q : Placement) (r s : ℕ) → r ≡ first_fault q → s ≡ first_fault q → r ≡ s
unique-first_fault q r s = unique

pub unique-parent_fault : (parent r s : ℕ) → r ≡ parent_fault parent → s ≡ parent_fault parent → r ≡ s
unique-parent_fault parent r s = unique

pub unique-join_fault : (there here : JoinSite) (xs : List ℕ) (k r s : ℕ) → r ≡ join_fault there here (join_on (placement_at xs)) k → s ≡ join_fault there here (join_on (placement_at xs)) k → r ≡ s
unique-join_fault there here xs k r s = unique

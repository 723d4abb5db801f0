-- Laws. What a chain of answers tells when it was read to its end, and that a promise which is an equation leaves one answer. Assumes nothing.
use Rattle.std.specs.Prelude.{ℕ, zero, suc, max, Bool, true, false, ◌||◌, ◌≡◌, ◌≢◌, refl, Result, Ok, Err}
use Rattle.std.proofs.Common.{true≢false, sym, ◌∙◌, ap, arith}
use Rattle.reply.specs.Read.{Read, refused, read, ◌then◌, refuse_if, refuse_for, refusal, is_outside, as_result, as_read}
use Rattle.reply.specs.Rules.{rule_number}
use Rattle.reply.specs.declared.Refusal.{Refusal}
use Rattle.reply.specs.declared.rule.Rule.{Rule}
use Rattle.reply.specs.declared.rule.Rule.TheVariants.{AtomCount, BondBytes, BondEnd, SelfBond, ListedBefore, SeventhBond, NoPath, Denominator, ShortOutput, Argument, RecordCut, RecordKind, PayloadLength, BlockNumber, PlacementCount, UnknownBlock, FirstJoin, JoinAtom, SeventhJoin, DeckLength, TextByte, TextEnd, NoParent, LaterParent, MolfileLine, MolfileNumber, MolfileBondEnd, QueueFull, QueueHolds, QueueLacks, SiteCount, CandidateCount, SiteAtom, NoTree, ClaimField, NoClaim, ClaimText, NoItem, TwoItems}
use Rattle.reply.specs.declared.Counts.{Counts}

pub not_read : {A : Type 0} {r : Refusal} {a : A} → refused r ≡ read a → ⊥
not_read e = let z : ◌≡◌ {A = ℕ} 0 1 = cc in omega arith

-- what is read at the end was read at each step
pub then-read : {A B : Type 0} (m : Read A) (f : A → Read B) {b : B} → (m then f) ≡ read b → (a : A) × (m ≡ read a) × (f a ≡ read b)
then-read (refused r) f e = absurd (not_read e)
then-read (read a) f e = (a, refl, e)

pub if_read : {u : Unit {0}} (t : Bool) (n p : ℕ) → refuse_if t n p ≡ read u → t ≡ false
if_read true n p e = absurd (not_read e)
if_read false n p e = refl

pub for_read : {u : Unit {0}} (f p : ℕ) → refuse_for f p ≡ read u → f ≡ 0
for_read zero p e = refl
for_read (suc f) p e = absurd (not_read e)

-- of two tests neither holds where their "or" does not
pub neither : (p q : Bool) → (p || q) ≡ false → (p ≡ false) × (q ≡ false)
neither true q e = absurd (true≢false e)
neither false q e = (refl, e)

-- what the code's reply says of the answer
pub fine_read : (x : Read (Unit {0})) → as_result x ≡ Ok tt → x ≡ read tt
fine_read (refused r) e = let z : ◌≡◌ {A = ℕ} 0 1 = cc in absurd (omega arith)
fine_read (read u) e = refl

pub refused_read : (x : Read (Unit {0})) (r : Refusal) → as_result x ≡ Err r → x ≡ refused r
refused_read (refused q) r e = cc
refused_read (read u) r e = let z : ◌≡◌ {A = ℕ} 0 1 = cc in absurd (omega arith)

pub read_back : {A : Type 0} (a : Result A Refusal) (x : Read A) → a ≡ as_result x → as_read a ≡ x
read_back a (refused r) e = ap as_read e
read_back a (read v) e = ap as_read e

-- what is refused or read of an answer that is made of another
pub made_refused : {A B : Type 0} (x : Read A) (f : A → B) {r : Refusal} → (x then λ a. read (f a)) ≡ refused r → x ≡ refused r
made_refused (refused q) f e = cc
made_refused (read a) f e = absurd (not_read (sym e))

pub made_read : {A B : Type 0} (x : Read A) (f : A → B) {b : B} → (x then λ a. read (f a)) ≡ read b → (a : A) × (x ≡ read a) × (f a ≡ b)
made_read (refused q) f e = absurd (not_read e)
made_read (read a) f e = (a, refl, cc)

pub counted_read : {A : Type 0} (x : Read A) (f : A → Counts) {c : Counts} → as_result (x then λ a. read (f a)) ≡ Ok c → (a : A) × (x ≡ read a) × (f a ≡ c)
counted_read x f e = made_read x f (sym (read_back _ _ (sym e)))

-- two answers that are both what a promise says are equal
pub unique : {A : Type 0} {r s t : A} → r ≡ t → s ≡ t → r ≡ s
unique p q = p ∙ sym q

pub unique-is_outside : (n v : ℕ) (r s : Bool) → r ≡ is_outside n v → s ≡ is_outside n v → r ≡ s
unique-is_outside n v r s = unique

pub unique-refused : (n : ℕ) (r s : Result (Unit {0}) Refusal) → r ≡ Err (refusal n 0) → s ≡ Err (refusal n 0) → r ≡ s
unique-refused n r s = unique

pub unique-wide : (x r s : ℕ) → r ≡ x → s ≡ x → r ≡ s
unique-wide x r s = unique

pub unique-larger : (a b r s : ℕ) → r ≡ max a b → s ≡ max a b → r ≡ s
unique-larger a b r s = unique

-- no rule has the number 0, which says that none refuses
pub some_number : (rule : Rule) → rule_number rule ≢ 0
some_number AtomCount e = omega (arith, e)
some_number BondBytes e = omega (arith, e)
some_number BondEnd e = omega (arith, e)
some_number SelfBond e = omega (arith, e)
some_number ListedBefore e = omega (arith, e)
some_number SeventhBond e = omega (arith, e)
some_number NoPath e = omega (arith, e)
some_number Denominator e = omega (arith, e)
some_number ShortOutput e = omega (arith, e)
some_number Argument e = omega (arith, e)
some_number RecordCut e = omega (arith, e)
some_number RecordKind e = omega (arith, e)
some_number PayloadLength e = omega (arith, e)
some_number BlockNumber e = omega (arith, e)
some_number PlacementCount e = omega (arith, e)
some_number UnknownBlock e = omega (arith, e)
some_number FirstJoin e = omega (arith, e)
some_number JoinAtom e = omega (arith, e)
some_number SeventhJoin e = omega (arith, e)
some_number DeckLength e = omega (arith, e)
some_number TextByte e = omega (arith, e)
some_number TextEnd e = omega (arith, e)
some_number NoParent e = omega (arith, e)
some_number LaterParent e = omega (arith, e)
some_number MolfileLine e = omega (arith, e)
some_number MolfileNumber e = omega (arith, e)
some_number MolfileBondEnd e = omega (arith, e)
some_number QueueFull e = omega (arith, e)
some_number QueueHolds e = omega (arith, e)
some_number QueueLacks e = omega (arith, e)
some_number SiteCount e = omega (arith, e)
some_number CandidateCount e = omega (arith, e)
some_number SiteAtom e = omega (arith, e)
some_number NoTree e = omega (arith, e)
some_number ClaimField e = omega (arith, e)
some_number NoClaim e = omega (arith, e)
some_number ClaimText e = omega (arith, e)
some_number NoItem e = omega (arith, e)
some_number TwoItems e = omega (arith, e)

pub unique-number : (rule : Rule) (r s : ℕ) → r ≡ rule_number rule → s ≡ rule_number rule → r ≡ s
unique-number rule r s = unique

pub unique-at : (rule : Rule) (place : ℕ) (r s : Refusal) → r ≡ refusal (rule_number rule) place → s ≡ refusal (rule_number rule) place → r ≡ s
unique-at rule place r s = unique

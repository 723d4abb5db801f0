-- Laws. Each promise leaves one reply, and each lent output as one list.
use Rattle.std.specs.Prelude.{ℕ, List, ◌≡◌, Result}
use Rattle.std.proofs.Common.{sym, ◌∙◌}
use Rattle.reply.specs.Read.{Read}
use Rattle.reply.specs.declared.Refusal.{Refusal}
use Rattle.records.specs.declared.Sheet.{Sheet}
use Rattle.calls.specs.Convention.{code, coded, reply_code, Lent}
use Rattle.calls.specs.Beside.{Beside}
use Rattle.calls.specs.Blocks.{sheet_for}

pub unique-code_of : (r : Refusal) {x y : ℕ} → x ≡ code r → y ≡ code r → x ≡ y
unique-code_of r p q = p ∙ sym q

pub unique-reply_code : (a : Result (Unit {0}) Refusal) {x y : ℕ} → x ≡ reply_code a → y ≡ reply_code a → x ≡ y
unique-reply_code a p q = p ∙ sym q

pub unique-sheet_for : (kind : ℕ) {s t : Sheet} → s ≡ sheet_for kind → t ≡ sheet_for kind → s ≡ t
unique-sheet_for kind p q = p ∙ sym q

-- a reply that is one number
pub coded_once : {A : Type 0} (R : Read A) {x y : ℕ} → x ≡ coded R → y ≡ coded R → x ≡ y
coded_once R p q = p ∙ sym q

-- a reply and an output
pub lent_once : {A : Type 0} {answer : Read (List A)} {old new new' : List A} {x x' : ℕ} → Lent answer old x new → Lent answer old x' new' → (x ≡ x') × (new ≡ new')
lent_once p q = (p.replied ∙ sym q.replied, p.lent ∙ sym q.lent)

-- a reply and two outputs
pub beside_once : {A B C : Type 0} {answer : Read A} {one : A → List B} {two : A → List C} {old new new' : List B} {more also also' : List C} {x y : ℕ}
    → Beside answer one two old more x new also → Beside answer one two old more y new' also' → (x ≡ y) × (new ≡ new') × (also ≡ also')
beside_once p q = (p.replied ∙ sym q.replied, p.first ∙ sym q.first, p.second ∙ sym q.second)

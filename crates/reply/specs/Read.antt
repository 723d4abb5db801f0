-- Definitions. An answer that is a refusal or a value. A refusing definition is a chain of such answers, in the order of the rules.
use Rattle.std.specs.Prelude.{ℕ, zero, suc, Bool, true, false, ◌||◌, eqb, ltb, Result, Ok, Err}
use Rattle.reply.specs.declared.Refusal.{Refusal}
use Rattle.reply.specs.declared.Counts.{Counts}

abbrev pub refusal : ℕ → ℕ → Refusal
refusal n p = record { number = n; place = p }

pub data Read (A : Type 0) : Type 0 where
  refused : Refusal → Read A
  read : A → Read A

-- the first answer if it is a refusal, else the second
infixr 20 ◌then◌
abbrev pub ◌then◌ : {A B : Type 0} → Read A → (A → Read B) → Read B
refused r then f = refused r
read a then f = f a

-- refuses with a number at a place where a test holds
abbrev pub refuse_if : Bool → ℕ → ℕ → Read (Unit {0})
refuse_if true n p = refused (refusal n p)
refuse_if false n p = read tt

-- refuses with a number at a place unless the number is 0
abbrev pub refuse_for : ℕ → ℕ → Read (Unit {0})
refuse_for zero p = read tt
refuse_for (suc n) p = refused (refusal (suc n) p)

-- the first where a test holds, else the second; the other is not computed
abbrev pub if_else : {A : Type 0} → Bool → (Unit {0} → A) → (Unit {0} → A) → A
if_else true f g = f tt
if_else false f g = g tt

-- 0 or above n
abbrev pub is_outside : ℕ → ℕ → Bool
is_outside n v = eqb v 0 || ltb n v

-- how the code says an answer; and what was said
abbrev pub as_result : {A : Type 0} → Read A → Result A Refusal
as_result (refused r) = Err r
as_result (read a) = Ok a

abbrev pub as_read : {A : Type 0} → Result A Refusal → Read A
as_read (Err r) = refused r
as_read (Ok a) = read a

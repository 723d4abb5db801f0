-- Laws. What the promises leave open: nothing. Assumes nothing.
use Rattle.std.specs.Prelude.{ℕ, Bool, true, List, [], ◌∷◌, ◌≡◌, drop}
use Rattle.std.proofs.Common.{sym, ◌∙◌}
use Rattle.text.specs.Text.{is_digit, is_blank, digit, line_end, starts_with, line_starts}
use Rattle.text.specs.Said.{field_number, line_at}
use Rattle.text.specs.Put.{Puts}
use Rattle.text.specs.declared.Line.{Line}

-- a promise that is an equation
one : {A : Type 0} (is r s : A) → r ≡ is → s ≡ is → r ≡ s
one is r s p q = p ∙ sym q

pub unique-is_digit : (b : ℕ) (r s : Bool) → r ≡ is_digit b → s ≡ is_digit b → r ≡ s
unique-is_digit b = one (is_digit b)

pub unique-is_blank : (b : ℕ) (r s : Bool) → r ≡ is_blank b → s ≡ is_blank b → r ≡ s
unique-is_blank b = one (is_blank b)

pub unique-digit : (b r s : ℕ) → r ≡ digit b → s ≡ digit b → r ≡ s
unique-digit b = one (digit b)

pub unique-number : (a b c r s : ℕ) → r ≡ field_number (a ∷ b ∷ c ∷ []) → s ≡ field_number (a ∷ b ∷ c ∷ []) → r ≡ s
unique-number a b c = one (field_number (a ∷ b ∷ c ∷ []))

pub unique-line_end : (d : List ℕ) (at r s : ℕ) → r ≡ line_end d at → s ≡ line_end d at → r ≡ s
unique-line_end d at = one (line_end d at)

pub unique-line_at : (d : List ℕ) (at : ℕ) (r s : Line) → r ≡ line_at d at → s ≡ line_at d at → r ≡ s
unique-line_at d at = one (line_at d at)

pub unique-starts_with : (d word : List ℕ) (r s : Bool) → r ≡ starts_with word d → s ≡ starts_with word d → r ≡ s
unique-starts_with d word = one (starts_with word d)

pub unique-line_starts : (d : List ℕ) (from : ℕ) (word : List ℕ) (r s : Bool) → r ≡ line_starts word true (drop from d) → s ≡ line_starts word true (drop from d) → r ≡ s
unique-line_starts d from word = one (line_starts word true (drop from d))

-- for all that put a word: the bytes afterwards and the place past it
pub unique-put : (before : List ℕ) (at : ℕ) (word a b : List ℕ) (r s : ℕ) → Puts before at word a r → Puts before at word b s → (a ≡ b) × (r ≡ s)
unique-put before at word a b r s p q = (p.bytes ∙ sym q.bytes, p.end ∙ sym q.end)

-- What is proved of every line beside its promise: nothing of the text is cut off, and the promise allows no other line.
use Prim.Native.Nat.{ℕ, ◌-◌}
use mathlib.Core.Path.{◌≡◌, sym, ap, ◌∙◌}
use mathlib.Core.List.{List}
use lib.ListN.{length, take}
use lib.Seq.{take-append_seam}
use Rattle.line.specs.declared.Line.{Line}
use Rattle.line.specs.Text.{longest, zeros, padded, lined}
use Rattle.line.specs.Label.{label_reply, labelled}

-- the bytes that a line counts are its text
pub whole : (r : Line) (t : List ℕ) → r ≡ lined t → take r.len r.text ≡ t
unfolding padded
whole r t is = ap (λ (l : Line). take l.len l.text) is ∙ take-append_seam t (zeros (longest - length t))

-- two lines that satisfy a promise are equal
pub one_line : (t : List ℕ) (r s : Line) → r ≡ lined t → s ≡ lined t → r ≡ s
one_line t r s p q = p ∙ sym q

-- and so are two replies, and two buffers, of `label`
pub one_label : (out : List ℕ) (n : ℕ) (words after after' : List ℕ) (r s : ℕ)
    → (r ≡ label_reply out n words) × (after ≡ labelled out n words) → (s ≡ label_reply out n words) × (after' ≡ labelled out n words) → (r ≡ s) × (after ≡ after')
one_label out n words after after' r s p q = (p.0 ∙ sym q.0, p.1 ∙ sym q.1)

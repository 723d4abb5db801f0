-- Work. A word behind the others of a line.
use Rattle.std.specs.Prelude.{ℕ, ◌+◌, ◌≤◌, ◌≡◌, List, ◌++◌, length}
use Rattle.std.proofs.Math.Seq.{paste}
use Rattle.line.specs.declared.Line.{Line}
use Rattle.line.specs.Text.{longest, lined}

-- a word put into a buffer from index `at` on, where there is room for it; r is the index past it
pub record Pasted (before : List ℕ) (at : ℕ) (word after : List ℕ) (r : ℕ) : Type 0 where
  pub end : r ≡ at + length word
  pub text : after ≡ paste before at word (length word)

-- a word added to a line, where there is room for it
abbrev pub Adds : Line → List ℕ → Line → Type 0
Adds line word r = (t : List ℕ) → line ≡ lined t → length (t ++ word) ≤ longest → r ≡ lined (t ++ word)

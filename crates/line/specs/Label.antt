-- Definitions. A file's line: its name, `: `, and the line.
use Rattle.std.specs.Prelude.{ℕ, ◌+◌, Bool, cond, List, ◌++◌, leb, length, take, drop}
use Rattle.text.specs.Text.{ascii}

abbrev pub colon : List ℕ
colon = ascii ": "

-- where a line ends that follows a name of n bytes
abbrev pub label_end : ℕ → List ℕ → ℕ
label_end n words = n + length (colon ++ words)

-- whether it fits
unfoldable pub has_room : List ℕ → ℕ → List ℕ → Bool
has_room out n words = leb (label_end n words) (length out)

-- how many bytes are to be printed: none where the line does not fit
abbrev pub label_reply : List ℕ → ℕ → List ℕ → ℕ
label_reply out n words = cond (has_room out n words) (label_end n words) 0

-- the buffer, whose first n bytes are the name, after the line was put behind it
abbrev pub labelled : List ℕ → ℕ → List ℕ → List ℕ
labelled out n words = cond (has_room out n words) (take n out ++ (colon ++ words) ++ drop (label_end n words) out) out

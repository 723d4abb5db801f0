-- Laws. Each promise determines the reply: two replies that satisfy it are equal. Assumes nothing.
use Rattle.std.specs.Prelude.{ℕ, List, ◌≡◌, Result}
use Rattle.reply.specs.Chain.{unique}
use Rattle.deck.specs.Filled.{open_book}
use Rattle.catalogue.specs.Library.{library_kind, library_reply}
use Rattle.catalogue.specs.Products.{count_reply}
use Rattle.catalogue.specs.Said.{said_library}
use Rattle.catalogue.specs.declared.LibraryRead.{LibraryRead}
use Rattle.reply.specs.Read.{as_result}
use Rattle.reply.specs.declared.Refusal.{Refusal}

pub unique-read_library : (d book : List ℕ) (r s : LibraryRead) (b c : List ℕ) → (r ≡ said_library (library_reply d)) × (b ≡ open_book library_kind d book)
    → (s ≡ said_library (library_reply d)) × (c ≡ open_book library_kind d book) → (r ≡ s) × (b ≡ c)
unique-read_library d book r s b c p q = (unique p.0 q.0, unique p.1 q.1)

pub unique-count : (d : List ℕ) (r s : Result ℕ Refusal) → r ≡ as_result (count_reply d) → s ≡ as_result (count_reply d) → r ≡ s
unique-count d r s = unique

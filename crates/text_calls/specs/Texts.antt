-- Definitions. What the C functions for neighbour texts answer: the library's reply, then 9 where a number that is lent out beside it has no room.
use Rattle.std.specs.Prelude.{ℕ, List, [], ◌∷◌, length}
use Rattle.graph.specs.Graph.{Graph}
use Rattle.reply.specs.Read.{Read}
use Rattle.adjacency.specs.Neighbours.{bond_list_bytes, neighbours_reply}
use Rattle.adjacency.specs.Written.{neighbours_write_reply}
use Rattle.calls.specs.Beside.{with_room, Beside}

-- reading: the bonds go out, and the numbers of atoms and of bonds
abbrev pub text_reply : List ℕ → ℕ → ℕ → Read Graph
text_reply t room entries = with_room entries 2 (neighbours_reply t room)

abbrev pub TextRead : List ℕ → List ℕ → List ℕ → ℕ → List ℕ → List ℕ → Type 0
TextRead t bonds counts =
    Beside (text_reply t (length bonds) (length counts)) (λ g. bond_list_bytes g.bonds) (λ g. g.atoms ∷ length g.bonds ∷ []) bonds counts

-- writing: the text goes out, and its length
abbrev pub told_reply : ℕ → List ℕ → ℕ → ℕ → Read (List ℕ)
told_reply n xs room entries = with_room entries 1 (neighbours_write_reply n xs room)

abbrev pub TextWritten : ℕ → List ℕ → List ℕ → List ℕ → ℕ → List ℕ → List ℕ → Type 0
TextWritten n xs text told = Beside (told_reply n xs (length text) (length told)) (λ t. t) (λ t. length t ∷ []) text told

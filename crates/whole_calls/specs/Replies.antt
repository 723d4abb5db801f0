-- Definitions. What the C functions for large molecules answer: the library's reply, then 9 where the numbers of atoms and bonds have no room.
use Rattle.std.specs.Prelude.{ℕ, ◌+◌, ◌*◌, ◌%◌, List, [], ◌∷◌, length, Result, Ok, Err}
use Rattle.graph.specs.Graph.{Graph}
use Rattle.reply.specs.Read.{Read}
use Rattle.whole.specs.Whole.{pair_numbers, whole_reply}
use Rattle.reply.specs.declared.Refusal.{Refusal}
use Rattle.matched.specs.declared.Match.{Match}
use Rattle.matched.specs.declared.Match.TheVariants.{Same, Differs}
use Rattle.calls.specs.Convention.{most_place, code}
use Rattle.calls.specs.Beside.{with_room, Beside}

-- the bonds go out, and the numbers of atoms and of bonds
abbrev pub out_reply : List ℕ → ℕ → ℕ → Read Graph
out_reply d room entries = with_room entries 2 (whole_reply d room)

abbrev pub WrittenOut : List ℕ → List ℕ → List ℕ → ℕ → List ℕ → List ℕ → Type 0
WrittenOut d bonds counts = Beside (out_reply d (length bonds) (length counts)) (λ g. pair_numbers g.bonds) (λ g. g.atoms ∷ length g.bonds ∷ []) bonds counts

-- a matching: 0 for yes, 255 for no with the first place that fails
abbrev pub match_code : Result Match Refusal → ℕ
match_code (Err r) = code r
match_code (Ok Same) = 0
match_code (Ok (Differs p)) = 255 + 256 * (p % most_place)

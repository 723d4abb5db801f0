-- Definitions. What each C function for a block answers: the library's reply, its numbers as a list in the order in which they are lent out.
use Rattle.std.specs.Prelude.{ℕ, ltb, Float, length, List, [], ◌∷◌, map}
use Rattle.reply.specs.Read.{Read, read, ◌then◌, refuse_if}
use Rattle.block.specs.Block.{bonds_of, graph_of, block_reply}
use Rattle.block.specs.Index.{indices_reply, vertex_reply}
use Rattle.block.specs.Rows.{row_reply}
use Rattle.block.specs.declared.Vertex.{Vertex}
use Rattle.graph.specs.Paths.{share}
use Rattle.shares.specs.Reply.{shares_reply}
use Rattle.szeged.specs.Szeged.{szeged_terms}
use Rattle.szeged.specs.Reply.{szeged_reply}
use Rattle.balaban.specs.Balaban.{balaban_reply}
use Rattle.sets.specs.Reply.{sets_reply}
use Rattle.sets.specs.declared.Sets.{Sets}
use Rattle.poly.specs.declared.Values.{Values}
use Rattle.poly.specs.Poly.{polynomial_reply}
use Rattle.records.specs.declared.Sheet.TheVariants.{Five}
use Rattle.calls.specs.Convention.{number_list}
use Rattle.calls.specs.Blocks.{fields_list}
use Rattle.calls.specs.Beside.{Beside}

-- atom count, W, even part, odd part, polarity
abbrev pub indices_list : ℕ → List ℕ → Read (List ℕ)
indices_list n bonds = fields_list Five (indices_reply n bonds)

-- sum, even part, odd part, even count, odd count, f(1), f(2)
abbrev pub sums_of : Vertex → List ℕ
sums_of v = v.sum ∷ v.even ∷ v.odd ∷ v.evens ∷ v.odds ∷ v.ones ∷ v.twos ∷ []

abbrev pub vertex_list : ℕ → List ℕ → ℕ → Read (List ℕ)
vertex_list n bonds a = vertex_reply n bonds a then λ v. read (sums_of v)

-- how far the farthest atom is
abbrev pub farthest_list : ℕ → List ℕ → ℕ → Read (List ℕ)
farthest_list n bonds a = row_reply n bonds a then λ x. read (x.1 ∷ [])

-- the even and the odd value
abbrev pub values_list : Values → List Float
values_list v = v.even ∷ v.odd ∷ []

abbrev pub polynomial_list : ℕ → List ℕ → Float → Read (List Float)
polynomial_list n bonds x = polynomial_reply n bonds x then λ v. read (values_list v)

-- Balaban's J
abbrev pub balaban_list : ℕ → List ℕ → Read (List ℕ)
balaban_list n bonds = number_list (balaban_reply n bonds)

-- sets of bonds that share no atom, sets of atoms no two of which are bonded
abbrev pub sets_numbers : Sets → List ℕ
sets_numbers s = s.bonds ∷ s.atoms ∷ []

abbrev pub sets_list : ℕ → List ℕ → Read (List ℕ)
sets_list n bonds = sets_reply n bonds then λ s. read (sets_numbers s)

-- A number for each bond, and one number beside them: the block's refusal, then 9 where there is no entry for the one number, then the library's answer.
abbrev pub beside_reply : ℕ → List ℕ → ℕ → Read ℕ → Read ℕ
beside_reply n bonds entries answer = block_reply n bonds then λ _. refuse_if (ltb entries 1) 9 0 then λ _. answer

-- the contributions and D
abbrev pub contributions_reply : ℕ → List ℕ → ℕ → ℕ → Read ℕ
contributions_reply n bonds room entries = beside_reply n bonds entries (shares_reply n bonds room)

abbrev pub Contributed : ℕ → List ℕ → List ℕ → List ℕ → ℕ → List ℕ → List ℕ → Type 0
Contributed n bonds shares denominator =
    Beside (contributions_reply n bonds (length shares) (length denominator)) (λ _. map (share (graph_of n bonds)) (bonds_of bonds)) (λ d. d ∷ []) shares denominator

-- the Szeged terms and their sum
abbrev pub SzegedLent : ℕ → List ℕ → List ℕ → List ℕ → ℕ → List ℕ → List ℕ → Type 0
SzegedLent n bonds terms index =
    Beside (beside_reply n bonds (length index) (szeged_reply n bonds (length terms))) (λ _. szeged_terms (graph_of n bonds)) (λ x. x ∷ []) terms index

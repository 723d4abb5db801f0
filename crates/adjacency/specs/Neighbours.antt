-- Definitions. The neighbour text of [Juvan, Mohar], table 1 (docs/RULES.md): the atom count, then for each described atom its label, its neighbours and a 0, and a last 0. Read into a block.
use Rattle.std.specs.Prelude.{ℕ, suc, ◌+◌, ◌*◌, min, Bool, ◌||◌, ◌&&◌, not, cond, List, [], ◌∷◌, ◌++◌, eqb, leb, ltb, length, drop}
use Rattle.graph.specs.Graph.{Graph, Bond, bond, connected}
use Rattle.reply.specs.Read.{Read, refused, read, ◌then◌, refuse_if, refuse_for, refusal, is_outside, if_else}
use Rattle.block.specs.Block.{most_atoms, most_bytes, bond_fault}
use Rattle.text.specs.Text.{is_digit, digit}

-- THE NUMBERS OF A TEXT. One is a longest run of digits: what it says, and the place of its first digit.
pub record TextNumber : Type 0 where
  pub value : ℕ
  pub place : ℕ

abbrev pub text_number : ℕ → ℕ → TextNumber
text_number v p = record { value = v; place = p }

-- the most that a number may say; what is above it says `too_much`
abbrev pub most_value : ℕ
most_value = 999

abbrev pub too_much : ℕ
too_much = suc most_value

-- what digits say: those before say v
abbrev pub grown : ℕ → ℕ → ℕ
grown v b = min (10 * v + digit b) too_much

-- the run of digits right before a place, as a number, if there is one
pub data Run : Type 0 where
  none : Run
  run : TextNumber → Run

-- a run that the digit b at a place makes longer
abbrev pub longer : Run → ℕ → ℕ → Run
longer none at b = run (text_number (grown 0 b) at)
longer (run x) at b = run (text_number (grown x.value b) x.place)

-- a run that ends, and the numbers after it
abbrev pub ended : Run → List TextNumber → List TextNumber
ended none xs = xs
ended (run x) xs = x ∷ xs

-- the numbers of bytes that begin at a place
unfoldable pub numbers_from : Run → ℕ → List ℕ → List TextNumber
numbers_from r at [] = ended r []
numbers_from r at (b ∷ bs) =
    if_else (is_digit b)
    (λ _. numbers_from (longer r at b) (at + 1) bs)
    (λ _. ended r (numbers_from none (at + 1) bs))

abbrev pub numbers : List ℕ → List TextNumber
numbers text = numbers_from none 0 text

-- 21: A BYTE THAT IS NO DIGIT, BLANK, TAB, CR OR LF, OR A NUMBER ABOVE 999, whichever stands first in the whole text.
abbrev pub is_apart : ℕ → Bool
is_apart b = eqb b 32 || eqb b 9 || eqb b 13 || eqb b 10

abbrev pub is_good : ℕ → Bool
is_good b = is_digit b || is_apart b

-- how many good bytes a text begins with
unfoldable pub good_bytes : List ℕ → ℕ
good_bytes [] = 0
good_bytes (b ∷ bs) = if_else (is_good b) (λ _. suc (good_bytes bs)) (λ _. 0)

-- the place of the first number that is too large; `end` where there is none
unfoldable pub large_at : ℕ → List TextNumber → ℕ
large_at end [] = end
large_at end (x ∷ xs) = if_else (ltb most_value x.value) (λ _. x.place) (λ _. large_at end xs)

unfoldable pub fault_at : List ℕ → ℕ
fault_at text = min (good_bytes text) (large_at (length text) (numbers text))

abbrev pub bytes_reply : List ℕ → Read (Unit {0})
bytes_reply text = refuse_if (ltb (fault_at text) (length text)) 21 (fault_at text)

-- 22: THE SHAPE. A number is read with the label of the description that it stands in, which is 0 where a label is due; the label for the number after it:
abbrev pub label_after : ℕ → ℕ → ℕ
label_after label x = cond (eqb x 0) 0 (cond (eqb label 0) x label)

-- a 0 where a label is due
abbrev pub is_last : ℕ → ℕ → Bool
is_last label x = eqb label 0 && eqb x 0

-- nothing stands after the last 0
abbrev pub last_reply : List TextNumber → Read (Unit {0})
last_reply [] = read tt
last_reply (x ∷ xs) = refused (refusal 22 x.place)

-- descriptions up to the last 0, in a text that ends at `end`
unfoldable pub shape_from : ℕ → ℕ → List TextNumber → Read (Unit {0})
shape_from end label [] = refused (refusal 22 end)
shape_from end label (x ∷ xs) =
    if_else (is_last label x.value)
    (λ _. last_reply xs)
    (λ _. shape_from end (label_after label x.value) xs)

-- the atom count comes first; what is read is the count, and the numbers after it
pub record CountRead : Type 0 where
  pub count : ℕ
  pub rest : List TextNumber

abbrev pub atom_count_reply : ℕ → List TextNumber → Read CountRead
atom_count_reply end [] = refused (refusal 22 end)
atom_count_reply end (x ∷ xs) = shape_from end 0 xs then λ _. read (record { count = x.value; rest = xs })

-- WHAT THE NUMBERS ASK FOR, in the order of the text: an atom that is described, or a bond.
pub data Step : Type 0 where
  described : ℕ → Step
  bonded : Bond → Step

-- a bond's end as one byte: 255 stands for what is above it, and is no atom of a block either
abbrev pub end : ℕ → ℕ
end x = min x 255

-- a label is described; of a label's neighbours, those that are not smaller are bonds
unfoldable pub asked : ℕ → ℕ → List Step
asked label x =
    cond (eqb label 0)
    (described x ∷ [])
    (cond (leb label x) (bonded (bond (end label) (end x)) ∷ []) [])

unfoldable pub asked_from : ℕ → List TextNumber → List Step
asked_from label [] = []
asked_from label (x ∷ xs) = asked label x.value ++ asked_from (label_after label x.value) xs

abbrev pub steps : List TextNumber → List Step
steps xs = asked_from 0 xs

unfoldable pub bonds_in : List Step → List Bond
bonds_in [] = []
bonds_in (described x ∷ ss) = bonds_in ss
bonds_in (bonded b ∷ ss) = b ∷ bonds_in ss

-- THE BLOCK'S REFUSALS. 3 for a described label above n in its turn, and 3 to 6 of the bonds; `before` are the bonds that passed, the last first
unfoldable pub steps_reply : ℕ → List Bond → List Step → Read (Unit {0})
steps_reply n before [] = read tt
steps_reply n before (described x ∷ ss) = refuse_if (ltb n x) 3 (suc (length before)) then λ _. steps_reply n before ss
steps_reply n before (bonded b ∷ ss) = refuse_for (bond_fault n before b) (suc (length before)) then λ _. steps_reply n (b ∷ before) ss

-- two bytes a bond
abbrev pub bonds_length : List Bond → ℕ
bonds_length bs = 2 * length bs

unfoldable pub bond_list_bytes : List Bond → List ℕ
bond_list_bytes [] = []
bond_list_bytes (b ∷ bs) = b.one ∷ b.two ∷ bond_list_bytes bs

abbrev pub molecule : ℕ → List Step → Graph
molecule n ss = record { atoms = n; bonds = bonds_in ss }

-- 1 to 7, then 9 for the bytes that are lent
unfoldable pub block_of : ℕ → List Step → ℕ → Read Graph
block_of n ss room =
    refuse_if (is_outside most_atoms n) 1 0 then λ _.
    refuse_if (ltb most_bytes (bonds_length (bonds_in ss))) 2 0 then λ _.
    steps_reply n [] ss then λ _.
    refuse_if (not (connected (molecule n ss))) 7 0 then λ _.
    refuse_if (ltb room (bonds_length (bonds_in ss))) 9 0 then λ _.
    read (molecule n ss)

-- THE WHOLE
unfoldable pub neighbours_reply : List ℕ → ℕ → Read Graph
neighbours_reply text room =
    bytes_reply text then λ _.
    atom_count_reply (length text) (numbers text) then λ c.
    block_of c.count (steps c.rest) room

-- the lent bytes afterwards: the bonds at their front, or as they were
abbrev pub bytes_after : Read Graph → List ℕ → List ℕ
bytes_after (refused r) out = out
bytes_after (read g) out = bond_list_bytes g.bonds ++ drop (bonds_length g.bonds) out

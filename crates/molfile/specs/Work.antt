-- Work. What the functions over the lists of a file do: the marks of its hydrogens, the ends of its bonds, the weights and new numbers of its atoms.
use Rattle.std.specs.Prelude.{ℕ, zero, suc, ◌+◌, ◌<◌, Bool, ◌&&◌, ◌||◌, cond, List, [], ◌∷◌, ◌++◌, ◌≡◌, eqb, length, get_or, take, drop, Result, Ok, Err}
use Rattle.graph.specs.Graph.{Bond, bond, Within}
use Rattle.reply.specs.Read.{Read, refused, read, ◌then◌}
use Rattle.text.specs.Text.{next_line}
use Rattle.text.specs.Said.{line_at}
use Rattle.molfile.specs.Molfile.{counts_place, atom_line_place, bond_line_place, rest_place, atom_line_count, bond_line_count, ends_of_line, bond_of_line, hydrogen_at, in_turn, header_reply, numbers_reply, atom_reply, bond_reply_of, end_line_reply, new_number, kept_bytes}
use Rattle.molfile.specs.declared.Numbers.{Numbers}
use Rattle.molfile.specs.declared.Kept.{Kept}
use Rattle.reply.specs.declared.Refusal.{Refusal}
use Rattle.text.specs.declared.Line.{Line}

-- the most atoms or bonds that three digits say
abbrev pub most : ℕ
most = 999

abbrev pub said_line : List ℕ → ℕ → Read (Unit {0}) → Result Line Refusal
said_line d at (refused r) = Err r
said_line d at (read u) = Ok (line_at d at)

abbrev pub said_walk : ℕ → Read (Unit {0}) → Result ℕ Refusal
said_walk at (refused r) = Err r
said_walk at (read u) = Ok at

-- two numbers, and where the next line begins
abbrev pub numbers_at : List ℕ → ℕ → Numbers
numbers_at d at = record { one = (ends_of_line d at).one; two = (ends_of_line d at).two; next = next_line d at }

abbrev pub said_numbers : List ℕ → ℕ → Read (Unit {0}) → Result Numbers Refusal
said_numbers d at (refused r) = Err r
said_numbers d at (read u) = Ok (numbers_at d at)

-- the header and the counts line
unfoldable pub counts_reply : List ℕ → Read (Unit {0})
counts_reply d = in_turn 3 (header_reply d) then λ _. numbers_reply d (counts_place d)

-- the lines after it
unfoldable pub lists_reply : List ℕ → Read (Unit {0})
lists_reply d =
    in_turn (atom_line_count d) (atom_reply d) then λ _.
    in_turn (bond_line_count d) (bond_reply_of d) then λ _.
    end_line_reply d (rest_place d)

-- those after the atoms
unfoldable pub rest_reply : List ℕ → Read (Unit {0})
rest_reply d = in_turn (bond_line_count d) (bond_reply_of d) then λ _. end_line_reply d (rest_place d)

-- the mark of an atom line: 1 for a hydrogen
abbrev pub mark_of : Bool → ℕ
mark_of h = cond h 1 0

pub record Marks (d : List ℕ) (n : ℕ) (marks : List ℕ) : Type 0 where
  pub at : (i : ℕ) → i < n → get_or marks i 0 ≡ mark_of (hydrogen_at d (atom_line_place d i))

-- the ends of the bonds
pub record Ends (d : List ℕ) (m : ℕ) (ones twos : List ℕ) : Type 0 where
  pub one : (k : ℕ) → k < m → get_or ones k 0 ≡ (bond_of_line d k).one
  pub two : (k : ℕ) → k < m → get_or twos k 0 ≡ (bond_of_line d k).two

-- the atom lines: where they end, and the marks
pub record AtomsRead (d : List ℕ) (n : ℕ) (before after : List ℕ) (r : Result ℕ Refusal) : Type 0 where
  pub reply : r ≡ said_walk (atom_line_place d n) (in_turn n (atom_reply d))
  pub marks : in_turn n (atom_reply d) ≡ read tt → Marks d n after
  pub same : length after ≡ length before

pub record BondsRead (d : List ℕ) (m : ℕ) (ones twos ones' twos' : List ℕ) (r : Result ℕ Refusal) : Type 0 where
  pub reply : r ≡ said_walk (bond_line_place d m) (in_turn m (bond_reply_of d))
  pub ends : in_turn m (bond_reply_of d) ≡ read tt → Ends d m ones' twos'
  pub same_one : length ones' ≡ length ones
  pub same_two : length twos' ≡ length twos

pub record RestRead (d ones twos ones' twos' : List ℕ) (r : Result ℕ Refusal) : Type 0 where
  pub reply : r ≡ said_walk (rest_place d) (rest_reply d)
  pub ends : rest_reply d ≡ read tt → Ends d (bond_line_count d) ones' twos'
  pub same_one : length ones' ≡ length ones
  pub same_two : length twos' ≡ length twos

pub record ListsRead (d marks ones twos marks' ones' twos' : List ℕ) (r : Result ℕ Refusal) : Type 0 where
  pub reply : r ≡ said_walk (rest_place d) (lists_reply d)
  pub marks_are : lists_reply d ≡ read tt → Marks d (atom_line_count d) marks'
  pub ends_are : lists_reply d ≡ read tt → Ends d (bond_line_count d) ones' twos'
  pub same_marks : length marks' ≡ length marks
  pub same_one : length ones' ≡ length ones
  pub same_two : length twos' ≡ length twos

-- Over the lists alone.
abbrev pub bond_by : List ℕ → List ℕ → ℕ → Bond
bond_by ones twos k = bond (get_or ones k 0) (get_or twos k 0)

-- the entry of an atom, from 1
abbrev pub entry_of : List ℕ → ℕ → ℕ
entry_of l zero = 0
entry_of l (suc i) = get_or l i 0

-- what a bond to an atom of a mark weighs: 1, and 1 more to a hydrogen
abbrev pub heft : ℕ → ℕ
heft mark = cond (eqb mark 0) 1 2

-- what a bond adds to the weight of an atom
abbrev pub share : List ℕ → (ℕ → Bond) → ℕ → ℕ → ℕ
share marks f i k = cond (eqb (f k).one i) (heft (entry_of marks (f k).two)) (cond (eqb (f k).two i) (heft (entry_of marks (f k).one)) 0)

-- the sum of f at the numbers below k
unfoldable pub sum : ℕ → (ℕ → ℕ) → ℕ
sum zero f = 0
sum (suc k) f = sum k f + f k

abbrev pub weight : List ℕ → (ℕ → Bond) → ℕ → ℕ → ℕ
weight marks f m i = sum m (share marks f i)

-- the ends are atoms of 1 to n
pub record EndsInside (n m : ℕ) (ones twos : List ℕ) : Type 0 where
  pub one : (k : ℕ) → k < m → Within n (get_or ones k 0)
  pub two : (k : ℕ) → k < m → Within n (get_or twos k 0)

-- the weights of all atoms by the first m bonds
pub record Weighed (marks ones twos : List ℕ) (m : ℕ) (weights : List ℕ) : Type 0 where
  pub size : length weights ≡ most
  pub at : (i : ℕ) → i < most → get_or weights i 0 ≡ weight marks (bond_by ones twos) m (suc i)

-- a hydrogen of weight 1 is dropped
abbrev pub goes : ℕ → ℕ → Bool
goes mark weight = eqb mark 1 && eqb weight 1

abbrev pub dropped_by : List ℕ → List ℕ → ℕ → Bool
dropped_by marks weights i = goes (entry_of marks i) (entry_of weights i)

-- the new number of an atom, 0 for one that is dropped
abbrev pub number_by : (ℕ → Bool) → ℕ → ℕ
number_by dropped i = cond (dropped (suc i)) 0 (new_number dropped (suc i))

-- the first n atoms are numbered
pub record Numbered (dropped : ℕ → Bool) (n : ℕ) (numbers : List ℕ) (r : ℕ) : Type 0 where
  pub size : length numbers ≡ most
  pub count : r ≡ new_number dropped n
  pub at : (i : ℕ) → i < n → get_or numbers i 0 ≡ number_by dropped i

-- the bonds both of whose ends have a number, two numbers each
unfoldable pub kept_by : List ℕ → (ℕ → Bond) → ℕ → List ℕ
kept_by numbers f zero = []
kept_by numbers f (suc k) =
    let a = entry_of numbers (f k).one in
    let b = entry_of numbers (f k).two in
    kept_by numbers f k ++ cond (eqb a 0 || eqb b 0) [] (a ∷ b ∷ [])

-- what the lists say of hydrogens and bonds
pub record MarksGiven (h : ℕ → Bool) (f : ℕ → Bond) (n m : ℕ) (marks ones twos : List ℕ) : Type 0 where
  pub mark : (i : ℕ) → i < n → get_or marks i 0 ≡ mark_of (h (suc i))
  pub one : (k : ℕ) → k < m → get_or ones k 0 ≡ (f k).one
  pub two : (k : ℕ) → k < m → get_or twos k 0 ≡ (f k).two
  pub within : (k : ℕ) → k < m → Within n (f k).one × Within n (f k).two

-- what is kept: so many atoms, and as many numbers of these bonds as there is room for at the front of what is lent
pub record KeepsBonds (dropped : ℕ → Bool) (f : ℕ → Bond) (n m : ℕ) (out after : List ℕ) (r : Kept) : Type 0 where
  pub atoms : r.atoms ≡ new_number dropped n
  pub count : r.numbers ≡ length (take (length out) (kept_bytes dropped f m))
  pub numbers_are : after ≡ take (length out) (kept_bytes dropped f m) ++ drop (length (take (length out) (kept_bytes dropped f m))) out

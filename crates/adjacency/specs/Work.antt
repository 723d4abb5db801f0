-- Work. What the functions that go through a text do.
use Rattle.std.specs.Prelude.{ℕ, ◌+◌, ◌*◌, ◌/◌, ◌%◌, ◌<◌, ◌≤◌, min, Bool, true, false, ◌&&◌, ◌||◌, not, cond, List, [], ◌∷◌, ◌≡◌, eqb, leb, ltb, length, get_or, drop, set}
use Rattle.graph.specs.Graph.{Graph, Bond}
use Rattle.graph.specs.Sets.{has}
use Rattle.reply.specs.Read.{Read, refused, read, ◌then◌, refuse_if, refusal, is_outside}
use Rattle.block.specs.Block.{block_reply, bonds_reply, bonds_of, graph_of, most_atoms, most_bytes}
use Rattle.block.specs.Near.{around}
use Rattle.text.specs.Text.{is_digit}
use Rattle.adjacency.specs.Neighbours.{TextNumber, text_number, most_value, grown, none, run, numbers_from, good_bytes, large_at, fault_at, shape_from, end, Step, described, bonded, asked_from, bonds_in, bonds_length}

-- what digits say that a byte goes on with, and where they begin; 0 and the next place where it is no digit
abbrev pub value_after : ℕ → ℕ → ℕ
value_after v b = cond (is_digit b) (grown v b) 0

abbrev pub start_after : ℕ → ℕ → ℕ → ℕ
start_after start next b = cond (is_digit b) start next

-- the bytes before i are good, and the digits right before it, from `start` on, say `value`
pub record Looking (t : List ℕ) (value start i : ℕ) : Type 0 where
  pub same : fault_at t ≡ min (i + good_bytes (drop i t)) (large_at (length t) (numbers_from (run (text_number value start)) i (drop i t)))
  pub small : value ≤ most_value
  pub first : start ≤ i
  pub within : i ≤ length t

-- the numbers from a place on at which none goes on
abbrev pub numbers_at : List ℕ → ℕ → List TextNumber
numbers_at t at = numbers_from none at (drop at t)

abbrev pub steps_at : ℕ → List ℕ → ℕ → List Step
steps_at label t at = asked_from label (numbers_at t at)

-- r is the place of the first digit from a place on, or the length
pub record Skipped (t : List ℕ) (at r : ℕ) : Type 0 where
  pub same : numbers_at t at ≡ numbers_at t r
  pub later : at ≤ r
  pub within : r ≤ length t
  pub digit : r < length t → is_digit (get_or t r 0) ≡ true

-- a number from a place on says `value` and begins at `place`, and `next` is the place behind it
pub record Here (t : List ℕ) (at value place next : ℕ) : Type 0 where
  pub same : numbers_at t at ≡ text_number value place ∷ numbers_at t next
  pub later : at < next
  pub within : next ≤ length t

-- the first number from a place on; there is none where its place is not within the text
pub record Next (t : List ℕ) (at value place next : ℕ) : Type 0 where
  pub past : length t ≤ place → numbers_at t at ≡ []
  pub here : place < length t → Here t at value place next

-- whether a number after a label is a bond, and whether it is a label above n
abbrev pub is_bond : ℕ → ℕ → Bool
is_bond label x = not (eqb label 0) && leb label x

abbrev pub is_high : ℕ → ℕ → ℕ → Bool
is_high n label x = eqb label 0 && ltb n x

-- 22, then the number of bonds; k of them stand before
abbrev pub shaped_from : ℕ → ℕ → ℕ → List TextNumber → Read ℕ
shaped_from last k label xs = shape_from last label xs then λ _. read (k + length (bonds_in (asked_from label xs)))

-- the bonds before the first label above n, and whether there is one
unfoldable pub until : ℕ → List Step → List Bond
until n [] = []
until n (described x ∷ ss) = let r = until n ss in cond (ltb n x) [] r
until n (bonded b ∷ ss) = b ∷ until n ss

unfoldable pub any_high : ℕ → List Step → Bool
any_high n [] = false
any_high n (described x ∷ ss) = ltb n x || any_high n ss
any_high n (bonded b ∷ ss) = any_high n ss

-- bonds put into bytes from an index on
unfoldable pub put_at : List ℕ → ℕ → List Bond → List ℕ
put_at out p [] = out
put_at out p (b ∷ bs) = put_at (set (set out p b.one) (p + 1) b.two) (p + 2) bs

-- one number's
abbrev pub put_one : List ℕ → ℕ → ℕ → ℕ → List ℕ
put_one out p label x = cond (is_bond label x) (set (set out p (end label)) (p + 1) (end x)) out

abbrev pub put_end : ℕ → ℕ → ℕ → ℕ
put_end p label x = cond (is_bond label x) (p + 2) p

-- the bonds until the first label above n are put into bytes
pub record BondsPut (n : ℕ) (ss : List Step) (out after : List ℕ) (count : ℕ) (high : Bool) : Type 0 where
  pub bytes : after ≡ put_at out 0 (until n ss)
  pub counted : count ≡ 2 * length (until n ss)
  pub stopped : high ≡ any_high n ss
  pub same : length after ≡ length out

-- the same while it goes on: p bytes are put, and the numbers xs are left
pub record Filling (n : ℕ) (ss : List Step) (first : List ℕ) (label : ℕ) (xs : List TextNumber) (out : List ℕ) (p : ℕ) : Type 0 where
  pub bytes : put_at first 0 (until n ss) ≡ put_at out p (until n (asked_from label xs))
  pub count : 2 * length (until n ss) ≡ p + 2 * length (until n (asked_from label xs))
  pub high : any_high n ss ≡ any_high n (asked_from label xs)
  pub same : length out ≡ length first

-- an atom count and bonds that 1 and 2 do not refuse
pub record FewBonds (n : ℕ) (ss : List Step) : Type 0 where
  pub low : n ≡ 0 → ⊥
  pub high : n ≤ most_atoms
  pub short : bonds_length (bonds_in ss) ≤ most_bytes

-- the same of a block
pub record Sized (n : ℕ) (xs : List ℕ) : Type 0 where
  pub atoms : is_outside most_atoms n ≡ false
  pub bytes : (not (eqb (length xs % 2) 0) || ltb most_bytes (length xs)) ≡ false

-- the block's refusals of bonds after which a label above n stands, or none
abbrev pub label_refused : List ℕ → Read (Unit {0})
label_refused xs = refused (refusal 3 (length xs / 2 + 1))

abbrev pub high_reply : ℕ → List ℕ → Bool → Read (Unit {0})
high_reply n xs false = block_reply n xs
high_reply n xs true = bonds_reply n [] (bonds_of xs) then λ _. label_refused xs

-- the same, then 9 for the bytes that are lent
abbrev pub kept_reply : ℕ → List ℕ → Bool → ℕ → Read Graph
kept_reply n xs high room = high_reply n xs high then λ _. refuse_if (ltb room (length xs)) 9 0 then λ _. read (graph_of n xs)

-- a text, or 9 for the bytes that are lent
abbrev pub given_reply : List ℕ → ℕ → Read (List ℕ)
given_reply t room = refuse_if (ltb room (length t)) 9 0 then λ _. read t

-- whether two atoms are bonded, by sets of neighbours
abbrev pub joined_in : List ℕ → ℕ → ℕ → Bool
joined_in near i j = has (around near i) j

-- the most bytes that the text of a block has
abbrev pub longest : ℕ
longest = 8 * most_atoms + 2 * most_bytes

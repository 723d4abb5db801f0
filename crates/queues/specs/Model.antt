-- Definitions. A queue with no bytes: what it holds, at most eight, each under its number; and what a call is told and leaves.
use Rattle.std.specs.Prelude.{ℕ, Bool, ◌&&◌, not, cond, List, [], ◌∷◌, eqb, leb, length}
use Rattle.reply.specs.Read.{Read, read, ◌then◌, refuse_if}
use Rattle.queues.specs.Shelf.{places, unless}
use Rattle.queues.specs.Calls.{Call, add, look, drop, compose, Answer, done, fields, sheet}

-- goods under a number
pub record Entry (G : Type 0) : Type 0 where
  pub number : ℕ
  pub goods : G

-- what has the number first, `nothing` where nothing has it
unfoldable pub lookup : {G : Type 0} → G → List (Entry G) → ℕ → Entry G
lookup nothing [] x = record { number = 0; goods = nothing }
lookup nothing (e ∷ q) x = cond (eqb e.number x) e (lookup nothing q x)

-- all but what has the number
unfoldable pub without : {G : Type 0} → List (Entry G) → ℕ → List (Entry G)
without [] x = []
without (e ∷ q) x = cond (eqb e.number x) q (e ∷ without q x)

-- whether something has the number; 0 is no number
unfoldable pub has : {G : Type 0} → G → List (Entry G) → ℕ → Bool
has nothing q x = not (eqb x 0) && eqb (lookup nothing q x).number x

-- what is told of goods and of all that a queue holds
pub record Meaning (Goods Fields Order Told : Type 0) : Type 0 where
  pub nothing : Goods
  pub fine : Goods → Read (Unit {0})
  pub fields_of : Goods → Fields
  pub composed_of : List (Entry Goods) → Order → Told

module _ {G F O T : Type 0} (m : Meaning G F O T) where
  unfoldable pub told_add : List (Entry G) → ℕ → G → Read (Unit {0})
  told_add q x g =
      m.fine g then λ _.
      refuse_if (eqb x 0) 14 0 then λ _.
      refuse_if (has m.nothing q x) 29 0 then λ _.
      refuse_if (leb places (length q)) 28 0

  unfoldable pub told_look : List (Entry G) → ℕ → Read F
  told_look q x = refuse_if (not (has m.nothing q x)) 30 0 then λ _. read (m.fields_of (lookup m.nothing q x).goods)

  unfoldable pub told_drop : List (Entry G) → ℕ → Read (Unit {0})
  told_drop q x = refuse_if (not (has m.nothing q x)) 30 0

  abbrev pub told : List (Entry G) → Call G O → Answer F T
  told q (add x g) = done (told_add q x.value g)
  told q (look x) = fields (told_look q x)
  told q (drop x) = done (told_drop q x)
  told q (compose o) = sheet (m.composed_of q o)

  -- what the queue holds after it
  abbrev pub left : List (Entry G) → Call G O → List (Entry G)
  left q (add x g) = unless (told_add q x.value g) q (record { number = x.value; goods = g } ∷ q)
  left q (look x) = q
  left q (drop x) = unless (told_drop q x) q (without q x)
  left q (compose o) = q

  -- the answers to calls, one after the other, and what it holds after them
  unfoldable pub told_all : List (Entry G) → List (Call G O) → List (Answer F T)
  told_all q [] = []
  told_all q (c ∷ cs) = told q c ∷ told_all (left q c) cs

  unfoldable pub left_all : List (Entry G) → List (Call G O) → List (Entry G)
  left_all q [] = q
  left_all q (c ∷ cs) = left_all (left q c) cs

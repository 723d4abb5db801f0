-- Definitions. The calls of both queues at a table, by its bytes; for anything that is added, looked up and composed.
use Rattle.std.specs.Prelude.{ℕ, ◌<◌, Bool, true, false, List, [], ◌∷◌}
use Rattle.reply.specs.Read.{Read}
use Rattle.queues.specs.Shelf.{add_reply, added, look_reply, drop_reply, dropped}
use Rattle.queues.specs.Table.{shelf, on_table, table_after}
use Rattle.queues.specs.declared.Queue.{Queue}
use Rattle.queues.specs.declared.Queue.TheVariants.{Day, Night}

-- a number of two bytes
pub record CallNumber : Type 0 where
  pub value : ℕ
  pub small : value < 65536

-- what a table is for: goods are added and stored in w bytes, fields are read of them, and something is composed of what a shelf holds
pub record Trade (Goods Fields Order Sheet Told : Type 0) : Type 0 where
  pub width : ℕ
  pub check : Goods → Read (Unit {0})
  pub stored : ℕ → Goods → List ℕ
  pub fields_of : List ℕ → Fields
  pub composed : List ℕ → Order → Read Sheet
  pub said : Order → Read Sheet → Told

-- the calls of a queue
pub data Call (Goods Order : Type 0) : Type 0 where
  add : CallNumber → Goods → Call Goods Order
  look : ℕ → Call Goods Order
  drop : ℕ → Call Goods Order
  compose : Order → Call Goods Order

-- what a call is told: that it is done, or the fields, or what was composed; or a refusal
pub data Answer (Fields Told : Type 0) : Type 0 where
  done : Read (Unit {0}) → Answer Fields Told
  fields : Read Fields → Answer Fields Told
  sheet : Told → Answer Fields Told

-- a call of one of the queues
pub record Sent (Goods Order : Type 0) : Type 0 where
  pub queue : Queue
  pub call : Call Goods Order

abbrev pub mine : Queue → Queue → Bool
mine Day Day = true
mine Day Night = false
mine Night Day = false
mine Night Night = true

abbrev pub cons_if : {A : Type 0} → Bool → A → List A → List A
cons_if true a l = a ∷ l
cons_if false a l = l

-- a queue's own calls
unfoldable pub own : {G O : Type 0} → Queue → List (Sent G O) → List (Call G O)
own q [] = []
own q (c ∷ cs) = cons_if (mine q c.queue) c.call (own q cs)

module _ {G F O S T : Type 0} (trade : Trade G F O S T) where
  -- what a shelf's bytes tell, and the bytes after the call
  abbrev pub answer : List ℕ → Call G O → Answer F T
  answer s (add x g) = done (add_reply trade.width s x.value (trade.check g))
  answer s (look x) = fields (look_reply trade.width s trade.fields_of x)
  answer s (drop x) = done (drop_reply trade.width s x)
  answer s (compose o) = sheet (trade.said o (trade.composed s o))

  abbrev pub after : List ℕ → Call G O → List ℕ
  after s (add x g) = added trade.width s x.value (trade.check g) (trade.stored x.value g)
  after s (look x) = s
  after s (drop x) = dropped trade.width s x
  after s (compose o) = s

  unfoldable pub answers : List ℕ → List (Call G O) → List (Answer F T)
  answers s [] = []
  answers s (c ∷ cs) = answer s c ∷ answers (after s c) cs

  -- the same at the table: 9 first. That the calls promise these is said where they are (`add_told_lem`, `look_told_lem` .., queues).
  abbrev pub table_answer : Queue → List ℕ → Call G O → Answer F T
  table_answer q t (add x g) = done (on_table trade.width t (add_reply trade.width (shelf trade.width q t) x.value (trade.check g)))
  table_answer q t (look x) = fields (on_table trade.width t (look_reply trade.width (shelf trade.width q t) trade.fields_of x))
  table_answer q t (drop x) = done (on_table trade.width t (drop_reply trade.width (shelf trade.width q t) x))
  table_answer q t (compose o) = sheet (trade.said o (on_table trade.width t (trade.composed (shelf trade.width q t) o)))

  abbrev pub table_left : Queue → List ℕ → Call G O → List ℕ
  table_left q t (add x g) = table_after trade.width q t (after (shelf trade.width q t) (add x g))
  table_left q t (look x) = t
  table_left q t (drop x) = table_after trade.width q t (after (shelf trade.width q t) (drop x))
  table_left q t (compose o) = t

  -- the answers that a queue is given while both call
  unfoldable pub answers_to : Queue → List ℕ → List (Sent G O) → List (Answer F T)
  answers_to q t [] = []
  answers_to q t (c ∷ cs) = cons_if (mine q c.queue) (table_answer c.queue t c.call) (answers_to q (table_left c.queue t c.call) cs)

  -- the table after the calls of both
  unfoldable pub table_all : List ℕ → List (Sent G O) → List ℕ
  table_all t [] = t
  table_all t (c ∷ cs) = table_all (table_left c.queue t c.call) cs

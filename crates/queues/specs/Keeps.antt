-- Work. A shelf that holds what a queue holds; and bytes that say what the goods mean.
use Rattle.std.specs.Prelude.{ℕ, ◌≤◌, ◌<◌, List, [], ◌∷◌, ◌≡◌, length, take}
use Rattle.reply.specs.Read.{read}
use Rattle.records.specs.Bytes.{le16}
use Rattle.queues.specs.Calls.{Trade}
use Rattle.queues.specs.Model.{Entry, Meaning}
use Rattle.queues.specs.Storage.{Stores}

module _ {G F O S T : Type 0} (trade : Trade G F O S T) (m : Meaning G F O T) where
  -- what a queue may hold
  pub record Proper (e : Entry G) : Type 0 where
    pub positive : 1 ≤ e.number
    pub small : e.number < 65536
    pub fine : m.fine e.goods ≡ read tt

  abbrev pub AllProper : List (Entry G) → Type 0
  AllProper [] = Unit {0}
  AllProper (e ∷ q) = Proper e × AllProper q

  abbrev pub stored : Entry G → List ℕ
  stored e = trade.stored e.number e.goods

  pub record KeepsQueue (wide : 2 ≤ trade.width) (s : List ℕ) (q : List (Entry G)) : Type 0 where
    pub stores : Stores m.nothing trade.width wide stored s q
    pub proper : AllProper q

  -- what a place says is what stands first in it
  pub record HonestTrade : Type 0 where
    pub wide : 2 ≤ trade.width
    pub check : (g : G) → trade.check g ≡ m.fine g
    pub fits : (x : ℕ) (g : G) → m.fine g ≡ read tt → length (trade.stored x g) ≤ trade.width
    pub two : (x : ℕ) (g : G) → 2 ≤ length (trade.stored x g)
    pub number : (x : ℕ) (g : G) → x < 65536 → le16 (trade.stored x g) 0 ≡ x
    pub fields : (x : ℕ) (g : G) (b : List ℕ) → m.fine g ≡ read tt → take (length (trade.stored x g)) b ≡ trade.stored x g → trade.fields_of b ≡ m.fields_of g
    pub composed : (s : List ℕ) (q : List (Entry G)) → KeepsQueue wide s q → (o : O) → trade.said o (trade.composed s o) ≡ m.composed_of q o

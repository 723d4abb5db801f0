-- Laws. Tests in turn, and what replies of the code say. Assumes nothing.
use Prim.Native.Nat.{ℕ, zero, suc, ◌+◌, ◌<◌}
use mathlib.Core.List.{List}
use mathlib.Core.Path.{◌≡◌, refl, ap}
use native.Mathlib.Decide.{ℕ_discrete}
use native.Mathlib.Omega.{arith}
use native.Mathlib.Numerals.{add-one}
use Rattle.reply.specs.Read.{Read, refused, read, ◌then◌}
use Rattle.reply.specs.Chain.{then-read}
use Rattle.reply.specs.declared.Refusal.{Refusal}
use Rattle.text.specs.Said.{line_at}
use Rattle.text.specs.declared.Line.{Line}
use Rattle.molfile.specs.Molfile.{in_turn}
use Rattle.molfile.specs.Work.{said_line, said_walk, numbers_at, said_numbers}
use Rattle.molfile.specs.declared.Numbers.{Numbers}
use Rattle.std.specs.Prelude.{Ok, Err}

-- what a reply says of the definition
pub line_refused : (d : List ℕ) (at : ℕ) (m : Read (Unit {0})) {r : Refusal} → said_line d at m ≡ Err r → m ≡ refused r
line_refused d at (refused s) e = ap refused (cc)
line_refused d at (read u) e = let z : ◌≡◌ {A = ℕ} 0 1 = cc in absurd (omega arith)

pub line_read : (d : List ℕ) (at : ℕ) (m : Read (Unit {0})) {l : Line} → said_line d at m ≡ Ok l → (m ≡ read tt) × (line_at d at ≡ l)
line_read d at (refused s) e = let z : ◌≡◌ {A = ℕ} 0 1 = cc in absurd (omega arith)
line_read d at (read u) e = (refl, cc)

pub walk_refused : (at : ℕ) (m : Read (Unit {0})) {r : Refusal} → said_walk at m ≡ Err r → m ≡ refused r
walk_refused at (refused s) e = ap refused (cc)
walk_refused at (read u) e = let z : ◌≡◌ {A = ℕ} 0 1 = cc in absurd (omega arith)

pub walk-read : (at : ℕ) (m : Read (Unit {0})) {p : ℕ} → said_walk at m ≡ Ok p → (m ≡ read tt) × (at ≡ p)
walk-read at (refused s) e = let z : ◌≡◌ {A = ℕ} 0 1 = cc in absurd (omega arith)
walk-read at (read u) e = (refl, cc)

pub numbers-refused : (d : List ℕ) (at : ℕ) (m : Read (Unit {0})) {r : Refusal} → said_numbers d at m ≡ Err r → m ≡ refused r
numbers-refused d at (refused s) e = ap refused (cc)
numbers-refused d at (read u) e = let z : ◌≡◌ {A = ℕ} 0 1 = cc in absurd (omega arith)

pub numbers-read : (d : List ℕ) (at : ℕ) (m : Read (Unit {0})) {x : Numbers} → said_numbers d at m ≡ Ok x → (m ≡ read tt) × (numbers_at d at ≡ x)
numbers-read d at (refused s) e = let z : ◌≡◌ {A = ℕ} 0 1 = cc in absurd (omega arith)
numbers-read d at (read u) e = (refl, cc)

-- tests in turn
module _ (f : ℕ → Read (Unit {0})) where
  pub turn_none : in_turn 0 f ≡ read tt
  unfolding in_turn
  turn_none = refl

  pub turn_more : (k : ℕ) → in_turn k f ≡ read tt → f k ≡ read tt → in_turn (k + 1) f ≡ read tt
  unfolding in_turn
  turn_more k e g = rw (add-one k, e, g)

  pub turn_stops : (n k : ℕ) (r : Refusal) → k < n → in_turn k f ≡ read tt → f k ≡ refused r → in_turn n f ≡ refused r
  unfolding in_turn
  turn_stops zero k r h e g = absurd (omega arith)
  turn_stops (suc n) k r h e g = go (ℕ_discrete k n) (turn_stops n k r)
    where
      go : Dec (k ≡ n) → (k < n → in_turn k f ≡ read tt → f k ≡ refused r → in_turn n f ≡ refused r) → (in_turn n f then λ _. f n) ≡ refused r
      go (yes p) ih = rw (← p, e, g)
      go (no p) ih = rw (ih (omega arith) e g)

  pub turn_at : (n k : ℕ) → in_turn n f ≡ read tt → k < n → f k ≡ read tt
  unfolding in_turn
  turn_at zero k e h = absurd (omega arith)
  turn_at (suc n) k e h = let (u, a, b) = then-read (in_turn n f) (λ _. f n) e in go (ℕ_discrete k n) (turn_at n k a) b
    where
      go : Dec (k ≡ n) → (k < n → f k ≡ read tt) → f n ≡ read tt → f k ≡ read tt
      go (yes p) ih b = rw p b
      go (no p) ih b = ih (omega arith)

  -- a walk of k lines, where k is the count of the definition
  module _ (place : ℕ → ℕ) (k n : ℕ) (e : k ≡ n) where
    pub walked : {p : ℕ} → said_walk (place k) (in_turn k f) ≡ Ok p → (in_turn n f ≡ read tt) × (place n ≡ p)
    walked w = rw (← e) (walk-read (place k) (in_turn k f) w)

    pub stopped : {r : Refusal} → said_walk (place k) (in_turn k f) ≡ Err r → in_turn n f ≡ refused r
    stopped w = rw (← e) (walk_refused (place k) (in_turn k f) w)

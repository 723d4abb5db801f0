-- Definitions. What the C function for a ranking answers: what `ranking::best` says, with how many are held in a lent number.
use Rattle.std.specs.Prelude.{ℕ, Bool, true, false, cond, List, [], ◌∷◌, ◌≡◌, eqb, length, get_or}
use Rattle.reply.specs.Read.{Read, refused, read}
use Rattle.placing.specs.Ranked.{Entry}
use Rattle.ranking.specs.Best.{best_reply, best_out}
use Rattle.calls.specs.Convention.{coded, over}

-- any number but 0 wants the greatest
abbrev pub wants_greatest : ℕ → Bool
wants_greatest greatest = cond (eqb greatest 0) false true

-- where no number is lent for how many are held, no entry is
abbrev pub lent_for : List ℕ → List ℕ → List ℕ
lent_for [] best = []
lent_for (h ∷ hs) best = best

abbrev pub best_for : List ℕ → ℕ → ℕ → ℕ → List ℕ → List ℕ → Read (List Entry)
best_for d field greatest tag best held = best_reply d field (wants_greatest greatest) tag (lent_for held best) (get_or held 0 0)

-- how many are held, afterwards
abbrev pub held_out : Read (List Entry) → List ℕ → List ℕ
held_out (refused r) held = held
held_out (read l) held = over (length l ∷ []) held

-- the reply, the entries and the number after the call: a refusal changes nothing
pub record Ranks (answer : Read (List Entry)) (best held : List ℕ) (reply : ℕ) (best' held' : List ℕ) : Type 0 where
  pub replied : reply ≡ coded answer
  pub entries : best' ≡ best_out best answer
  pub many : held' ≡ held_out answer held

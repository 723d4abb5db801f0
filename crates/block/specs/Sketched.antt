-- Work. The bonds drawn and only then tested, all together: what is known of the neighbours and of the atoms that were reached on the way.
use Rattle.std.specs.Prelude.{ℕ, ◌≤◌, Bool, true, false, List, ◌⊎◌, ◌≡◌}
use Rattle.std.specs.Int.Count.{ones}
use Rattle.graph.specs.Graph.{Walk, Within, sum}
use Rattle.graph.specs.Sets.{has}
use Rattle.reply.specs.Read.{Read, refused, read, refusal}
use Rattle.block.specs.Block.{limit, graph_of, drawn_reply}
use Rattle.block.specs.Near.{around, ShowsGraph}
use Rattle.reply.specs.declared.Refusal.{Refusal}

-- an atom of the new set is one of the old, or an end beside one that was
pub record Joined (old ends new : ℕ) : Type 0 where
  pub from : (v : ℕ) → has new v ≡ true → (has old v ≡ true) ⊎ ((w : ℕ) × (1 ≤ w) × (has old w ≡ true) × (has ends w ≡ true) × (has ends v ≡ true))

-- where it is fine, the neighbours are those of the bonds, and a walk leads from atom 1 to each that is reached; where not, 1 to 6 refuse
pub record Sketched (n : ℕ) (xs : List ℕ) (fine : Bool) (reached : ℕ) (near : List ℕ) : Type 0 where
  pub shown : fine ≡ true → ShowsGraph (graph_of n xs) near
  pub walked : fine ≡ true → (v : ℕ) → Within n v → has reached v ≡ true → (k : ℕ) × Walk (graph_of n xs) 1 v k
  pub refuses : fine ≡ false → drawn_reply n xs ≡ read tt → ⊥

-- the sets have so many atoms together as there are ends of bonds, and none more than the limit
pub record Few (n ends : ℕ) (near : List ℕ) : Type 0 where
  pub all : sum n (λ v. ones (around near v)) ≡ ends
  pub each : (v : ℕ) → Within n v → ones (around near v) ≤ limit

pub record Sized (n ends : ℕ) (near : List ℕ) (fine : Bool) : Type 0 where
  pub few : fine ≡ true → Few n ends near
  pub many : fine ≡ false → Few n ends near → ⊥

-- the refusal of a block that is refused, by what 1 to 6 say
abbrev pub or_seven : Read (Unit {0}) → Refusal
or_seven (refused r) = r
or_seven (read u) = refusal 7 0

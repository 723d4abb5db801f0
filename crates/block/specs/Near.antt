-- Work. The neighbours of each atom as a set in one number, and what they say of a graph.
use Rattle.std.specs.Prelude.{ℕ, ◌-◌, ◌^◌, ◌≤◌, ◌<◌, Bool, true, false, List, ◌≡◌, length, get_or, set}
use Rattle.std.specs.Int.Bits.{bit_or}
use Rattle.graph.specs.Graph.{Graph, Within, bonded}
use Rattle.graph.specs.Sets.{has, alone}
use Rattle.reply.specs.Read.{read}
use Rattle.block.specs.Block.{most_atoms, graph_of, block_reply}

-- the neighbours of atom u
abbrev pub around : List ℕ → ℕ → ℕ
around near u = get_or near (u - 1) 0

-- w joins the neighbours of u
abbrev pub putting : List ℕ → ℕ → ℕ → List ℕ
putting near u w = set near (u - 1) (bit_or (around near u) (alone w))

-- the neighbours are those of a relation of the atoms 1 to n
pub record Draws (n : ℕ) (R : ℕ → ℕ → Bool) (near : List ℕ) : Type 0 where
  pub small : n ≤ most_atoms
  pub size : length near ≡ most_atoms
  pub ends : (u w : ℕ) → R u w ≡ true → Within n u × Within n w
  pub drawn : (u w : ℕ) → Within n u → Within n w → has (around near u) w ≡ R u w
  pub fits : (p : ℕ) → get_or near p 0 < 2 ^ n
  pub behind : (p : ℕ) → n ≤ p → get_or near p 0 ≡ 0

-- the neighbours are those of a graph
abbrev pub ShowsGraph : Graph → List ℕ → Type 0
ShowsGraph g near = Draws g.atoms (bonded g) near

-- the neighbours are those of a block that is fine
pub record ReadyBlock (n : ℕ) (xs : List ℕ) (near : List ℕ) : Type 0 where
  pub fine : block_reply n xs ≡ read tt
  pub shown : ShowsGraph (graph_of n xs) near

-- whether a block is fine; then the neighbours are its own
pub record Admitted (n : ℕ) (xs : List ℕ) (fine : Bool) (near : List ℕ) : Type 0 where
  pub ready : fine ≡ true → ReadyBlock n xs near
  pub refuses : fine ≡ false → block_reply n xs ≡ read tt → ⊥

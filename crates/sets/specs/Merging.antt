-- Work. The weights of atoms and how one is merged into another, the keys that tell which atom has one bond left, and what the functions of the recursion need and give.
use Rattle.std.specs.Prelude.{ℕ, suc, ◌+◌, ◌*◌, ◌/◌, ◌^◌, ◌≤◌, ◌<◌, Bool, true, false, cond, List, ◌≡◌, eqb, length, get_or, set}
use Rattle.graph.specs.Graph.{Bond, Within, sum_bonds}
use Rattle.reply.specs.Read.{read}
use Rattle.block.specs.Block.{most_atoms, bonds_of, block_reply}
use Rattle.block.specs.Numbered.{bond_at}
use Rattle.sets.specs.declared.Weight.{Weight}

abbrev pub weight : ℕ → ℕ → Weight
weight x y = record { x = x; y = y }

-- the weight of an atom once a neighbour with weight q is merged into it: the step of [Ilić, Ilić] for one child. The kind is true for sets of bonds, false for sets of atoms.
abbrev pub taken : Bool → Weight → Weight → Weight
taken true p q = weight (p.x * q.x + p.y * q.y) (p.y * q.x)
taken false p q = weight (p.x * q.x + p.x * q.y) (p.y * q.x)

-- what is left at an atom that was merged
abbrev pub nothing : Weight
nothing = weight 1 0

-- no weight is 0, and its second part is no more than its first
abbrev pub Good : Weight → Type 0
Good p = (1 ≤ p.x) × (p.y ≤ p.x)

-- two weights that can be merged
pub record WeightPair (κ : Bool) (p q : Weight) : Type 0 where
  pub into : Good p
  pub from : Good q
  pub fits : (taken κ p q).x < 2 ^ 64

-- one entry for each atom, at its number
abbrev pub places : ℕ
places = suc most_atoms

-- the weight that two lists hold for atom v
abbrev pub held : List ℕ → List ℕ → ℕ → Weight
held xs ys v = weight (get_or xs v 0) (get_or ys v 0)

-- two atoms that can be merged
pub record Store (κ : Bool) (xs ys : List ℕ) (u v : ℕ) : Type 0 where
  pub first : length xs ≡ places
  pub second : length ys ≡ places
  pub child : Within most_atoms u
  pub parent : Within most_atoms v
  pub differ : u ≡ v → ⊥
  pub pair : WeightPair κ (held xs ys v) (held xs ys u)

-- u is merged into v
pub record Stored (κ : Bool) (xs ys : List ℕ) (u v : ℕ) (xs' ys' : List ℕ) : Type 0 where
  pub first : length xs' ≡ places
  pub second : length ys' ≡ places
  pub child : held xs' ys' u ≡ nothing
  pub parent : held xs' ys' v ≡ taken κ (held xs ys v) (held xs ys u)
  pub others : (t : ℕ) → (t ≡ u → ⊥) → (t ≡ v → ⊥) → held xs' ys' t ≡ held xs ys t

-- what a bond adds to the key of atom v: at each end the unit and the number of the other end
abbrev pub unit : ℕ
unit = 256

unfoldable pub mark : ℕ → Bond → ℕ
mark v b = cond (eqb b.one v) (unit + b.two) 0 + cond (eqb b.two v) (unit + b.one) 0

abbrev pub tally : List Bond → ℕ → ℕ
tally bs v = sum_bonds bs (mark v)

-- the key of v, from that root
abbrev pub key : ℕ → List Bond → ℕ → ℕ
key root bs v = cond (eqb root v) (2 * unit) 0 + tally bs v

-- bonds between atoms that have an entry, no more of them than atoms
pub record BondsListed (xs : List ℕ) (root : ℕ) : Type 0 where
  pub few : length xs ≤ 2 * most_atoms
  pub start : Within most_atoms root
  pub ends : (k : ℕ) → k < length xs / 2 → Within most_atoms (bond_at xs k).one × Within most_atoms (bond_at xs k).two

-- a bond to b is added to the key of a, for which there is room
abbrev pub added : List ℕ → ℕ → ℕ → List ℕ
added keys a b = set keys a (get_or keys a 0 + (unit + b))

pub record Adds (keys : List ℕ) (a b : ℕ) : Type 0 where
  pub there : a < length keys
  pub other : b ≤ most_atoms
  pub room : get_or keys a 0 ≤ 2 * unit + (2 * most_atoms + 1) * (unit + most_atoms)

pub record Keyed (xs : List ℕ) (root : ℕ) (keys : List ℕ) : Type 0 where
  pub size : length keys ≡ places
  pub is : (v : ℕ) → Within most_atoms v → get_or keys v 0 ≡ key root (bonds_of xs) v

-- a block that is a tree, and an atom of it
pub record Rooted (n : ℕ) (xs : List ℕ) (root : ℕ) : Type 0 where
  pub fine : block_reply n xs ≡ read tt
  pub few : length xs / 2 + 1 ≡ n
  pub start : Within n root

-- The bonds of a block by their numbers. Assumes nothing.
use Prim.Native.Nat.{ℕ, zero, suc, ◌/◌, ◌<◌}
use mathlib.Core.Bool.{true}
use mathlib.Core.List.{List, [], ◌∷◌}
use mathlib.Core.Logic.{inl}
use mathlib.Core.Path.{◌≡◌, refl, subst}
use native.Mathlib.Omega.{arith}
use lib.ListN.{length, get_or}
use Rattle.graph.specs.Graph.{Bond, bond, any_joins}
use Rattle.graph.specs.Bonds.{any_head, any_tail}
use Rattle.graph.specs.Notions.{BondInside, Plain}
use Rattle.block.specs.Block.{bonds_of}
use Rattle.block.specs.Numbered.{bond_at, bonds_length, bonds_at}

-- no bond
abbrev none : Bond
none = bond 0 0

plain_at : (n : ℕ) (bs : List Bond) → Plain n bs → (k : ℕ) → k < length bs → BondInside n (get_or bs k none) × (any_joins bs (get_or bs k none).one (get_or bs k none).two ≡ true)
unfolding Plain
plain_at n [] p k l = absurd (omega arith)
plain_at n (b ∷ bs) p zero l = (p.0, any_head b bs b.one b.two (inl (refl, refl)))
plain_at n (b ∷ bs) p (suc k) l = let r = plain_at n bs p.2 k (omega arith) in (r.0, any_tail b bs (get_or bs k none).one (get_or bs k none).two r.1)

pub listed : (n : ℕ) (xs : List ℕ) → Plain n (bonds_of xs) → (k : ℕ) → k < length xs / 2
    → BondInside n (bond_at xs k) × (any_joins (bonds_of xs) (bond_at xs k).one (bond_at xs k).two ≡ true)
listed n xs p k l =
    let m : k < length (bonds_of xs) = omega (arith, bonds_length xs) in
    subst (λ (b : Bond). BondInside n b × (any_joins (bonds_of xs) b.one b.two ≡ true)) (bonds_at xs k l) (plain_at n (bonds_of xs) p k m)

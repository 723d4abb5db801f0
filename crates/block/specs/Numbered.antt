-- Work. The bonds that bytes say, by their numbers from 0 and from a byte on; and what those of a block that is not refused are. Assumes nothing.
use Rattle.std.specs.Prelude.{ℕ, zero, suc, ◌+◌, ◌*◌, ◌/◌, ◌%◌, ◌≤◌, ◌<◌, true, not, List, [], ◌∷◌, map, ◌≡◌, refl, eqb, ltb, length, get_or, drop}
use Rattle.std.proofs.Common.{inl, ◌∙◌, ap, ap₂, subst, add-one, arith, ltb-false, eqb-true, length-drop, drop-cons}
use Rattle.std.proofs.Math.Numerals.{add-two}
use Rattle.std.proofs.lemmas.Bool.{not-false}
use Rattle.graph.specs.Graph.{Bond, bond, Within, any_joins, bonded, sum_bonds}
use Rattle.graph.specs.Bonds.{any_head, any_tail}
use Rattle.graph.specs.Ends.{plain_apart}
use Rattle.graph.specs.Walk.{far_end}
use Rattle.graph.specs.Tree.{enough_bonds}
use Rattle.reply.specs.Read.{read}
use Rattle.reply.specs.Chain.{neither}
use Rattle.block.specs.Block.{most_bytes, bonds_of, graph_of, drawn_reply, block_reply}
use Rattle.block.specs.Told.{tested, drawn_sound, drawn_plain, fine_drawn, molecule}

-- bond k of the bytes, and the bonds from k on
abbrev pub bond_at : List ℕ → ℕ → Bond
bond_at xs k = bond (get_or xs (2 * k) 0) (get_or xs (2 * k + 1) 0)

abbrev pub rest : List ℕ → ℕ → List Bond
rest xs k = bonds_of (drop (2 * k) xs)

-- two bytes a bond
pub bonds_length : (xs : List ℕ) → length (bonds_of xs) ≡ length xs / 2
unfolding bonds_of
bonds_length [] = refl
bonds_length (a ∷ []) = refl
bonds_length (a ∷ (b ∷ xs)) = omega (arith, bonds_length xs)

pub bonds_short : (xs : List ℕ) → length xs < 2 → bonds_of xs ≡ []
unfolding bonds_of
bonds_short [] h = refl
bonds_short (a ∷ []) h = refl
bonds_short (a ∷ (b ∷ xs)) h = absurd (omega arith)

-- from byte i on: the next bond and the others, or none
pub bonds_next : (xs : List ℕ) (i : ℕ) → i + 2 ≤ length xs → bonds_of (drop i xs) ≡ bond (get_or xs i 0) (get_or xs (i + 1) 0) ∷ bonds_of (drop (i + 2) xs)
unfolding bonds_of
bonds_next xs i h =
    let e : i < length xs = omega arith in
    let k : suc i < length xs = omega arith in
    rw (drop-cons xs i 0 e, drop-cons xs (suc i) 0 k, add-one, add-two)

pub bonds_over : (xs : List ℕ) (i : ℕ) → length xs < i + 2 → bonds_of (drop i xs) ≡ []
bonds_over xs i h = bonds_short (drop i xs) (omega (arith, length-drop i xs))

-- and from bond k on
pub rest_cons : (xs : List ℕ) (k : ℕ) → 2 * k + 1 < length xs → rest xs k ≡ bond_at xs k ∷ rest xs (suc k)
rest_cons xs k l =
    let e : 2 * k + 2 ≡ 2 * suc k = omega arith in
    bonds_next xs (2 * k) (omega arith) ∙ ap (λ (i : ℕ). bond_at xs k ∷ bonds_of (drop i xs)) e

pub rest_none : (xs : List ℕ) (k : ℕ) → length xs < 2 * k + 2 → rest xs k ≡ []
rest_none xs k = bonds_over xs (2 * k)

-- what f gives for the bonds from k on
pub rest_sum : (f : Bond → ℕ) (xs : List ℕ) (k : ℕ) → k < length xs / 2 → sum_bonds (rest xs k) f ≡ f (bond_at xs k) + sum_bonds (rest xs (suc k)) f
unfolding sum_bonds
rest_sum f xs k l = rw (rest_cons xs k (omega arith))

pub rest_over : (f : Bond → ℕ) (xs : List ℕ) (k : ℕ) → length xs / 2 ≤ k → sum_bonds (rest xs k) f ≡ 0
unfolding sum_bonds
rest_over f xs k l = rw (rest_none xs k (omega arith))

next_bond : (a b : ℕ) (xs : List ℕ) (k : ℕ) → bond_at xs k ≡ bond_at (a ∷ (b ∷ xs)) (suc k)
next_bond a b xs k =
    let e : suc (suc (2 * k)) ≡ 2 * suc k = omega arith in
    let f : suc (suc (2 * k + 1)) ≡ 2 * suc k + 1 = omega arith in
    ap₂ (λ (p q : ℕ). bond (get_or (a ∷ (b ∷ xs)) p 0) (get_or (a ∷ (b ∷ xs)) q 0)) e f

-- bond k is bond k of the list, and what is made of it stands at k
pub bonds_at : (xs : List ℕ) (k : ℕ) → k < length xs / 2 → get_or (bonds_of xs) k (bond 0 0) ≡ bond_at xs k
unfolding bonds_of
bonds_at [] k l = absurd (omega arith)
bonds_at (a ∷ []) k l = absurd (omega arith)
bonds_at (a ∷ (b ∷ xs)) zero l = refl
bonds_at (a ∷ (b ∷ xs)) (suc k) l = bonds_at xs k (omega arith) ∙ next_bond a b xs k

pub mapped_at : (f : Bond → ℕ) (xs : List ℕ) (k : ℕ) → k < length xs / 2 → get_or (map f (bonds_of xs)) k 0 ≡ f (bond_at xs k)
unfolding bonds_of
mapped_at f [] k l = absurd (omega arith)
mapped_at f (a ∷ []) k l = absurd (omega arith)
mapped_at f (a ∷ (b ∷ xs)) zero l = refl
mapped_at f (a ∷ (b ∷ xs)) (suc k) l = mapped_at f xs k (omega arith) ∙ ap f (next_bond a b xs k)

pub bond_listed : (xs : List ℕ) (k : ℕ) → k < length xs / 2 → any_joins (bonds_of xs) (bond_at xs k).one (bond_at xs k).two ≡ true
unfolding bonds_of
bond_listed [] k l = absurd (omega arith)
bond_listed (a ∷ []) k l = absurd (omega arith)
bond_listed (a ∷ (b ∷ xs)) zero l = any_head (bond a b) (bonds_of xs) a b (inl (refl, refl))
bond_listed (a ∷ (b ∷ xs)) (suc k) l =
    subst (λ (c : Bond). any_joins (bond a b ∷ bonds_of xs) c.one c.two ≡ true) (next_bond a b xs k)
    (any_tail (bond a b) (bonds_of xs) (bond_at xs k).one (bond_at xs k).two (bond_listed xs k (omega arith)))

-- the bonds of a block, connected or not
module _ (n : ℕ) (xs : List ℕ) (drawn : drawn_reply n xs ≡ read tt) where
  pub drawn_within : (k : ℕ) → k < length xs / 2 → Within n (bond_at xs k).one × Within n (bond_at xs k).two
  unfolding bonded
  drawn_within k l =
      let j = bond_listed xs k l in
      let s = drawn_sound n xs drawn in
      (s.ends (bond_at xs k).one (bond_at xs k).two j, far_end s (bond_at xs k).one (bond_at xs k).two j)

  pub drawn_bytes : (length xs ≤ most_bytes) × (2 * length (bonds_of xs) ≡ length xs)
  drawn_bytes =
      let (even, few) = neither (not (eqb (length xs % 2) 0)) (ltb most_bytes (length xs)) (tested n xs drawn).bytes in
      (ltb-false most_bytes (length xs) few, omega (arith, bonds_length xs, eqb-true (length xs % 2) 0 (not-false (eqb (length xs % 2) 0) even)))

  -- none joins an atom to itself
  pub ends_apart : (u v : ℕ) → bonded (graph_of n xs) u v ≡ true → u ≡ v → ⊥
  unfolding bonded
  ends_apart = plain_apart n (bonds_of xs) (drawn_plain n xs drawn)

-- the bonds of a block that is not refused
module _ (n : ℕ) (xs : List ℕ) (fine : block_reply n xs ≡ read tt) where
  pub few_bytes : length xs ≤ most_bytes
  few_bytes = (drawn_bytes n xs (fine_drawn n xs fine)).0

  pub least_bonds : n ≤ length xs / 2 + 1
  least_bonds = omega (arith, enough_bonds (molecule n xs fine), bonds_length xs)

  pub bond_within : (k : ℕ) → k < length xs / 2 → Within n (bond_at xs k).one × Within n (bond_at xs k).two
  bond_within = drawn_within n xs (fine_drawn n xs fine)

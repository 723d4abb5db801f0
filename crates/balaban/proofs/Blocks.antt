-- Laws. What a block that is not refused brings to the work. Assumes nothing.
use Prim.Native.Nat.{ℕ, suc, ◌+◌, ◌-◌, ◌*◌, ◌/◌, ◌≤◌, ◌<◌}
use mathlib.Core.Bool.{cond}
use mathlib.Core.List.{List}
use mathlib.Core.Path.{◌≡◌, ap, ap₂, ◌∙◌}
use native.Mathlib.Nat.{mul-le-mul}
use native.Mathlib.Numerals.{add-one}
use native.Mathlib.Omega.{arith}
use borrow.Author.Tests.{lt-ltb}
use lib.Dec.{ltb}
use lib.ListN.{length, get_or}
use Rattle.graph.specs.Graph.{Graph, Within, sum_bonds, vertex_sum}
use Rattle.graph.specs.Bounds.{tame_itself, vertex_most}
use Rattle.reply.specs.Read.{read}
use Rattle.block.specs.Block.{most_atoms, most_bytes, bonds_of, graph_of, block_reply}
use Rattle.block.specs.Sums.{entry}
use Rattle.block.specs.Tables.{get_or-table}
use Rattle.block.specs.Told.{few_atoms, molecule}
use Rattle.block.specs.Numbered.{bond_at, rest, bonds_length, rest_sum, rest_over, few_bytes, least_bonds, bond_within}
use Rattle.reach.specs.Sums.{vertex_sums_of}
use Rattle.balaban.specs.Balaban.{bound, largest_root, term, reckoned}
use Rattle.balaban.specs.Work.{unit, most_sum, RootsTask}

module _ (n : ℕ) (xs : List ℕ) (fine : block_reply n xs ≡ read tt) where
  abbrev g : Graph
  g = graph_of n xs

  pub few : n ≤ most_atoms
  few = (few_atoms n xs fine).high

  -- the sums are the vertex sums
  pub task : (sums : List ℕ) → sums ≡ vertex_sums_of g → RootsTask n xs sums
  unfolding vertex_sums_of
  task sums e = record { fine = fine; is = here; low = λ v w. omega (arith, here v w, vertex_most (molecule n xs fine) tame_itself w, mul-le-mul few few) }
    where
      here : (v : ℕ) → Within n v → entry sums v ≡ vertex_sum g v
      here v w =
          let k : suc (v - 1) ≡ v = omega arith in
          ap (λ (l : List ℕ). entry l v) e
          ∙ get_or-table most_atoms (λ i. cond (ltb i n) (vertex_sum g (suc i)) 0) (v - 1) 0 (omega (arith, few))
          ∙ rw (lt-ltb (v - 1) n (omega arith), k)

-- the first k bonds are added up
pub record Adding (n : ℕ) (xs : List ℕ) (total k : ℕ) : Type 0 where
  pub done : k ≤ length xs / 2
  pub left : total + sum_bonds (rest xs k) (term 1 (graph_of n xs)) ≡ sum_bonds (bonds_of xs) (term 1 (graph_of n xs))
  pub low : total ≤ unit * k

module _ {n : ℕ} {xs sums : List ℕ} (T : RootsTask n xs sums) where
  pub adding_none : Adding n xs 0 0
  adding_none = record { done = omega arith; left = omega arith; low = omega arith }

  module _ (k : ℕ) (l : k < length xs / 2) where
    -- the ends of a bond are atoms whose sums stand in the list
    pub ends : let u = get_or xs (2 * k) 0 in let v = get_or xs (2 * k + 1) 0 in
        Within most_atoms u × (entry sums u ≤ most_sum) × Within most_atoms v × (entry sums v ≤ most_sum)
    ends =
        let (p, q) = bond_within n xs T.fine k l in
        let h = few n xs T.fine in
        (omega arith, T.low (get_or xs (2 * k) 0) p, omega arith, T.low (get_or xs (2 * k + 1) 0) q)

    pub adding_next : {total : ℕ} (t : ℕ) → Adding n xs total k → t ≡ largest_root (bound 1) (entry sums (get_or xs (2 * k) 0) * entry sums (get_or xs (2 * k + 1) 0)) → t ≤ unit
        → Adding n xs (total + t) (k + 1)
    unfolding term
    adding_next {total} t A e h =
        let (p, q) = bond_within n xs T.fine k l in
        let is : t ≡ term 1 (graph_of n xs) (bond_at xs k) =
        e ∙ ap₂ (λ (x y : ℕ). largest_root (bound 1) (x * y)) (T.is (get_or xs (2 * k) 0) p) (T.is (get_or xs (2 * k + 1) 0) q) in
        record {
          done = omega arith;
          left = rw (add-one k) (omega (arith, A.left, rest_sum (term 1 (graph_of n xs)) xs k l));
          low = omega (arith, A.low);
        }

  module _ {total k : ℕ} (A : Adding n xs total k) (e : k ≡ length xs / 2) where
    -- the product fits, and the divisor is not 0
    pub fits : (length xs / 2 ≤ most_bytes) × (total ≤ unit * most_bytes) × (n ≤ length xs / 2 + 1)
    fits = let b = few_bytes n xs T.fine in (omega arith, omega (arith, A.low), least_bonds n xs T.fine)

    pub reckoned_is : (r : ℕ) → r ≡ length xs / 2 * total / (length xs / 2 + 2 - n) → r ≡ reckoned 1 (graph_of n xs)
    unfolding reckoned
    reckoned_is r q =
        let all : total ≡ sum_bonds (bonds_of xs) (term 1 (graph_of n xs)) = omega (arith, A.left, rest_over (term 1 (graph_of n xs)) xs k (omega arith)) in
        rw (q, all, ← bonds_length xs)

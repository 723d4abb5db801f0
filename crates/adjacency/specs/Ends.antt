-- Laws. A bond's end is kept as one byte: of a block that can be, this changes no fault of the bond. Assumes nothing.
use Rattle.std.specs.Prelude.{ℕ, ◌≤◌, ◌<◌, true, List, ◌≡◌, eqb}
use Rattle.std.proofs.Math.Bool.{or-true}
use Rattle.std.proofs.Common.{sym, ◌∙◌, ap₂, arith, lt-ltb}
use Rattle.std.proofs.Math.Decide.{dec_le}
use Rattle.graph.specs.Graph.{Bond, bond}
use Rattle.reply.specs.Read.{is_outside}
use Rattle.block.specs.Block.{most_atoms, bond_fault}
use Rattle.adjacency.specs.Neighbours.{end}

kept : (x : ℕ) → x ≤ 255 → end x ≡ x
kept x l = omega arith

outside : (n x : ℕ) → n < x → is_outside n x ≡ true
outside n x l = rw (lt-ltb n x l) (or-true (eqb x 0))

-- a bond that names an atom above all is 3, whatever its other end
first_out : (n : ℕ) (before : List Bond) (a b : ℕ) → n < a → bond_fault n before (bond a b) ≡ 3
unfolding bond_fault
first_out n before a b l = rw (outside n a l)

second_out : (n : ℕ) (before : List Bond) (a b : ℕ) → n < b → bond_fault n before (bond a b) ≡ 3
unfolding bond_fault
second_out n before a b l = rw (outside n b l, or-true (is_outside n a))

pub end_same : (n : ℕ) (before : List Bond) (a b : ℕ) → n ≤ most_atoms → bond_fault n before (bond (end a) (end b)) ≡ bond_fault n before (bond a b)
end_same n before a b h = elim (dec_le a 255) [
  | yes l ↦ elim (dec_le b 255) [
    | yes k ↦ ap₂ (λ (x y : ℕ). bond_fault n before (bond x y)) (kept a l) (kept b k)
    | no k ↦ second_out n before (end a) (end b) (omega arith) ∙ sym (second_out n before a b (omega arith))
  ]
  | no l ↦ first_out n before (end a) (end b) (omega arith) ∙ sym (first_out n before a b (omega arith))
]

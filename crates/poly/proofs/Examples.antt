-- Worked examples, computed from the definitions.
use Prim.Native.Nat.{ℕ}
use mathlib.Core.Path.{◌≡◌, refl}
use mathlib.Core.Bool.{true, false}
use mathlib.Core.List.{List, [], ◌∷◌}
use lib.IntN.{pos, negsuc}
use lib.Ieee.{Float, nan, fin}
use Rattle.graph.specs.Graph.{joins, any_joins, bonded, any_atom, reaches, first_from, distance, all_atoms, connected, degree, sum, sum_pairs, is_at, total}
use Rattle.reply.specs.Read.{Read, refused, read, refusal}
use Rattle.block.specs.Block.{bonds_of, bond_fault, bonds_reply, block_reply}
use Rattle.poly.specs.Poly.{half, unusable, of_parity, horner, value, polynomial_values, polynomial_at, polynomial_reply, zero_f, one_f}
use Rattle.poly.specs.declared.Values.{Values}

-- all that is to be worked out
told : ℕ → List ℕ → Float → Read Values
unfolding joins any_joins bonded any_atom reaches first_from distance all_atoms connected degree sum sum_pairs is_at total bonds_of bond_fault bonds_reply block_reply unusable of_parity horner value polynomial_values polynomial_at polynomial_reply lib.Ieee.add lib.Ieee.mul lib.Ieee.of_int lib.Ieee.eq lib.Ieee.lt lib.Ieee.is_nan
told n xs x = polynomial_reply n xs x

-- document 001's naphthalene, its bonds in the order of table 2
naphthalene : List ℕ
naphthalene = 1 ∷ 10 ∷ 1 ∷ 2 ∷ 2 ∷ 3 ∷ 3 ∷ 8 ∷ 3 ∷ 4 ∷ 4 ∷ 5 ∷ 5 ∷ 6 ∷ 6 ∷ 7 ∷ 7 ∷ 8 ∷ 8 ∷ 9 ∷ 9 ∷ 10 ∷ []

at_half : told 10 naphthalene half ≡ read (record { even = fin false 31 (negsuc 2); odd = fin false 113 (negsuc 3) })
unfolding told naphthalene
at_half = refl

-- x = 1 counts the pairs
at_one : told 10 naphthalene one_f ≡ read (record { even = fin false 5 (pos 2); odd = fin false 25 (pos 0) })
unfolding told naphthalene
at_one = refl

-- 0, -0, a negative number, a number above 1 and a NaN are refused, but the block's refusals come first
Refuses : Float → Type 0
Refuses x = told 10 naphthalene x ≡ refused (refusal 10 0)

at_zero : Refuses zero_f
unfolding told naphthalene Refuses
at_zero = refl

at_minus_zero : Refuses (fin true 0 (pos 0))
unfolding told naphthalene Refuses
at_minus_zero = refl

below_zero : Refuses (fin true 1 (negsuc 0))
unfolding told naphthalene Refuses
below_zero = refl

above_one : Refuses (fin false 3 (negsuc 0))
unfolding told naphthalene Refuses
above_one = refl

at_nan : Refuses nan
unfolding told naphthalene Refuses
at_nan = refl

block_first : told 2 [] nan ≡ refused (refusal 7 0)
unfolding told
block_first = refl

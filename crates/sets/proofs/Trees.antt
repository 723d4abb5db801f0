-- Laws. A block with one bond fewer than atoms is a tree, seen from whichever atom, and its two numbers fit 64 bits. Assumes nothing.
use Prim.Native.Nat.{ℕ, zero, suc, ◌+◌, ◌^◌, ◌≤◌, ◌<◌}
use mathlib.Core.Bool.{Bool, true, false}
use mathlib.Core.List.{List, [], ◌∷◌}
use mathlib.Core.Logic.{inl, ⊎_elim}
use mathlib.Core.Path.{◌≡◌, refl, sym, ap, ◌∙◌}
use native.Mathlib.Nat.{le-suc_iff}
use native.Mathlib.Omega.{arith}
use lib.Dec.{eqb, lit≤}
use lib.ListN.{length}
use lib.Pow.{pow_mono}
use borrow.Author.Tests.{eq-eqb}
use Rattle.graph.specs.Graph.{Graph, Bond, Within, Molecule, bonded, distance}
use Rattle.graph.specs.Bonds.{first_of, second_of, any_head}
use Rattle.graph.specs.Walk.{far_end}
use Rattle.graph.specs.Distance.{distance_self}
use Rattle.graph.specs.Tree.{one_bond_nearer, no_tie}
use Rattle.block.specs.Block.{most_atoms, bonds_of, graph_of}
use Rattle.block.specs.Told.{few_atoms, molecule, each_bond}
use Rattle.block.specs.Numbered.{bonds_length, bond_within}
use Rattle.sets.specs.Sets.{some, apart, share_atom, sets_apart, atoms_down, hosoya, merrifield_simmons}
use Rattle.sets.specs.Merging.{weight, BondsListed, Rooted}
use Rattle.sets.specs.declared.Weight.{Weight}
use Rattle.sets.proofs.Counts.{Proper, count_most, count_less}
use Rattle.sets.proofs.Weigh.{weigh, weigh_cong}
use Rattle.sets.proofs.OfBonds.{of_bonds}
use Rattle.sets.proofs.OfAtoms.{of_atoms, member, found}
use Rattle.sets.proofs.Peel.{Peeling}

length_atoms : (n : ℕ) → length (atoms_down n) ≡ n
unfolding atoms_down
length_atoms zero = refl
length_atoms (suc n) = ap suc (length_atoms n)

all_atoms : (n v : ℕ) → Within n v → member (atoms_down n) v ≡ true
unfolding member atoms_down some
all_atoms zero v w = absurd (omega arith)
all_atoms (suc n) v w =
    ⊎_elim (λ q. second_of (eqb v (suc n)) (some (eqb v) (atoms_down n)) (all_atoms n v (record { low = w.low; high = q })))
    (λ q. first_of (eqb v (suc n)) (some (eqb v) (atoms_down n)) (eq-eqb v (suc n) q)) (le-suc_iff.0 w.high)

-- the bounds
few_bonds : (g : Graph) → suc (length g.bonds) ≡ g.atoms → g.atoms ≤ most_atoms → hosoya g < 2 ^ 64
unfolding hosoya sets_apart
few_bonds g e l =
    let p : 2 ^ length g.bonds ≤ 2 ^ 63 = pow_mono {j = 63} (omega arith) in
    let q : 2 ^ 63 < 2 ^ 64 = lit≤ tt in
    omega (arith, count_most (apart share_atom) g.bonds)

few_sets : (n : ℕ) (bs : List Bond) → Proper n bs → suc (length bs) ≡ n → n ≤ most_atoms → merrifield_simmons (record { atoms = n; bonds = bs }) < 2 ^ 64
unfolding merrifield_simmons sets_apart
few_sets n [] h e l =
    let p : 2 ^ length (atoms_down n) ≤ 2 ^ 1 = pow_mono {j = 1} (omega (arith, length_atoms n)) in
    omega (arith, count_most (apart (bonded (record { atoms = n; bonds = [] }))) (atoms_down n))
few_sets n (b ∷ bs) (one, two, differ, h) e l =
    let g : Graph = record { atoms = n; bonds = b ∷ bs } in
    let p : 2 ^ length (atoms_down n) ≤ 2 ^ 64 = pow_mono {j = 64} (omega (arith, length_atoms n)) in
    let f : apart (bonded g) (atoms_down n) ≡ false =
    found g (atoms_down n) b.one b.two differ (all_atoms n b.one one) (all_atoms n b.two two) (unfold bonded in any_head b bs b.one b.two (inl (refl, refl))) in
    omega (arith, count_less (apart (bonded g)) (atoms_down n) f)

-- both numbers
abbrev pub total : Graph → Bool → ℕ
total g true = hosoya g
total g false = merrifield_simmons g

module _ {n : ℕ} {xs : List ℕ} {root : ℕ} (r : Rooted n xs root) where
  abbrev g : Graph
  g = graph_of n xs

  m : Molecule g
  m = molecule n xs r.fine

  pub few : n ≤ most_atoms
  few = (few_atoms n xs r.fine).high

  one_fewer : length (bonds_of xs) + 1 ≡ n
  one_fewer = omega (arith, bonds_length xs, r.few)

  proper : Proper n (bonds_of xs)
  proper = each_bond n xs r.fine (Proper n) tt (λ b bs new rest. (new.one, new.two, new.differ, rest))

  pub small : (κ : Bool) → total g κ < 2 ^ 64
  small true = few_bonds g (omega (arith, one_fewer)) few
  small false = few_sets n (bonds_of xs) proper (omega (arith, one_fewer)) few

  counted : (κ : Bool) → weigh κ n (bonds_of xs) (λ v. weight 1 1) ≡ total g κ
  counted true = sym (of_bonds g proper)
  counted false = sym (of_atoms g proper)

  pub root_low : distance g root root ≡ 0
  root_low = distance_self m.sound r.start

  pub listed : BondsListed xs root
  listed = record {
    few = let f = few in omega (arith, r.few);
    start = let f = few in let w = r.start in omega arith;
    ends = λ k l. let f = few in let w = bond_within n xs r.fine k l in (omega (arith, w.0), omega (arith, w.1));
  }

  -- at the start every bond is left, and each atom weighs (1, 1)
  pub begun : (w : Bool → ℕ → Weight) → ((κ : Bool) (v : ℕ) → Within n v → w κ v ≡ weight 1 1) → Peeling n root (distance g root) (total g) (bonds_of xs) w
  unfolding bonded
  begun w ones = record {
    ends = λ u v j. (m.sound.ends u v j, far_end m.sound u v j, no_tie m r.start one_fewer u v j);
    once = λ v h ne. omega (arith, one_bond_nearer m r.start one_fewer h ne);
    waits = λ v h ne. inl (omega (arith, one_bond_nearer m r.start one_fewer h ne));
    is = λ κ. weigh_cong κ n (bonds_of xs) (ones κ) ∙ counted κ;
    good = λ κ v h. rw (ones κ v h) (omega arith);
  }

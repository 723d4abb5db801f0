-- Laws. Bytes that begin with a block's summary tell the block, whatever stands behind it. Assumes nothing.
use Prim.Native.Nat.{ℕ, zero, suc, ◌+◌, ◌*◌, ◌-◌, ◌^◌, ◌≤◌, ◌<◌, min}
use Rattle.std.specs.Prelude.{Bool, ◌≡◌, length, take, drop}
use Rattle.std.proofs.Math.Bool.{cond}
use mathlib.Core.List.{List, ◌++◌, append_assoc}
use Rattle.std.proofs.Math.Path.{refl, sym, ap}
use Rattle.std.proofs.Common.{◌∙◌, ap₂, mul-le-mul, take-append-drop, pow_mono}
use native.Mathlib.Omega.{arith}
use Rattle.std.specs.Int.Count.{ones}
use Rattle.std.proofs.Math.ListN.{length-append}
use Rattle.graph.specs.Graph.{Graph, Within, Molecule, any_joins, bonded, distance, degree, even_of, odd_of, is_at, total}
use Rattle.graph.specs.Ends.{plain_degree}
use Rattle.graph.specs.Bounds.{total_most, tame_even, tame_odd, tame_at}
use Rattle.graph.specs.Sets.{has}
use Rattle.graph.specs.Sums.{sum_cong}
use Rattle.reply.specs.Read.{read}
use Rattle.half.specs.Half.{most_atoms}
use Rattle.block.specs.Block.{graph_of, block_reply}
use Rattle.block.specs.Drawn.{set_fits, has_set}
use Rattle.block.specs.Near.{around}
use Rattle.block.specs.Opened.{set_of}
use Rattle.block.specs.Tables.{get_or-table}
use Rattle.block.specs.Told.{few_atoms, fine_drawn, drawn_plain, molecule, within_inside}
use Rattle.block.specs.Index.{indices_of, vertex_of}
use Rattle.block.specs.declared.Indices.{Indices}
use Rattle.block.specs.Digits.{count_atoms}
use Rattle.records.specs.Bytes.{little, little_bytes}
use Rattle.records.specs.Stored.{little-part}
use Rattle.records.specs.Back.{length_little, first_byte, behind, little_back}
use Rattle.sighted.specs.Sighted.{sets_in, counts_in, steps_to, seen_in, seen_of}
use Rattle.sighted.specs.Blocks.{steps_distance, counts_vertex}
use Rattle.sighted.specs.Unique.{seen_steps}
use Rattle.joining.specs.Table.{table_of, total_by, Told}
use Rattle.joining.specs.Grow.{same_six, total_parts}
use Rattle.joining.proofs.Written.{six_is, sight_is, alone_molecule}
use Rattle.summary.specs.Layout.{summary_head, atom_bytes, summary_bytes, stored_number, stored_atoms, stored_fields, near_in, set_in, seen_at, vertex_at, stored_degree, far_at, kept_of}
use Rattle.summary.specs.Summary.{head_of, atoms_from, summary_of}

-- how long a summary is
pub length_head : (x : ℕ) (v : Indices) → length (head_of x v) ≡ summary_head
unfolding head_of little_bytes
length_head x v = refl

module _ (g : Graph) where
  abbrev near_of : ℕ → ℕ
  near_of i = set_of g.atoms (bonded g i)

  pub length_atoms : (left i : ℕ) → length (atoms_from g i left) ≡ atom_bytes * left
  unfolding atoms_from
  length_atoms zero i = refl
  length_atoms (suc left) i = length-append (little_bytes 8 (near_of i)) (atoms_from g (suc i) left) ∙ omega (arith, length_little 8 (near_of i), length_atoms left (suc i))

  pub length_summary : (x : ℕ) → length (summary_of x g) ≡ summary_head + atom_bytes * g.atoms
  unfolding summary_of
  length_summary x = length-append (head_of x (indices_of g)) (atoms_from g 1 g.atoms) ∙ omega (arith, length_head x (indices_of g), length_atoms g.atoms 1)

  -- the set of each atom stands behind those before it
  atom_behind : (d cs : List ℕ) (m left i at : ℕ) → m < left → drop at d ≡ atoms_from g i left ++ cs → (ds : List ℕ) × (drop (at + atom_bytes * m) d ≡ little_bytes 8 (near_of (i + m)) ++ ds)
  unfolding atoms_from
  atom_behind d cs m zero i at l e = absurd (omega arith)
  atom_behind d cs zero (suc left) i at l e =
      let p : at + atom_bytes * 0 ≡ at = omega arith in
      let q : i + 0 ≡ i = omega arith in
      (atoms_from g (suc i) left ++ cs, rw (p, q) (e ∙ append_assoc (little_bytes 8 (near_of i)) (atoms_from g (suc i) left) cs))
  atom_behind d cs (suc m) (suc left) i at l e =
      let rest = atoms_from g (suc i) left ++ cs in
      let f = behind d at (little_bytes 8 (near_of i)) rest 8 (length_little 8 (near_of i)) (e ∙ append_assoc (little_bytes 8 (near_of i)) (atoms_from g (suc i) left) cs) in
      let (ds, h) = atom_behind d cs m left (suc i) (at + 8) (omega arith) f in
      let p : at + atom_bytes * suc m ≡ at + 8 + atom_bytes * m = omega arith in
      let q : i + suc m ≡ suc i + m = omega arith in
      (ds, rw (p, q) h)

module _ (x n : ℕ) (xs : List ℕ) (fine : block_reply n xs ≡ read tt) where
  abbrev g : Graph
  g = graph_of n xs

  few : Within most_atoms n
  few = few_atoms n xs fine

  mole : Molecule g
  mole = molecule n xs fine

  -- a place has room for it
  pub summary_fits : length (summary_of x (graph_of n xs)) ≤ summary_bytes
  summary_fits = omega (arith, few, length_summary g x)

  -- bytes that begin with the summary, whatever stands behind it
  module _ (b : List ℕ) (begins : take (length (summary_of x (graph_of n xs))) b ≡ summary_of x (graph_of n xs)) where
    abbrev rest : List ℕ
    rest = drop (length (summary_of x g)) b

    whole : b ≡ head_of x (indices_of g) ++ (atoms_from g 1 n ++ rest)
    unfolding summary_of
    whole = sym (take-append-drop (length (summary_of x g)) b) ∙ ap (λ (l : List ℕ). l ++ rest) begins ∙ append_assoc (head_of x (indices_of g)) (atoms_from g 1 n) rest

    behind_head : drop summary_head b ≡ atoms_from g 1 n ++ rest
    unfolding head_of little_bytes
    behind_head = ap (drop summary_head) whole

    -- the set of an atom is that of its neighbours
    pub set_told : (i : ℕ) → Within n i → set_in b i ≡ set_of n (bonded g i)
    set_told i w =
        let room : 2 ^ n ≤ 2 ^ 64 = pow_mono {j = 64} few.high in
        let (ds, e) = atom_behind g b rest (i - 1) n 1 summary_head (omega (arith, w.low, w.high)) behind_head in
        let j : 1 + (i - 1) ≡ i = omega (arith, w.low) in
        little-part 8 b summary_head (atom_bytes * most_atoms) (atom_bytes * (i - 1)) (omega (arith, few, w.low, w.high))
        ∙ little_back 8 (set_of n (bonded g i)) b (summary_head + atom_bytes * (i - 1)) ds (omega (arith, set_fits n (bonded g i), room)) (e ∙ ap (λ (v : ℕ). little_bytes 8 (near_of g v) ++ ds) j)

    shown : (u v : ℕ) → Within n u → Within n v → has (around (sets_in (near_in b)) u) v ≡ bonded g u v
    unfolding sets_in
    shown u v wu wv =
        ap (λ (m : ℕ). has m v) (get_or-table most_atoms (λ p. little 8 (near_in b) (8 * p)) (u - 1) 0 (omega (arith, few, wu.low, wu.high)) ∙ set_told u wu)
        ∙ has_set n (bonded g u) v wv

    -- the parts of the block fit four bytes
    big : (v : ℕ) → v ≤ n * (n * n) → v < 4294967296
    big v h =
        let q : n * n ≤ 64 * 64 = mul-le-mul few.high few.high in
        let r : n * (n * n) ≤ 64 * (64 * 64) = mul-le-mul few.high q in
        omega arith

    pub atoms_told : stored_atoms b ≡ n
    unfolding indices_of head_of little_bytes
    atoms_told = omega (arith, first_byte b 2 n _ (ap (drop 2) whole), few)

    -- what is seen over its sets is what is counted from an atom, and how far the others are
    pub vertex_told : (i : ℕ) → Within n i → vertex_at b i ≡ vertex_of g i
    unfolding seen_at seen_of seen_in
    vertex_told i w =
        let e : min (stored_atoms b) most_atoms ≡ n = omega (arith, atoms_told, few) in
        ap (λ (m : ℕ). counts_in (sets_in (near_in b)) m i m) e ∙ counts_vertex g mole (sets_in (near_in b)) shown i w

    pub far_told : (i j : ℕ) → Within n i → Within n j → far_at b i j ≡ distance g i j
    unfolding seen_at
    far_told i j w v =
        let e : min (stored_atoms b) most_atoms ≡ n = omega (arith, atoms_told, few) in
        seen_steps (sets_in (near_in b)) (stored_atoms b) i j (omega (arith, e, v.low, v.high))
        ∙ ap (λ (m : ℕ). steps_to (sets_in (near_in b)) m i j) e
        ∙ steps_distance g mole (sets_in (near_in b)) shown i w j v

    pub ends_told : (i : ℕ) → Within n i → stored_degree b i ≡ degree g.bonds i
    unfolding stored_degree bonded any_joins
    ends_told i w =
        rw (within_inside most_atoms i (omega (arith, few, w.low, w.high)))
        (ap ones (set_told i w) ∙ count_atoms n (set_of n (bonded g i)) (set_fits n (bonded g i)) ∙ sum_cong n (λ j v. ap (λ (t : Bool). cond t 1 0) (has_set n (bonded g i) j v)) ∙ plain_degree n g.bonds (drawn_plain n xs (fine_drawn n xs fine)) i)

    pub fields_told : stored_fields b ≡ indices_of g
    unfolding stored_fields indices_of head_of little_bytes total_by total
    fields_told =
        let E = little_back 4 (total g even_of) b 4 _ (big _ (total_most mole tame_even)) (ap (drop 4) whole) in
        let O = little_back 4 (total g odd_of) b 8 _ (big _ (total_most mole tame_odd)) (ap (drop 8) whole) in
        let P = little_back 4 (total g (is_at 3)) b 12 _ (big _ (total_most mole (tame_at 3))) (ap (drop 12) whole) in
        same_six atoms_told (ap₂ ◌+◌ E O ∙ sym (total_parts (table_of g))) E O P (first_byte b 3 _ _ (ap (drop 3) whole))

    pub number_told : x < 65536 → stored_number b ≡ x
    unfolding head_of little_bytes
    number_told h = little_back 2 x b 0 _ h whole

    -- A PLACE THAT BEGINS WITH A BLOCK'S SUMMARY tells the block
    pub summary_told : Told (kept_of b) (table_of g)
    summary_told = record {
      six = fields_told ∙ sym (six_is g);
      sight = λ i w. vertex_told i w ∙ sym (sight_is g i);
      far = far_told;
      alone = λ i w. alone_molecule mole w;
    }

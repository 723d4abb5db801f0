-- Laws. What is read of a text is a block that is not refused. Assumes nothing.
use Rattle.std.specs.Prelude.{ℕ, ◌%◌, not, ◌≡◌, ltb}
use mathlib.Core.List.{List, []}
use Rattle.std.proofs.Common.{sym, ◌∙◌}
use native.Mathlib.Omega.{arith}
use borrow.Author.Tests.{eq-eqb, le-ltb, ltb-false, not-false}
use Rattle.std.proofs.Math.ListN.{length}
use Rattle.graph.specs.Graph.{Graph, connected}
use Rattle.reply.specs.Read.{read, refuse_if, is_outside}
use Rattle.reply.specs.Chain.{then-read, if_read}
use Rattle.block.specs.Block.{most_atoms, most_bytes, bonds_reply, block_reply}
use Rattle.adjacency.specs.Neighbours.{numbers, bytes_reply, atom_count_reply, Step, steps, bonds_in, steps_reply, bonds_length, bond_list_bytes, molecule, block_of, neighbours_reply}
use Rattle.adjacency.specs.Work.{until, any_high}
use Rattle.adjacency.proofs.Blocks.{bytes_length, bytes_bonds, until_all, steps_until}

module _ (n : ℕ) (ss : List Step) where
  bonds_read : steps_reply n [] ss ≡ read tt → bonds_reply n [] (bonds_in ss) ≡ read tt
  bonds_read e =
      let (u, p, q) = then-read (bonds_reply n [] (until n ss)) _ (sym (steps_until n [] ss) ∙ e) in
      rw (← until_all n ss (if_read (any_high n ss) 3 _ q)) p

  of_steps : (room : ℕ) {g : Graph} → block_of n ss room ≡ read g → (molecule n ss ≡ g) × (block_reply n (bond_list_bytes (bonds_in ss)) ≡ read tt)
  unfolding block_of block_reply
  of_steps room {g} e =
      let (u, a, f) = then-read (refuse_if (is_outside most_atoms n) 1 0) _ e in
      let (v, b, h) = then-read (refuse_if (ltb most_bytes (bonds_length (bonds_in ss))) 2 0) _ f in
      let (w, c, i) = then-read (steps_reply n [] ss) _ h in
      let (x, d, j) = then-read (refuse_if (not (connected (molecule n ss))) 7 0) _ i in
      let (y, k, r) = then-read (refuse_if (ltb room (bonds_length (bonds_in ss))) 9 0) _ j in
      let l = bytes_length (bonds_in ss) in
      let short = ltb-false most_bytes (bonds_length (bonds_in ss)) (if_read (ltb most_bytes (bonds_length (bonds_in ss))) 2 0 b) in
      let even : length (bond_list_bytes (bonds_in ss)) % 2 ≡ 0 = omega arith in
      let whole = not-false (connected (molecule n ss)) (if_read (not (connected (molecule n ss))) 7 0 d) in
      (cc r, rw (if_read (is_outside most_atoms n) 1 0 a, eq-eqb (length (bond_list_bytes (bonds_in ss)) % 2) 0 even, le-ltb most_bytes (length (bond_list_bytes (bonds_in ss))) (omega arith), bytes_bonds (bonds_in ss), bonds_read c, whole))

pub read_fine : (text : List ℕ) (room : ℕ) (g : Graph) → neighbours_reply text room ≡ read g → block_reply g.atoms (bond_list_bytes g.bonds) ≡ read tt
unfolding neighbours_reply
read_fine text room g e =
    let (u, a, f) = then-read (bytes_reply text) _ e in
    let (c, b, h) = then-read (atom_count_reply (length text) (numbers text)) _ f in
    let (p, q) = of_steps c.count (steps c.rest) room h in
    rw (← p) q

-- Laws. FROM EVERY ROOT the recursion of [Ilić, Ilić] gives the two numbers over sets. Assumes nothing.
use Prim.Native.Nat.{ℕ, suc}
use mathlib.Core.Bool.{Bool, true, false, not}
use mathlib.Core.List.{List}
use mathlib.Core.Path.{◌≡◌, refl, sym, ap, ◌∙◌}
use native.Mathlib.Omega.{arith}
use borrow.Author.Tests.{eqb-true, not-false}
use lib.Dec.{eqb}
use lib.ListN.{length}
use Rattle.graph.specs.Graph.{Graph, Within, distance}
use Rattle.graph.specs.Distance.{distance_below}
use Rattle.reply.specs.Read.{read, refuse_if, is_outside}
use Rattle.reply.specs.Chain.{then-read, if_read}
use Rattle.block.specs.Block.{bonds_of, graph_of, block_reply}
use Rattle.block.specs.Faults.{inside}
use Rattle.block.specs.Numbered.{bonds_length}
use Rattle.block.specs.Told.{molecule}
use Rattle.sets.specs.Sets.{hosoya, merrifield_simmons}
use Rattle.sets.specs.Recursion.{from_root}
use Rattle.sets.specs.Reply.{sets_of, tree_reply, sets_from_reply}
use Rattle.sets.specs.Merging.{weight, Rooted}
use Rattle.sets.specs.declared.Sets.{Sets}
use Rattle.sets.proofs.Weigh.{whole}
use Rattle.sets.proofs.Trees.{total, few, root_low, begun}
use Rattle.sets.proofs.Branches.{kept, branch_fair, branch_kept}
use Rattle.sets.proofs.Rooting.{rooted}

module _ {n : ℕ} {xs : List ℕ} {root : ℕ} (r : Rooted n xs root) where
  abbrev g : Graph
  g = graph_of n xs

  counted : (κ : Bool) → whole κ (kept κ (from_root g root)) ≡ total g κ
  counted κ =
      ap (whole κ) (sym (branch_kept (bonds_of xs) κ n 0 root))
      ∙ rooted {δ = distance g root} (omega (arith, few r)) (root_low r) r.start (λ v h. distance_below (molecule n xs r.fine) r.start h)
      (length (bonds_of xs)) (bonds_of xs) (λ κ v. weight 1 1) refl (begun r (λ κ v. weight 1 1) (λ κ v h. refl)) κ

  root_counts : ((from_root g root).h ≡ hosoya g) × ((from_root g root).i ≡ merrifield_simmons g)
  root_counts = (counted true, omega (arith, counted false, (branch_fair (bonds_of xs) n 0 root).within))

-- a block that is not refused and has one bond fewer than atoms, and any atom of it
pub every_root : (n : ℕ) (xs : List ℕ) → block_reply n xs ≡ read tt → suc (length (bonds_of xs)) ≡ n → (root : ℕ) → Within n root
    → ((from_root (graph_of n xs) root).h ≡ hosoya (graph_of n xs)) × ((from_root (graph_of n xs) root).i ≡ merrifield_simmons (graph_of n xs))
every_root n xs fine few root start = root_counts (record { fine = fine; few = omega (arith, bonds_length xs); start = start })

-- what `count_from` answers is what the recursion gives from that very root
pub counts_from : (n : ℕ) (xs : List ℕ) (root : ℕ) (s : Sets) → sets_from_reply n xs root ≡ read s
    → (s.bonds ≡ (from_root (graph_of n xs) root).h) × (s.atoms ≡ (from_root (graph_of n xs) root).i)
unfolding sets_from_reply tree_reply sets_of
counts_from n xs root s e =
    let (u, fine, f) = then-read (block_reply n xs) _ e in
    let (v, here, h) = then-read (refuse_if (is_outside n root) 18 0) _ f in
    let (w, tree, k) = then-read (refuse_if (not (eqb (suc (length (bonds_of xs))) n)) 34 0) (λ _. read (sets_of (graph_of n xs))) h in
    let q = every_root n xs fine (eqb-true _ n (not-false _ (if_read _ 34 0 tree))) root (inside n root (if_read _ 18 0 here)) in
    let z : sets_of (graph_of n xs) ≡ s = cc in
    (sym (q.0 ∙ ap (λ (t : Sets). t.bonds) z), sym (q.1 ∙ ap (λ (t : Sets). t.atoms) z))

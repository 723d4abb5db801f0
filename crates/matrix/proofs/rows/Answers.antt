use Prim.Native.Nat.{ℕ, suc}
use mathlib.Core.Bool.{Bool, true, false, true≢false}
use mathlib.Core.List.{List, []}
use mathlib.Core.Path.{◌≡◌, refl, sym, ap, ◌∙◌}
use native.Mathlib.Omega.{arith}
use native.Mathlib.Numerals.{add-one}
use Rattle.std.specs.Prelude.{Result, is_ok}
use Rattle.reply.specs.Read.{Read, refused, read, as_result}
use Rattle.reply.specs.declared.Refusal.{Refusal}
use Rattle.block.specs.Block.{most_atoms, block_reply}
use Rattle.block.specs.Rows.{no_row, row_reply, said_row, rows_of, far_of, far_after}
use Rattle.block.specs.declared.OneRow.{OneRow}
use Rattle.block.proofs.Filling.{Filled, fill_start, fill_next, fill_end, kept, stored}
use Rattle.matrix.proofs.rows.Goals as goal

pub loop-i-init : goal.loop-i-init
loop-i-init c = (omega arith, fill_start, fill_start)

pub loop-i-preserved : goal.loop-i-preserved
loop-i-preserved c =
    let l = c.loop-i in
    let i = l.i in
    let e = rw (add-one i) at c.row-seen.ensures in (
      omega arith,
      rw (add-one i) (fill_next _ i _ (omega arith) l.invariant.1 (ap (λ (x : OneRow). x.row) e)),
      rw (add-one i) (fill_next _ i _ (omega arith) l.invariant.2 (ap (λ (x : OneRow). x.largest) e)),
    )

-- what the loop has made
made : (n : ℕ) (xs : List ℕ) (rows : List (List ℕ)) (deep : List ℕ) → Filled (λ k. (said_row (row_reply n xs (suc k))).row) no_row [] rows most_atoms
    → Filled (λ k. (said_row (row_reply n xs (suc k))).largest) 0 0 deep most_atoms → (rows ≡ rows_of n xs) × (deep ≡ far_of n xs)
unfolding rows_of far_of
made n xs rows deep p q = (
  fill_end (λ k. (said_row (row_reply n xs (suc k))).row) most_atoms (λ k l. refl) (λ k l m. absurd (omega arith)) rows p,
  fill_end (λ k. (said_row (row_reply n xs (suc k))).largest) most_atoms (λ k l. refl) (λ k l m. absurd (omega arith)) deep q,
)

-- the lent row, by whether the block is refused
module _ (n : ℕ) (xs deep old : List ℕ) (is : deep ≡ far_of n xs) where
  far_stored : (x : Read (Unit {0})) → block_reply n xs ≡ x → is_ok (as_result x) ≡ true → deep ≡ far_after n xs old
  far_stored (refused r) b e = absurd (true≢false (sym e))
  far_stored (read u) b e = stored _ _ b _ _ _ is

  far_kept : (x : Read (Unit {0})) → block_reply n xs ≡ x → is_ok (as_result x) ≡ false → old ≡ far_after n xs old
  far_kept (refused r) b e = kept _ _ _ b _ _
  far_kept (read u) b e = absurd (true≢false e)

-- what the call told
said : (x : Read (Unit {0})) {a : Result (Unit {0}) Refusal} {b c : Bool} → a ≡ as_result x → b ≡ is_ok a → b ≡ c → is_ok (as_result x) ≡ c
said x p q r = ap is_ok (sym p) ∙ sym q ∙ r

pub returns-then-is_ok : goal.returns-then-is_ok
returns-then-is_ok c =
    let l = c.loop-i in
    let e : l.i ≡ most_atoms = omega arith in
    let m = made _ _ _ _ (rw e at l.invariant.1) (rw e at l.invariant.2) in
    record { rows = m.0; far = far_stored _ _ _ _ m.1 _ refl (said _ c.check.ensures c.is_ok.ensures.value c.if-is_ok.true) }

pub returns-else-is_ok : goal.returns-else-is_ok
returns-else-is_ok c =
    let l = c.loop-i in
    let e : l.i ≡ most_atoms = omega arith in
    let m = made _ _ _ _ (rw e at l.invariant.1) (rw e at l.invariant.2) in
    record { rows = m.0; far = far_kept _ _ _ _ m.1 _ refl (said _ c.check.ensures c.is_ok.ensures.value c.if-is_ok.false) }

use Prim.Native.Nat.{◌%◌, ◌≤◌}
use mathlib.Core.Bool.{true, false, true≢false, false≢true}
use mathlib.Core.Logic.{inl, inr, ⊎_elim}
use mathlib.Core.Path.{◌≡◌, sym, ap, ◌∙◌}
use native.Mathlib.Omega.{arith}
use borrow.Author.Tests.{not-false}
use lib.Dec.{eqb, ltb}
use lib.ListN.{length}
use Rattle.reply.specs.Read.{is_outside}
use Rattle.block.specs.Block.{most_atoms, most_bytes}
use Rattle.block.specs.Faults.{inside}
use Rattle.block.proofs.Replies.{reply_none}
use Rattle.block.proofs.Sizes.{few_fine}
use Rattle.block.proofs.Sketching.{undrawn, sketch_sized}
use Rattle.block.proofs.draw.Goals as goal
use Rattle.block.proofs.draw.Goals.{Else-bonds-gt-BYTES}

pub returns-then-is_outside : goal.returns-then-is_outside
returns-then-is_outside c = (
  undrawn (reply_none _ _ (⊎_elim (λ t. inl (sym c.is_outside.ensures ∙ t.if-is_outside.true)) (⊎_elim (λ t. inr (inl t.if-bonds-ne0.true-raw)) (λ t. inr (inr t.if-bonds-gt-BYTES.true-raw))) c.then-is_outside.branch-raw)),
  λ e. absurd (false≢true e),
)

-- what has passed: the atom count, the number of bytes
sized : (c : Else-bonds-gt-BYTES) → is_outside most_atoms c.args.n ≡ false
sized c = sym c.is_outside.ensures ∙ c.if-is_outside.false

paired : (c : Else-bonds-gt-BYTES) → eqb (length c.args.bonds.now % 2) 0 ≡ true
paired c = not-false _ c.if-bonds-ne0.false-raw

few : (c : Else-bonds-gt-BYTES) → ltb most_bytes (length c.args.bonds.now) ≡ false
few c = c.if-bonds-gt-BYTES.false-raw

room : (c : Else-bonds-gt-BYTES) → c.args.n ≤ most_atoms
room c = (inside most_atoms _ (sized c)).high

pub sketched-s-requires : goal.sketched-s-requires
sketched-s-requires c = (room (goal.at.sketched-s-requires c).Else-bonds-gt-BYTES, c.requires)

pub is_plain-plain-requires : goal.is_plain-plain-requires
is_plain-plain-requires c = (room (goal.at.is_plain-plain-requires c).Else-bonds-gt-BYTES, omega (arith, ap length c.requires))

pub returns-then-s : goal.returns-then-s
returns-then-s c =
    let S = c.sketched-s.ensures in
    let f = c.if-s.true in
    let Z = c.is_plain-plain.ensures in
    (sketch_sized _ _ S f Z, λ e. few_fine _ _ _ (S.shown f) (sized (goal.at.returns-then-s c).Else-bonds-gt-BYTES) (paired (goal.at.returns-then-s c).Else-bonds-gt-BYTES) (few (goal.at.returns-then-s c).Else-bonds-gt-BYTES) (Z.few e))

pub returns-else-s : goal.returns-else-s
returns-else-s c = (c.sketched-s.ensures, λ e. absurd (true≢false (sym e ∙ c.if-s.false)))
